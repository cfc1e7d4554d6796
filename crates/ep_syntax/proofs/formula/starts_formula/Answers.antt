use Rattle.std.proofs.Common.{◌≡◌, true, false, ap, ◌∙◌}
use Rattle.std.specs.Prelude.{is_some}
use Rattle.ep_reader.specs.Reading.{name_begins}
use Rattle.ep_syntax.proofs.FormulaSteps.{starts-name, starts-other}
use Rattle.ep_syntax.proofs.formula.starts_formula.Goals as goal

pub returns-then-sees_name : goal.returns-then-sees_name
returns-then-sees_name c = let name : name_begins c.args.reader.now.1 ≡ true = cc in c.sees_name.ensures ∙ name ∙ starts-name c.args.reader.now.1 name

pub returns-else-sees_name : goal.returns-else-sees_name
returns-else-sees_name c =
    let other : name_begins c.args.reader.now.1 ≡ false = cc in
    c.is_some.ensures ∙ ap is_some c.starter.ensures ∙ starts-other c.args.reader.now.1 other
