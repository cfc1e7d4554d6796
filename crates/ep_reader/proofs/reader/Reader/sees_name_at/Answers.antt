use Rattle.std.proofs.Common.{sym, ◌∙◌}
use Rattle.ep_reader.proofs.Sources.{heads-some}
use Rattle.ep_tree.specs.Terminals.{is_name}
use Rattle.ep_reader.proofs.reader.Reader.sees_name_at.Goals as goal

pub returns-in-Some : goal.returns-in-Some
returns-in-Some c = c.is_name.ensures ∙ sym (heads-some is_name _ _ (c.in-Some.ensures.text))
