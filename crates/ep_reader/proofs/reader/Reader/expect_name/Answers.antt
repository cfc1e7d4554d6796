use Rattle.std.proofs.Common.{◌≡◌, true, false, Err, sym, ap, ◌∙◌}
use Rattle.ep_lex.specs.Tokens.{spellings}
use Rattle.ep_tree.specs.Terminals.{is_name}
use Rattle.ep_reader.specs.Reading.{Syntax}
use Rattle.ep_reader.proofs.Sources.{name-first, name-not, one_on}
use Rattle.ep_reader.proofs.reader.Reader.expect_name.Goals as goal

pub returns-then-not-is_name : goal.returns-then-not-is_name
returns-then-not-is_name c =
    let not_name : is_name c.in-Some.text.now ≡ false = cc in
    name-not c.args.self.now.0 c.args.self.now.1 _ c.in-Some.ensures.text not_name ∙ ap (λ v. Err (Syntax v.0)) (sym c.self.view_is)

pub returns : goal.returns
returns c =
    let is : is_name c.in-Some.text.now ≡ true = cc in
    rw c.in_ok-text.ensures
    (name-first c.args.self.now.0 c.args.self.now.1 _ c.in-Some.ensures.text is
    ∙ one_on (λ at. record { token = at; text = c.in-Some.text.now }) c.args.self.now c.self.inside.at (spellings c.self.inside.bytes.now c.self.inside.tokens.now.tokens) c.self.view_is)
