use Rattle.std.proofs.Common.{◌≡◌, true, false, Err, sym, ap, ◌∙◌}
use Rattle.std.specs.Str.Parse.{digits_value}
use Rattle.ep_lex.specs.Tokens.{spellings}
use Rattle.ep_reader.specs.Reading.{is_count}
use Rattle.ep_reader.specs.Reading.{Syntax}
use Rattle.ep_reader.proofs.Sources.{one_on}
use Rattle.ep_reader.proofs.CountLaws.{count-first, count-not}
use Rattle.ep_reader.proofs.reader.Reader.expect_count.Goals as goal

pub returns-then-not-is_count : goal.returns-then-not-is_count
returns-then-not-is_count c =
    let not_count : is_count c.in-Some.text.now ≡ false = cc in
    count-not c.args.self.now.0 c.args.self.now.1 _ c.in-Some.ensures.text not_count ∙ ap (λ v. Err (Syntax v.0)) (sym c.self.view_is)

pub returns : goal.returns
returns c =
    let is : is_count c.in-Some.text.now ≡ true = cc in
    rw c.value_of-value.ensures
    (count-first c.args.self.now.0 c.args.self.now.1 _ c.in-Some.ensures.text is
    ∙ one_on (λ _. digits_value 10 c.in-Some.text.now) c.args.self.now c.self.inside.at (spellings c.self.inside.bytes.now c.self.inside.tokens.now.tokens) c.self.view_is)
