use Rattle.std.proofs.lemmas.Result.{err_from_is_err_and}
use Rattle.ep_lex.specs.Tokens.{spellings}
use Rattle.ep_reader.proofs.Sources.{sound_tokens}
use Rattle.ep_reader.proofs.Whole.{whole_from, whole_stops}
use Rattle.ep_reader.proofs.parse.parse_whole.Goals as goal

pub new-reader-requires : goal.new-reader-requires
new-reader-requires g c = sound_tokens c.args.bytes.now c.args.tokens.now.tokens c.requires

pub returns : goal.returns
returns g c = (
  c.expect_end.new.self.0,
  c.expect_end.new.self.1,
  whole_from g.T.Parse.reads (spellings c.args.bytes.now c.args.tokens.now.tokens) c.in_ok-value.value _ _ _ _ (rw c.new-reader.ensures at c.in_ok-value.ensures) c.in_ok-expect_end.ensures,
)

pub returns-in_err-expect_end : goal.returns-in_err-expect_end
returns-in_err-expect_end g c =
    let p = err_from_is_err_and c.from_residual-in_err-expect_end.result c.from_residual-in_err-expect_end.ensures.1 in
    rw (p.1, p.2)
    (whole_stops g.T.Parse.reads (spellings c.args.bytes.now c.args.tokens.now.tokens) c.in_ok-value.value _ _ (rw c.new-reader.ensures at c.in_ok-value.ensures) _ c.in_err-expect_end.ensures)
