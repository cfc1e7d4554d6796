use Rattle.std.proofs.Common.{◌+◌, drop, Some, sym, ap, ◌∙◌}
use Rattle.std.specs.Option.{option_map}
use Rattle.ep_lex.specs.Tokens.{spelling}
use Rattle.ep_reader.specs.Reading.{first_token}
use Rattle.ep_reader.proofs.Sources.{within_at, piece_at, first_token-ahead}
use Rattle.ep_reader.proofs.reader.Reader.peek.Goals as goal

pub bytes_of-requires : goal.bytes_of-requires
bytes_of-requires c = within_at c.self.inside.bytes.now c.self.inside.tokens.now.tokens (c.self.inside.at + c.args.by) c.token-token.result c.self.invariant.3 c.token-token.ensures

pub returns-then-at-self-clause-text : goal.returns-then-at-self-clause-text
returns-then-at-self-clause-text c =
    ap Some c.bytes_of.ensures ∙ sym (ap (option_map (spelling c.self.inside.bytes.now)) c.token-token.ensures)
    ∙ sym (first_token-ahead c.self.inside.bytes.now c.self.inside.tokens.now.tokens c.self.inside.at c.args.by)
    ∙ ap (λ v. first_token (drop c.args.by v.1)) c.self.view_is

pub returns-then-at-self-clause-kind : goal.returns-then-at-self-clause-kind
returns-then-at-self-clause-kind c = rw c.bytes_of.ensures (piece_at _ _ _ _ c.self.invariant.3 c.token-token.ensures)
