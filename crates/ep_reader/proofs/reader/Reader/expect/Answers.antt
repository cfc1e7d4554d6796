use Rattle.std.proofs.Common.{◌≡◌, true, ◌∙◌}
use Rattle.ep_lex.specs.Tokens.{spellings}
use Rattle.ep_reader.specs.Reading.{begins}
use Rattle.ep_reader.proofs.Sources.{key-begins, one_on}
use Rattle.ep_reader.proofs.reader.Reader.expect.Goals as goal

pub returns-then-sees : goal.returns-then-sees
returns-then-sees c =
    let here : begins c.args.terminal c.args.self.now.1 ≡ true = cc in
    key-begins c.args.terminal c.args.self.now.0 c.args.self.now.1 here
    ∙ one_on (λ at. at) c.args.self.now c.self.inside.at (spellings c.self.inside.bytes.now c.self.inside.tokens.now.tokens) c.self.view_is
