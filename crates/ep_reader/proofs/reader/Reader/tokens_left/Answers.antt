use Rattle.ep_reader.proofs.Sources.{left-length}
use Rattle.ep_reader.proofs.reader.Reader.tokens_left.Goals as goal

pub returns : goal.returns
returns c = left-length c.args.self.now c.self.inside.at c.self.inside.count c.self.inside.bytes.now c.self.inside.tokens.now.tokens c.self.view_is c.self.invariant.1
