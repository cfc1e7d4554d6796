use Rattle.ep_tree.proofs.ReadLemmas.{is_read}
use Rattle.ep_tree.proofs.laws.trees_of_texts_are_read.Goals as goal

pub returns : goal.returns
returns c = is_read
