use Rattle.std.proofs.Common.{get_or, refl}
use Rattle.ep_truth.proofs.TableLabelLemmas.{joins_and}
use Rattle.ep_truth.proofs.table_labels.join_and.Goals as goal

pub loop-n-preserved : goal.loop-n-preserved
loop-n-preserved c =
    let ns = c.args.numbers.now in
    let i = c.loop-n.n-index in
    joins_and c.args.worlds c.args.rows.now ns i 0 c.loop-n-test.true c.loop-n.joined c.index-rows-n.result c.and_with.new.self
    c.requires.long c.requires.numbers (get_or ns i 0) refl c.index-rows-n.is c.loop-n.invariant c.and_with.ensures
