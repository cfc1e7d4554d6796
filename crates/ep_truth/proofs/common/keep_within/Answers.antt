use Rattle.std.proofs.Common.{length, sym, ap, ◌∙◌}
use Rattle.ep_logic.proofs.CallerLemmas.{length-table}
use Rattle.ep_truth.specs.Labels.{knows_test}
use Rattle.ep_truth.proofs.common.keep_within.Goals as goal

pub subset-none-requires : goal.subset-none-requires
subset-none-requires c =
    let s = c.args.s.now in
    c.requires.long ∙ sym (ap length c.in_ok-within.ensures ∙ length-table (knows_test s c.args.a.n c.args.row.now) s.worlds)

pub and_with-requires : goal.and_with-requires
and_with-requires c =
    let s = c.args.s.now in
    c.requires.long ∙ sym (ap length c.in_ok-within.ensures ∙ length-table (knows_test s c.args.a.n c.args.row.now) s.worlds)
