use Rattle.std.proofs.Common.{ap, sym, ◌∙◌, ◌++◌}
use Rattle.ep_base.specs.Refusals.{told}
use Rattle.ep_types.specs.Faults.{first_error, first_fault}
use Rattle.ep_types.specs.Names.{names_of}
use Rattle.ep_types.specs.Places.{scope}
use Rattle.ep_types.specs.Tasks.{world_uses, world_names, ends_uses}
use Rattle.ep_types.proofs.Judged.{told_judged, behind_judged}
use Rattle.ep_types.proofs.init.check_worlds_and_links.Goals as goal

pub returns : goal.returns
returns c =
    let s = scope c.args.names.now c.args.frame.now in
    let before = names_of c.args.before.now in
    let list = c.args.list.now in
    let all = c.in_ok-check_worlds.ensures.after ∙ ap (λ l. before ++ world_names l) c.as_slice.ensures in
    behind_judged (world_uses before list s) (ends_uses (before ++ world_names list) c.args.chosen.now c.args.links.now s) c.check_ends.result
    (ap (λ l. first_fault (world_uses before l s)) (sym c.as_slice.ensures) ∙ c.in_ok-check_worlds.ensures.judged)
    (told_judged (ends_uses (before ++ world_names list) c.args.chosen.now c.args.links.now s) c.check_ends.result
    (c.check_ends.ensures ∙ (λ i. told (first_error (ends_uses (all i) (c.as_slice-2.ensures i) (c.as_slice-3.ensures i) s)))))
