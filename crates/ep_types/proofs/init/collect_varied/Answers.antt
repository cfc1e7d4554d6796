use Rattle.std.proofs.Common.{subst, sym, ◌<◌, length, ◌+◌, take, List, arith}
use Rattle.ep_types.specs.Atoms.{IsSetOf}
use Rattle.ep_types.specs.Names.{Text}
use Rattle.ep_types.proofs.AtomLemmas.{set_grown}
use Rattle.ep_types.proofs.init.collect_varied.Goals as goal

pub loop-entry-preserved : goal.loop-entry-preserved
loop-entry-preserved c =
    let i = c.loop-entry.entry-index in
    let here : i < length c.args.list.now = omega arith in
    let P : List (List Text) → Type 0 = λ set. IsSetOf (take (i + 1) c.args.list.now) set in
    subst P (sym c.in_ok-add.ensures) (set_grown c.args.list.now i c.entry-item.result c.loop-entry.set here c.entry-item.is c.loop-entry.invariant)
