use Rattle.std.proofs.Common.{◌≢◌, All, sym, subst}
use Rattle.ep_types.specs.Names.{Text}
use Rattle.ep_universe.proofs.CallerLemmas.{new_name}
use Rattle.ep_initial.proofs.links.world_table.Goals as goal

pub push-requires-clause-new : goal.push-requires-clause-new
push-requires-clause-new c =
    let x = c.world-item.result in
    let new = new_name (λ z. z.name.text) c.args.worlds.now c.loop-world.world-index x c.requires.apart c.loop-world-test.true c.world-item.is in
    let P : Text → Type 0 = λ t. All (λ known. known ≢ t) c.loop-world.names in
    subst P (sym c.in_ok-copy_text.ensures) (subst (All (λ known. known ≢ x.name.text)) (sym c.loop-world.invariant) new)
