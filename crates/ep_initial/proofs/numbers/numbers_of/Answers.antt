use Rattle.std.proofs.Common.{[], ◌∷◌, ◌++◌, sym, ◌∙◌}
use Rattle.ep_universe.specs.Atoms.{atom_at}
use Rattle.ep_initial.proofs.ListLemmas.{map_more}
use Rattle.ep_initial.proofs.numbers.numbers_of.Goals as goal

pub loop-atom-preserved : goal.loop-atom-preserved
loop-atom-preserved c =
    let f = atom_at c.args.universe.now.names [] in
    c.in_ok-push.ensures.ok
    ∙ (λ i. c.loop-atom.invariant i ++ c.in_ok-atom_at.ensures i ∷ [])
    ∙ sym (map_more f c.args.atoms.now c.loop-atom.atom-index c.atom-item.result c.loop-atom-test.true c.atom-item.is)
