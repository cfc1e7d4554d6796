use Rattle.std.proofs.Common.{◌∙◌, ap, ◌++◌, map}
use Rattle.std.specs.Ordering.{nat_cmp}
use Rattle.ep_theory.specs.Rising.{rising}
use Rattle.ep_theory.specs.Events.{event_at}
use Rattle.ep_event.specs.Built.{set_of}
use Rattle.ep_dynamic.proofs.EventLemmas.{atoms_of_both}
use Rattle.ep_dynamic.proofs.events.atoms_in_turn.Goals as goal

pub returns : goal.returns
returns c =
    c.distinct.ensures ∙ ap (rising nat_cmp) (c.in_ok-put_atoms-2.ensures ∙ ap (λ xs. xs ++ map (λ set. set.atom.n) c.as_slice-2.result.now) (c.in_ok-put_atoms.ensures ∙ ap (λ xs. xs ++ map (λ set. set.atom.n) c.as_slice.result.now) c.new-atoms.ensures)
    ∙ atoms_of_both (event_at c.args.a.now c.args.at.0) (event_at c.args.b.now c.args.at.1) c.as_slice.result.now c.as_slice-2.result.now
    (ap (map set_of) c.as_slice.ensures ∙ c.sets.ensures.value) (ap (map set_of) c.as_slice-2.ensures ∙ c.sets-2.ensures.value))
