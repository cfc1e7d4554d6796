use Rattle.std.proofs.Common.{refl, sym, subst, get_or}
use Rattle.ep_theory.specs.Rising.{IsIn}
use Rattle.ep_theory.proofs.CallerLemmas.{IsIn-at}
use Rattle.ep_apart.specs.Pruning.{Names}
use Rattle.ep_apart.proofs.prune.renumbered.Goals as goal

pub bounds-numbers-i : goal.bounds-numbers-i
bounds-numbers-i c = c.requires c.in-Not.i (subst (λ l. Names l c.in-Not.i) (sym c.in-Not.is) refl)

pub all_renumbered-requires : goal.all_renumbered-requires
all_renumbered-requires c = λ k d l.
    let ns = c.as_slice.result.now in
    c.requires (get_or ns k d) (subst (λ x. Names x (get_or ns k d)) (sym c.in-And.is) (subst (IsIn (get_or ns k d)) c.as_slice.ensures (IsIn-at ns k d l)))

pub bounds-numbers-i-in-Knows : goal.bounds-numbers-i-in-Knows
bounds-numbers-i-in-Knows c = c.requires c.in-Knows.i (subst (λ l. Names l c.in-Knows.i) (sym c.in-Knows.is) refl)
