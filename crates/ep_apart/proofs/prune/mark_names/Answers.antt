use Rattle.std.proofs.Common.{refl, sym, subst, get_or}
use Rattle.ep_theory.specs.Rising.{IsIn}
use Rattle.ep_theory.proofs.CallerLemmas.{IsIn-at}
use Rattle.ep_apart.specs.Pruning.{Names}
use Rattle.ep_apart.proofs.prune.mark_names.Goals as goal

pub set-requires : goal.set-requires
set-requires c = c.requires c.in-Not.i (subst (λ l. Names l c.in-Not.i) (sym c.in-Not.is) refl)

pub mark_all-requires : goal.mark_all-requires
mark_all-requires c = λ k d l.
    let ns = c.as_slice.result.now in
    c.requires (get_or ns k d) (subst (λ x. Names x (get_or ns k d)) (sym c.in-And.is) (subst (IsIn (get_or ns k d)) c.as_slice.ensures (IsIn-at ns k d l)))

pub set-requires-in-Knows : goal.set-requires-in-Knows
set-requires-in-Knows c = c.requires c.in-Knows.i (subst (λ l. Names l c.in-Knows.i) (sym c.in-Knows.is) refl)
