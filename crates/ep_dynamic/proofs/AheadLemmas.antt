-- Where an action may happen, and what fits there.
use Rattle.std.proofs.Common.{◌≡◌, ℕ, ◌<◌, Bool, List, IsTrue, refl, ap, subst, sym, ◌∙◌}
use Rattle.std.specs.Ordering.{nat_cmp}
use Rattle.std.specs.List.{AllByRecursion, list_any}
use Rattle.ep_logic.specs.declared.formula.Node.{Node}
use Rattle.ep_theory.specs.Rising.{IsIn, IsRising}
use Rattle.ep_theory.specs.Kripke.{Kripke}
use Rattle.ep_theory.specs.Events.{EventModel}
use Rattle.ep_theory.specs.Fits.{Fits, fits_in, SetFits, EventFits, ActionFits}
use Rattle.ep_theory.specs.Product.{applies}
use Rattle.ep_theory.proofs.lists.Lists.{at_All, All-from_each}
use Rattle.ep_theory.proofs.lists.NumbersLemmas.{from_numbers, rising_numbers}
use Rattle.ep_theory.specs.Tested.{is_true}
use Rattle.ep_update.specs.Ahead.{openings}
use Rattle.ep_update.specs.Places.{precondition_labels}

pub openings_rise : (S : Kripke) (A : EventModel) (ws : List ℕ) → ws ≡ openings S A → IsRising nat_cmp ws
openings_rise S A ws h = subst (IsRising nat_cmp) (sym h) (rising_numbers (λ w. list_any (applies S A w) A.designated) S.worlds)

-- which worlds are designated plays no part in the labels of preconditions
same_labels : (S : Kripke) (ds : List ℕ) (A : EventModel) → precondition_labels (record S { designated = ds }) A ≡ precondition_labels S A
unfolding is_true
same_labels S ds A = refl

pub labels_moved : (S R Q : Kripke) (ds : List ℕ) (A : EventModel) (rows : List (List Bool)) → R ≡ S → Q ≡ record R { designated = ds } → rows ≡ precondition_labels S A → rows ≡ precondition_labels Q A
labels_moved S R Q ds A rows r q h = h ∙ sym (ap (λ S. precondition_labels S A) q ∙ same_labels R ds A ∙ ap (λ S. precondition_labels S A) r)

pub openings_within : (S R : Kripke) (A : EventModel) (ws : List ℕ) → R ≡ S → ws ≡ openings S A → AllByRecursion (λ w. w < R.worlds) ws
openings_within S R A ws q h = All-from_each (λ w. w < R.worlds) ws (λ w i.
    subst (λ (S : Kripke). w < S.worlds) (sym q) (from_numbers (λ w. list_any (applies S A w) A.designated) S.worlds w (subst (IsIn w) h i)).0)

-- what fits a state fits each state with its agents and atoms
pub fits_moved : (S R : Kripke) (A : EventModel) → R.agents ≡ S.agents → R.atoms ≡ S.atoms → ActionFits S A → ActionFits R A
fits_moved S R A p q fit =
    let move : (f : Node) → Fits S f → Fits R f = λ f h. subst (λ n. IsTrue (fits_in n R.atoms f)) (sym p) (subst (λ n. IsTrue (fits_in S.agents n f)) (sym q) h) in
    record {
      agents = fit.agents ∙ sym p;
      events = All-from_each (EventFits R) A.events (λ event i.
          let e = at_All (EventFits S) event A.events fit.events i in
          record {
            pre = move event.pre e.pre;
            sets = All-from_each (SetFits R) event.sets (λ set j.
                let s = at_All (SetFits S) set event.sets e.sets j in
                (subst (λ n. set.0 < n) (sym q) s.0, move set.1 s.1));
          });
    }
