-- A goal and its parts.
use Rattle.std.proofs.Common.{◌≡◌, ℕ, ◌<◌, inl, inr, ◌↔◌, Bool, true, false, ◌&&◌, List, [], ◌∷◌, Result, Ok, Err, IfOk, IsTrue, refl, sym, ap, ◌∙◌, subst}
use Rattle.std.proofs.lemmas.Bool.{false≢true}
use Rattle.std.specs.Cmp.{both_ways}
use Rattle.std.specs.List.{AllByRecursion, list_all}
use Rattle.ep_logic.specs.declared.formula.Node.{Node}
use Rattle.ep_theory.specs.Rising.{IsIn}
use Rattle.ep_theory.specs.Fits.{Fits, fits_in}
use Rattle.ep_theory.proofs.CallerLemmas.{truth-And, along, all_at, at_All, is_true_decides, to_all}
use Rattle.ep_truth.proofs.CallerLemmas.{fits_in-And}
use Rattle.ep_search.specs.Alike.{Alike}
use Rattle.ep_search.specs.Conjuncts.{AreParts}
use Rattle.ep_search.specs.Goal.{is_satisfied}
use Rattle.ep_search.proofs.AlikeLemmas.{Alike-sym, Satisfies-Alike}
use Rattle.ep_theory.specs.Kripke.{Kripke, IsState}
use Rattle.ep_theory.specs.Truth.{Truth, Satisfies}
use Rattle.ep_theory.specs.Tested.{is_true}

all_from_test : {A : Type 0} (p : A → Bool) (xs : List A) → IsTrue (list_all p xs) → AllByRecursion (λ x. IsTrue (p x)) xs
all_from_test p [] h = tt
all_from_test p (x ∷ xs) h = by (p x) refl h (all_from_test p xs)
  where
    by : (b : Bool) → p x ≡ b → IsTrue (b && list_all p xs) → (IsTrue (list_all p xs) → AllByRecursion (λ y. IsTrue (p y)) xs) → AllByRecursion (λ y. IsTrue (p y)) (x ∷ xs)
    by true e k rest = (e, rest k)
    by false e k rest = absurd (false≢true k)

pub parts_fit : (S : Kripke) (f : Node) (fs : List Node) → AreParts f fs → Fits S f → AllByRecursion (Fits S) fs
parts_fit S f fs (inl e) h = all_from_test (fits_in S.agents S.atoms) fs (subst IsTrue (ap (fits_in S.agents S.atoms) e ∙ fits_in-And S.agents S.atoms fs) h)
parts_fit S f fs (inr e) h = subst (AllByRecursion (Fits S)) (sym e.1) (h, tt)

-- what holds of each formula at each designated world
swap_to : (S : Kripke) (fs : List Node) → AllByRecursion (Satisfies S) fs → (w : ℕ) → IsIn w S.designated → AllByRecursion (Truth S w) fs
swap_to S [] h w i = tt
swap_to S (f ∷ fs) h w i = (h.0 w i, swap_to S fs h.1 w i)

swap_from : (S : Kripke) (fs : List Node) → ((w : ℕ) → IsIn w S.designated → AllByRecursion (Truth S w) fs) → AllByRecursion (Satisfies S) fs
swap_from S [] h = tt
swap_from S (f ∷ fs) h = ((λ w i. (h w i).0), swap_from S fs (λ w i. (h w i).1))

pub all_parts : (S : Kripke) (f : Node) (fs : List Node) → AreParts f fs → AllByRecursion (Satisfies S) fs → Satisfies S f
all_parts S f fs (inl e) h = λ w i. subst (Truth S w) (sym e) (along (sym (truth-And S w fs)) (swap_to S fs h w i))
all_parts S f fs (inr e) h = (subst (AllByRecursion (Satisfies S)) e.1 h).0

pub each_part : (S : Kripke) (f : Node) (fs : List Node) → AreParts f fs → Satisfies S f → AllByRecursion (Satisfies S) fs
each_part S f fs (inl e) h = swap_from S fs (λ w i. along (truth-And S w fs) (subst (Truth S w) e (h w i)))
each_part S f fs (inr e) h = subst (AllByRecursion (Satisfies S)) (sym e.1) (h, tt)

-- what the number of unmet parts says
pub goal_at : (S : Kripke) (f : Node) (fs : List Node) (n : ℕ) → AreParts f fs → (n ≡ 0) ↔ AllByRecursion (Satisfies S) fs → n ≡ 0 → Satisfies S f
goal_at S f fs n parts tells none = all_parts S f fs parts (tells.0 none)

pub unmet_here : (S : Kripke) (f : Node) (fs : List Node) (n : ℕ) → AreParts f fs → (n ≡ 0) ↔ AllByRecursion (Satisfies S) fs → (n ≡ 0 → ⊥) → Satisfies S f → ⊥
unmet_here S f fs n parts tells some h = some (tells.1 (each_part S f fs parts h))

pub unmet_at : (S R : Kripke) (f : Node) (fs : List Node) (n : ℕ) → AreParts f fs → (n ≡ 0) ↔ AllByRecursion (Satisfies S) fs → (n ≡ 0 → ⊥) → Alike S R → Satisfies R f → ⊥
unmet_at S R f fs n parts tells some alike h = some (tells.1 (each_part S f fs parts (Satisfies-Alike R S f (Alike-sym S R alike) h)))

-- the test of a formula at every designated world
satisfied_by : (S : Kripke) → IsState S → (f : Node) (b : Bool) → IsTrue b ↔ Satisfies S f → b ≡ is_satisfied S f
satisfied_by S s f b h = both_ways b (is_satisfied S f)
    (λ t. to_all (λ w. is_true S w f) S.designated (λ w i. (is_true_decides S s w (within w i) f).1 (h.0 t w i)))
    (λ t. h.1 (λ w i. (is_true_decides S s w (within w i) f).0 (all_at (λ w. is_true S w f) w S.designated t i)))
  where
    within : (w : ℕ) → IsIn w S.designated → w < S.worlds
    within w i = at_All (λ v. v < S.worlds) w S.designated s.designated_within i

pub satisfied_ok : {E : Type 0} (S : Kripke) → IsState S → (f : Node) (r : Result Bool E) → IfOk r (λ b. IsTrue b ↔ Satisfies S f) → IfOk r (λ b. b ≡ is_satisfied S f)
satisfied_ok S s f (Ok b) h = satisfied_by S s f b h
satisfied_ok S s f (Err e) h = tt
