-- When a map of worlds is a bisimulation.
use Rattle.std.proofs.Common.{◌≡◌, ◌≢◌, ℕ, zero, suc, ◌+◌, ◌<◌, ◌≤◌, ◌⊎◌, ◌==◌, Bool, true, false, List, [], ◌∷◌, length, get_or, All, replicate, Option, Some, None, IsTrue, refl, sym, ap, ◌∙◌, subst, arith, inl, inr}
use Rattle.std.proofs.lemmas.Bool.{eqb-true}
use Rattle.std.specs.List.{AllByRecursion}
use Rattle.std.proofs.Math.ListN.{set}
use Rattle.std.proofs.lemmas.Bool.{cases_lt, false≢true}
use Rattle.std.proofs.lemmas.Option.{same_Some, none-some}
use Rattle.std.proofs.lemmas.List.{get_or-set_same, get_or-set_other, length-set}
use Rattle.ep_logic.specs.Numbers.{has_number, table}
use Rattle.ep_logic.proofs.CallerLemmas.{get_or-table, length-table}
use Rattle.ep_theory.proofs.CallerLemmas.{to_has_number}
use Rattle.ep_theory.specs.Rising.{IsIn}
use Rattle.ep_theory.specs.Kripke.{Kripke, IsState, truth_of, links_of, successors}
use Rattle.ep_theory.specs.Bisimulation.{IsBisimulation, Bisimilar}
use Rattle.ep_theory.proofs.CallerLemmas.{All-at, IsIn-at}
use Rattle.ep_theory.proofs.CallerLemmas.{from_successors, IsIn-successors}
use Rattle.ep_theory.proofs.CallerLemmas.{links_within}
use Rattle.ep_theory.specs.Maps.{is_number, relates, Maps}
use Rattle.ep_audit.specs.Related.{Relates, MapsAt}
use Rattle.ep_audit.specs.Shown.{IsBelow}

pub is_number_itself : (o : Option ℕ) (v : ℕ) → o ≡ Some v → IsTrue (is_number o v)
is_number_itself o v e = subst (λ p. IsTrue (is_number p v)) (sym e) (eqb_itself v)
  where
    eqb_itself : (v : ℕ) → (v == v) ≡ true
    eqb_itself v = grind arith

pub number_is : (o : Option ℕ) (v : ℕ) → IsTrue (is_number o v) → o ≡ Some v
number_is None v h = cc
number_is (Some x) v h = ap Some (eqb-true x v h)

-- where the map relates worlds, it gives the second for the first
pub related : (m : List (Option ℕ)) (w v : ℕ) → IsTrue (relates m w v) → get_or m w None ≡ Some v
related m w v h = number_is (get_or m w None) v h

pub relates_at : (m : List (Option ℕ)) (w v : ℕ) → get_or m w None ≡ Some v → IsTrue (relates m w v)
relates_at m w v e = is_number_itself (get_or m w None) v e

some_within : (m : List (Option ℕ)) (w v : ℕ) → get_or m w None ≡ Some v → w < length m
some_within [] w v e = cc
some_within (x ∷ m) zero v e = omega arith
some_within (x ∷ m) (suc w) v e = let l = some_within m w v e in omega (arith, l)

below_at : (most : ℕ) (m : List (Option ℕ)) (w v : ℕ) → AllByRecursion (IsBelow most) m → get_or m w None ≡ Some v → v < most
below_at most [] w v all e = cc
below_at most (x ∷ m) zero v all e = subst (IsBelow most) e all.0
below_at most (x ∷ m) (suc w) v all e = below_at most m w v all.1 e

-- an agent past the last has no links
agent_within : (ls : List (List (ℕ × ℕ))) (a : ℕ) (p : ℕ × ℕ) → IsIn p (get_or ls a []) → a < length ls
agent_within [] zero p i = absurd i
agent_within [] (suc a) p i = absurd i
agent_within (l ∷ ls) zero p i = omega arith
agent_within (l ∷ ls) (suc a) p i = let h = agent_within ls a p i in omega (arith, h)

module _ (S R : Kripke) (s : IsState S) (r : IsState R) (agents : S.agents ≡ R.agents) (atoms : S.atoms ≡ R.atoms) (m : List (Option ℕ)) (below : AllByRecursion (IsBelow R.worlds) m) (long : length m ≡ S.worlds) where
  abbrev Each : Type 0
  Each = (w v : ℕ) → w < S.worlds → get_or m w None ≡ Some v → MapsAt S R m w v

  agent_of : (a w u : ℕ) → IsIn (w, u) (links_of S a) → a < S.agents
  agent_of a w u i = let l = agent_within S.links a (w, u) i in omega (arith, l, s.relations)

  agent_of_second : (a w u : ℕ) → IsIn (w, u) (links_of R a) → a < S.agents
  agent_of_second a w u i = let l = agent_within R.links a (w, u) i in omega (arith, l, r.relations, agents)

  -- from each world on
  pub bisimulation_from : Each → IsBisimulation (relates m) S R
  bisimulation_from each = record {
    agents = agents;
    atoms = atoms;
    within = λ w v h. let e = related m w v h in (let l = some_within m w v e in omega (arith, l, long), below_at R.worlds m w v below e);
    truth = λ w v h. let e = related m w v h in (each w v (let l = some_within m w v e in omega (arith, l, long)) e).truth;
    forth = λ a w v u h i.
        let e = related m w v h in
        let at = each w v (let l = some_within m w v e in omega (arith, l, long)) e in
        let x = (at.links a (agent_of a w u i)).forth u (IsIn-successors w u (links_of S a) i) in
        (x.0, from_successors v x.0 (links_of R a) x.1, x.2);
    back = λ a w v x h i.
        let e = related m w v h in
        let at = each w v (let l = some_within m w v e in omega (arith, l, long)) e in
        let u = (at.links a (agent_of_second a v x i)).back x (IsIn-successors v x (links_of R a) i) in
        (u.0, from_successors w u.0 (links_of S a) u.1, u.2);
  }

  pub maps_from : Each → Relates m S.designated R.designated → Maps S R m
  maps_from each d = record { long = long; bisimulation = bisimulation_from each; forth = d.forth; back = d.back }

-- what a bisimulation gives at each world
pub maps_at : (S R : Kripke) (m : List (Option ℕ)) → IsBisimulation (relates m) S R → (w v : ℕ) → get_or m w None ≡ Some v → MapsAt S R m w v
maps_at S R m z w v e =
    let h = relates_at m w v e in
    record {
      truth = z.truth w v h;
      links = λ a l. record {
        forth = λ u i. let x = z.forth a w v u h (from_successors w u (links_of S a) i) in (x.0, IsIn-successors v x.0 (links_of R a) x.1, x.2);
        back = λ x i. let u = z.back a w v x h (from_successors v x (links_of R a) i) in (u.0, IsIn-successors w u.0 (links_of S a) u.1, u.2);
      };
    }

-- what a map shows
pub maps_bisimilar : (S R : Kripke) (m : List (Option ℕ)) → Maps S R m → Bisimilar S R
maps_bisimilar S R m h = (relates m, h.bisimulation, h.forth, h.back)

pub truth_length : (S : Kripke) → IsState S → (w : ℕ) → w < S.worlds → length (truth_of S w) ≡ S.atoms
truth_length S s w l = All-at (λ t. length t ≡ S.atoms) S.truth w [] (omega (arith, s.truths, l)) s.each_truth

-- the successors of a world are worlds
pub targets_within : (S : Kripke) → IsState S → (w a : ℕ) (xs : List ℕ) → xs ≡ successors (links_of S a) w → (k d : ℕ) → k < length xs → get_or xs k d < S.worlds
targets_within S s w a xs e k d b =
    let inn : IsIn (get_or xs k d) (successors (links_of S a) w) = subst (IsIn (get_or xs k d)) e (IsIn-at xs k d b) in
    (links_within S s a w (get_or xs k d) (from_successors w (get_or xs k d) (links_of S a) inn)).1

-- ---- the marks of the function that relates two lists

-- where a number stands in a list
pub index_of : (x : ℕ) (xs : List ℕ) → IsIn x xs → (k : ℕ) × (k < length xs) × (get_or xs k 0 ≡ x)
index_of x [] h = absurd h
index_of x (y ∷ xs) (inl e) = (0, omega arith, sym e)
index_of x (y ∷ xs) (inr h) = let r = index_of x xs h in (suc r.0, omega (arith, r.1), r.2)

-- the first i numbers were met, and the row marks what the map gives for them
pub record Met (m : List (Option ℕ)) (from to : List ℕ) (count i : ℕ) (row : List Bool) : Type 0 where
  pub long : length row ≡ count
  pub forth : (k : ℕ) → k < i → (v : ℕ) × IsIn v to × (get_or m (get_or from k 0) None ≡ Some v)
  pub met : (v : ℕ) → get_or row v false ≡ true → (k : ℕ) × (k < i) × (get_or m (get_or from k 0) None ≡ Some v)
  pub back : (k v : ℕ) → k < i → get_or m (get_or from k 0) None ≡ Some v → get_or row v false ≡ true

no_marks : (n v : ℕ) → get_or (replicate n false) v false ≡ false
no_marks zero v = refl
no_marks (suc n) zero = refl
no_marks (suc n) (suc v) = no_marks n v

length_marks : (n : ℕ) → length (replicate n false) ≡ n
length_marks zero = refl
length_marks (suc n) = ap suc (length_marks n)

pub met_zero : (m : List (Option ℕ)) (from to : List ℕ) (count : ℕ) (row : List Bool) → row ≡ replicate count false → Met m from to count 0 row
met_zero m from to count row e = record {
  long = ap length e ∙ length_marks count;
  forth = λ k l. absurd (omega (arith, l));
  met = λ v h. absurd (false≢true (sym (no_marks count v) ∙ ap (λ r. get_or r v false) (sym e) ∙ h));
  back = λ k v l. absurd (omega (arith, l));
}

pub met_more : (m : List (Option ℕ)) (from to : List ℕ) (count i v : ℕ) (row : List Bool) → Met m from to count i row → get_or m (get_or from i 0) None ≡ Some v → v < count → IsIn v to → Met m from to count (i + 1) (set row v true)
met_more m from to count i v row h e l inn =
    let marked : get_or (set row v true) v false ≡ true = get_or-set_same row v true false (omega (arith, l, h.long)) in
    record {
      long = length-set row v true ∙ h.long;
      forth = λ k b. elim (cases_lt k i) as (λ _. (v : ℕ) × IsIn v to × (get_or m (get_or from k 0) None ≡ Some v)) [
        | inl less ↦ h.forth k less
        | inr ge ↦ let same : i ≡ k = omega (arith, b, ge) in (v, inn, ap (λ n. get_or m (get_or from n 0) None) (sym same) ∙ e)
      ];
      met = λ x t. elim (same_or_not x v) as (λ _. (k : ℕ) × (k < i + 1) × (get_or m (get_or from k 0) None ≡ Some x)) [
        | inl same ↦ (i, omega arith, e ∙ ap Some (sym same))
        | inr other ↦
            let old = h.met x (sym (get_or-set_other row v x true false other) ∙ t) in
            (old.0, (let b = old.1 in omega (arith, b)), old.2)
      ];
      back = λ k x b t. elim (same_or_not x v) as (λ _. get_or (set row v true) x false ≡ true) [
        | inl same ↦ subst (λ n. get_or (set row v true) n false ≡ true) (sym same) marked
        | inr other ↦ elim (cases_lt k i) as (λ _. get_or (set row v true) x false ≡ true) [
          | inl less ↦ get_or-set_other row v x true false other ∙ h.back k x less t
          | inr ge ↦
              let same : i ≡ k = omega (arith, b, ge) in
              absurd (other (same_Some x v (sym t ∙ ap (λ n. get_or m (get_or from n 0) None) (sym same) ∙ e)))
        ]
      ];
    }
  where
    same_or_not : (x y : ℕ) → (x ≡ y) ⊎ (x ≢ y)
    same_or_not x y = grind arith

pub met_all : (m : List (Option ℕ)) (from to : List ℕ) (count i : ℕ) (row : List Bool) → Met m from to count i row → length from ≡ i → All (λ n. get_or row n false ≡ true) to → Relates m from to
met_all m from to count i row h l all = record {
  forth = λ w b.
      let k = index_of w from b in
      let f = h.forth k.0 (let s = k.1 in omega (arith, s, l)) in
      (f.0, f.1, relates_at m w f.0 (ap (λ n. get_or m n None) (sym k.2) ∙ f.2));
  back = λ v b.
      let j = index_of v to b in
      let marked : get_or row v false ≡ true = subst (λ n. get_or row n false ≡ true) j.2 (all j.0 0 j.1) in
      let k = h.met v marked in
      (get_or from k.0 0, IsIn-at from k.0 0 (let s = k.1 in omega (arith, s, l)), relates_at m (get_or from k.0 0) v k.2);
}

pub met_none : (m : List (Option ℕ)) (from to : List ℕ) (count i : ℕ) (row : List Bool) → Met m from to count i row → length from ≤ i → Relates m from to → All (λ n. get_or row n false ≡ true) to
met_none m from to count i row h l r j d b =
    let w = r.back (get_or to j d) (IsIn-at to j d b) in
    let k = index_of w.0 from w.1 in
    h.back k.0 (get_or to j d) (let s = k.1 in omega (arith, s, l)) (ap (λ n. get_or m n None) k.2 ∙ related m w.0 (get_or to j d) w.2)

-- no relation where a number goes nowhere, or to none of the others
pub stray_none : (m : List (Option ℕ)) (from to : List ℕ) (i : ℕ) → i < length from → get_or m (get_or from i 0) None ≡ None → Relates m from to → ⊥
stray_none m from to i l e r =
    let v = r.forth (get_or from i 0) (IsIn-at from i 0 l) in
    none-some v.0 (sym e ∙ related m (get_or from i 0) v.0 v.2)

pub stray_past : (m : List (Option ℕ)) (from to : List ℕ) (count i v : ℕ) → i < length from → get_or m (get_or from i 0) None ≡ Some v → All (λ n. n < count) to → count ≤ v → Relates m from to → ⊥
stray_past m from to count i v l e all past r =
    let x = r.forth (get_or from i 0) (IsIn-at from i 0 l) in
    let same : x.0 ≡ v = same_Some x.0 v (sym (related m (get_or from i 0) x.0 x.2) ∙ e) in
    let j = index_of x.0 to x.1 in
    let low : get_or to j.0 0 < count = all j.0 0 j.1 in
    absurd (omega (arith, low, j.2, same, past))

pub stray_other : (m : List (Option ℕ)) (from to : List ℕ) (i v : ℕ) → i < length from → get_or m (get_or from i 0) None ≡ Some v → has_number to v ≡ false → Relates m from to → ⊥
stray_other m from to i v l e out r =
    let x = r.forth (get_or from i 0) (IsIn-at from i 0 l) in
    let same : x.0 ≡ v = same_Some x.0 v (sym (related m (get_or from i 0) x.0 x.2) ∙ e) in
    false≢true (sym out ∙ to_has_number to v (subst (λ n. IsIn n to) same x.1))

-- the row of the others
pub own_value : (to : List ℕ) (count v : ℕ) (row : List Bool) → row ≡ table (has_number to) count → v < count → get_or row v false ≡ has_number to v
own_value to count v row e l = ap (λ r. get_or r v false) e ∙ get_or-table (has_number to) count v false l

pub own_length : (to : List ℕ) (count : ℕ) (row : List Bool) → row ≡ table (has_number to) count → length row ≡ count
own_length to count row e = ap length e ∙ length-table (has_number to) count
