-- Keys decide states.
use Rattle.std.proofs.Common.{◌≡◌, ◌↔◌, ℕ, ◌<◌, Bool, false, List, [], ◌∷◌, ◌++◌, length, map, get_or, slice_get, Some, refl, sym, ap, ap₂, subst, ◌∙◌, arith, append_assoc}
use Rattle.std.specs.List.{flat_map}
use Rattle.std.proofs.lemmas.List.{get_or-map, get_or_past}
use Rattle.std.proofs.lemmas.Option.{same_Some}
use Rattle.ep_logic.specs.Numbers.{has_number}
use Rattle.ep_logic.specs.Rows.{value_at}
use Rattle.ep_logic.proofs.CallerLemmas.{length-table, get_or-table}
use Rattle.ep_theory.specs.Rising.{IsIn}
use Rattle.ep_theory.specs.Kripke.{Kripke, IsState, links_of, successors}
use Rattle.ep_theory.proofs.CallerLemmas.{at_All, from_successors, IsIn-successors, to_has_number, from_has_number, links_within}
use Rattle.ep_kripke.specs.RowTables.{AreDistinct, Keeps}
use Rattle.ep_kripke.specs.Interning.{row_of, successor_rows, state_rows, ArePlaces, IsKeyOf}
use Rattle.ep_kripke.proofs.SameStates.{same_state}
use Rattle.ep_kripke.proofs.InterningLemmas.{first, rest, places_kept}
use native.Mathlib.Decide.{dec_lt}
use Prim.{yes, no}

-- one place has one row, and in a table of distinct rows one row has one place
one_row : (xs ys : List (List Bool)) → map Some xs ≡ map Some ys → xs ≡ ys
one_row [] [] e = refl
one_row [] (y ∷ ys) e = absurd (omega (arith, ap length e))
one_row (x ∷ xs) [] e = absurd (omega (arith, ap length e))
one_row (x ∷ xs) (y ∷ ys) e = ap₂ (λ z zs. z ∷ zs) (same_Some x y (first _ _ _ _ e)) (one_row xs ys (rest _ _ _ _ e))

one_place : (all : List (List Bool)) (ps qs : List ℕ) (rows : List (List Bool)) → AreDistinct all → ArePlaces all ps rows → ArePlaces all qs rows → ps ≡ qs
one_place all [] [] rows d e f = refl
one_place all [] (q ∷ qs) [] d e f = absurd (omega (arith, ap length f))
one_place all [] (q ∷ qs) (r ∷ rows) d e f = absurd (omega (arith, ap length e))
one_place all (p ∷ ps) [] [] d e f = absurd (omega (arith, ap length e))
one_place all (p ∷ ps) [] (r ∷ rows) d e f = absurd (omega (arith, ap length f))
one_place all (p ∷ ps) (q ∷ qs) [] d e f = absurd (omega (arith, ap length e))
one_place all (p ∷ ps) (q ∷ qs) (r ∷ rows) d e f = ap₂ (λ x xs. x ∷ xs) (d p q r (first _ _ _ _ e) (first _ _ _ _ f)) (one_place all ps qs rows d (rest _ _ _ _ e) (rest _ _ _ _ f))

-- parts of equal length
parts : {A : Type 0} (xs ys us vs : List A) → length xs ≡ length ys → xs ++ us ≡ ys ++ vs → (xs ≡ ys) × (us ≡ vs)
parts [] [] us vs l e = (refl, e)
parts [] (y ∷ ys) us vs l e = absurd (omega (arith, l))
parts (x ∷ xs) [] us vs l e = absurd (omega (arith, l))
parts (x ∷ xs) (y ∷ ys) us vs l e = let r = parts xs ys us vs (omega (arith, l)) (rest _ _ _ _ e) in (ap₂ (λ z zs. z ∷ zs) (first _ _ _ _ e) r.0, r.1)

link_parts : (n : ℕ) (ps qs : List (List (ℕ × ℕ))) (d e : List Bool) → length ps ≡ length qs → flat_map (successor_rows n) ps ++ d ∷ [] ≡ flat_map (successor_rows n) qs ++ e ∷ [] →
    (map (successor_rows n) ps ≡ map (successor_rows n) qs) × (d ≡ e)
link_parts n [] [] d e l h = (refl, first _ _ _ _ h)
link_parts n [] (q ∷ qs) d e l h = absurd (omega (arith, l))
link_parts n (p ∷ ps) [] d e l h = absurd (omega (arith, l))
link_parts n (p ∷ ps) (q ∷ qs) d e l h =
    let one = parts (successor_rows n p) (successor_rows n q) (flat_map (successor_rows n) ps ++ d ∷ []) (flat_map (successor_rows n) qs ++ e ∷ [])
    (length-table (λ w. row_of n (successors p w)) n ∙ sym (length-table (λ w. row_of n (successors q w)) n))
    (sym (append_assoc (successor_rows n p) (flat_map (successor_rows n) ps) (d ∷ [])) ∙ h ∙ append_assoc (successor_rows n q) (flat_map (successor_rows n) qs) (e ∷ [])) in
    let more = link_parts n ps qs d e (omega (arith, l)) one.1 in
    (ap₂ (λ x xs. x ∷ xs) one.0 more.0, more.1)

-- a number of a row, by the row
row_told : (n : ℕ) (xs ys : List ℕ) (v : ℕ) → row_of n xs ≡ row_of n ys → v < n → IsIn v xs → IsIn v ys
row_told n xs ys v e l i = from_has_number ys v (
    sym (get_or-table (has_number ys) n v false l) ∙ sym (ap (λ row. value_at row v) e) ∙ get_or-table (has_number xs) n v false l ∙ to_has_number xs v i)

link_told : (n : ℕ) (ps qs : List (ℕ × ℕ)) (w v : ℕ) → successor_rows n ps ≡ successor_rows n qs → w < n → v < n → IsIn (w, v) ps → IsIn (w, v) qs
link_told n ps qs w v e l m i =
    let row : row_of n (successors ps w) ≡ row_of n (successors qs w) =
    sym (get_or-table (λ w. row_of n (successors ps w)) n w [] l) ∙ ap (λ rows. get_or rows w []) e ∙ get_or-table (λ w. row_of n (successors qs w)) n w [] l in
    from_successors w v qs (row_told n (successors ps w) (successors qs w) v row m (IsIn-successors w v ps i))

-- states with the same rows are the same
module _ (S R : Kripke) (s : IsState S) (r : IsState R) (worlds : S.worlds ≡ R.worlds) (agents : S.agents ≡ R.agents) (links : map (successor_rows S.worlds) S.links ≡ map (successor_rows S.worlds) R.links) where
  rows_at : (a : ℕ) → a < length S.links → successor_rows S.worlds (links_of S a) ≡ successor_rows S.worlds (links_of R a)
  rows_at a l =
      sym (get_or-map (successor_rows S.worlds) S.links a [] [] l) ∙ ap (λ xs. get_or xs a []) links
      ∙ get_or-map (successor_rows S.worlds) R.links a [] [] (omega (arith, l, s.relations, agents, r.relations))

  links_same : (a w v : ℕ) → IsIn (w, v) (links_of S a) → IsIn (w, v) (links_of R a)
  links_same a w v i = elim (dec_lt a (length S.links)) [
    | yes l ↦ let m = links_within S s a w v i in link_told S.worlds (links_of S a) (links_of R a) w v (rows_at a l) m.0 m.1 i
    | no n ↦ absurd (subst (IsIn (w, v)) (get_or_past S.links a [] (omega (arith, n))) i)
  ]

same_rows : (S R : Kripke) → IsState S → IsState R → S.worlds ≡ R.worlds → S.agents ≡ R.agents → S.atoms ≡ R.atoms → state_rows S ≡ state_rows R → S ≡ R
unfolding state_rows
same_rows S R s r worlds agents atoms e =
    let n = S.worlds in
    let one = parts S.truth R.truth (flat_map (successor_rows S.worlds) S.links ++ row_of S.worlds S.designated ∷ []) (flat_map (successor_rows R.worlds) R.links ++ row_of R.worlds R.designated ∷ [])
    (s.truths ∙ worlds ∙ sym r.truths) e in
    let two = link_parts S.worlds S.links R.links (row_of S.worlds S.designated) (row_of S.worlds R.designated) (s.relations ∙ agents ∙ sym r.relations)
    (one.1 ∙ ap (λ m. flat_map (successor_rows m) R.links ++ row_of m R.designated ∷ []) (sym worlds)) in
    same_state S R s r (record {
      agents = agents;
      atoms = atoms;
      truth = one.0;
      links = links_same S R s r worlds agents two.0;
      links_back = links_same R S r s (sym worlds) (sym agents) (subst (λ m. map (successor_rows m) R.links ≡ map (successor_rows m) S.links) worlds (sym two.0));
      designated = λ w i. row_told S.worlds S.designated R.designated w two.1 (at_All (λ w. w < S.worlds) w S.designated s.designated_within i) i;
      designated_back = λ w i. row_told S.worlds R.designated S.designated w (sym two.1) (omega (arith, worlds, at_All (λ w. w < R.worlds) w R.designated r.designated_within i)) i;
    })

pub keys_decide : (before after : List (List Bool)) (S R : Kripke) (k l : List ℕ) → IsState S → IsState R → Keeps before after → AreDistinct after → IsKeyOf before S k → IsKeyOf after R l → (k ≡ l) ↔ (S ≡ R)
keys_decide before after S R k l s r kept distinct a b = (to, from)
  where
    to : k ≡ l → S ≡ R
    to e =
        let e₀ : S.worlds ∷ S.agents ∷ S.atoms ∷ a.places ≡ R.worlds ∷ R.agents ∷ R.atoms ∷ b.places = sym a.whole ∙ e ∙ b.whole in
        let e₁ = rest _ _ _ _ e₀ in
        let e₂ = rest _ _ _ _ e₁ in
        let rows : map Some (state_rows S) ≡ map Some (state_rows R) =
        sym (places_kept before after a.places (state_rows S) kept a.stand) ∙ ap (map (slice_get after)) (rest _ _ _ _ e₂) ∙ b.stand in
        same_rows S R s r (first _ _ _ _ e₀) (first _ _ _ _ e₁) (first _ _ _ _ e₂) (one_row (state_rows S) (state_rows R) rows)

    from : S ≡ R → k ≡ l
    from e =
        let places : a.places ≡ b.places = one_place after a.places b.places (state_rows R) distinct
        (subst (λ (Q : Kripke). ArePlaces after a.places (state_rows Q)) e (places_kept before after a.places (state_rows S) kept a.stand)) b.stand in
        a.whole ∙ (λ i. (e i).worlds ∷ (e i).agents ∷ (e i).atoms ∷ places i) ∙ sym b.whole
