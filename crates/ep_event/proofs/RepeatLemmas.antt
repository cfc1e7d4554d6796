-- The first place whose atom stands earlier too.
use Rattle.std.proofs.Common.{◌≡◌, ◌≢◌, ℕ, zero, suc, ◌+◌, ◌<◌, Bool, true, false, cond, ◌||◌, ◌==◌, List, [], ◌∷◌, ◌++◌, map, length, take, get_or, slice_get, Some, None, option_map, IsTrue, refl, sym, ◌∙◌, ap, subst, arith, ⊎_elim, add-one}
use Rattle.std.proofs.lemmas.Option.{none-some}
use Rattle.std.proofs.lemmas.List.{length-map, get_or-map}
use Rattle.std.specs.List.{list_any}
use Rattle.ep_logic.specs.declared.formula.Node.{Node}
use Rattle.ep_event.specs.declared.parts.Assign.{Assign}
use Rattle.ep_event.specs.Built.{set_of}
use Rattle.ep_event.specs.Refusals.{atom_at, is_repeated, repeated_atom}
use Rattle.ep_theory.specs.Rising.{IsIn}
use Rattle.ep_logic.specs.Numbers.{numbers_where}
use Rattle.ep_theory.specs.Events.{AreDistinct}
use Rattle.ep_theory.proofs.CallerLemmas.{from_map, IsIn-map, All-from_each, test_itself, decided, last_or_before, in_numbers, place_of}

first_of_more : (xs ys : List ℕ) (i : ℕ) → slice_get xs 0 ≡ Some i → slice_get (xs ++ ys) 0 ≡ Some i
first_of_more [] ys i h = absurd (none-some i h)
first_of_more (x ∷ xs) ys i h = h

-- one number more
pub numbers-more : (p : ℕ → Bool) (n : ℕ) → numbers_where p (n + 1) ≡ numbers_where p n ++ cond (p n) (n ∷ []) []
numbers-more p n = ap (numbers_where p) (add-one n)

pub none_more : (p : ℕ → Bool) (n : ℕ) → numbers_where p n ≡ [] → p n ≡ false → numbers_where p (n + 1) ≡ []
none_more p n h e = numbers-more p n ∙ rw (h, e) refl

-- the number at which the first passes
pub first_number : (p : ℕ → Bool) (n i : ℕ) → i < n → numbers_where p i ≡ [] → p i ≡ true → slice_get (numbers_where p n) 0 ≡ Some i
first_number p zero i l h e = absurd (omega arith)
first_number p (suc n) i l h e = ⊎_elim
    (λ (same : i ≡ n). subst (λ k. slice_get (numbers_where p k ++ cond (p k) (k ∷ []) []) 0 ≡ Some i) same (rw (h, e) refl))
    (λ (b : i < n). first_of_more (numbers_where p n) (cond (p n) (n ∷ []) []) i (first_number p n i b h e))
    (last_or_before i n l)

none_first : {X : Type 0} (f : ℕ → X) (xs : List ℕ) → option_map f (slice_get xs 0) ≡ None → xs ≡ []
none_first f [] h = refl
none_first f (x ∷ xs) h = absurd (none-some (f x) (sym h))

fails_below : (p : ℕ → Bool) (n i : ℕ) → numbers_where p n ≡ [] → i < n → p i ≡ false
fails_below p n i h l = ⊎_elim
    (λ (t : IsTrue (p i)). absurd (subst (IsIn i) h (in_numbers p n i l t)))
    (λ (f : p i ≡ false). f)
    (decided (p i))

left_false : (a b : Bool) → (a || b) ≡ false → a ≡ false
left_false true b h = h
left_false false b h = refl

right_false : (a b : Bool) → (a || b) ≡ false → b ≡ false
right_false true b h = cc
right_false false b h = h

abbrev atoms_of : List Assign → List ℕ
atoms_of sets = map (λ (s : Assign). s.atom.n) sets

differ : (sets : List Assign) → ((i : ℕ) → i < length sets → is_repeated sets i ≡ false) → AreDistinct (map set_of sets)
differ [] h = tt
differ (s ∷ sets) h = (
  All-from_each (λ (y : ℕ × Node). s.atom.n ≢ y.0) (map set_of sets) (λ y i. λ same.
      let t = from_map set_of y sets i in
      let j = place_of t.0.atom.n (atoms_of sets) 0 (IsIn-map (λ (x : Assign). x.atom.n) t.0 sets t.1) in
      let equal : s.atom.n ≡ get_or (atoms_of sets) j.0 0 = same ∙ ap (λ (q : ℕ × Node). q.0) t.2 ∙ sym j.2 in
      let fails = left_false (s.atom.n == get_or (atoms_of sets) j.0 0) (list_any (λ (x : Assign). x.atom.n == get_or (atoms_of sets) j.0 0) (take j.0 sets))
      (h (suc j.0) (omega (arith, j.1, length-map sets (λ (x : Assign). x.atom.n)))) in
      let passes : (s.atom.n == get_or (atoms_of sets) j.0 0) ≡ true = subst (λ k. (s.atom.n == k) ≡ true) equal (test_itself s.atom.n) in
      cc (fails, passes)),
  differ sets (λ i l. right_false (s.atom.n == get_or (atoms_of sets) i 0) (list_any (λ (x : Assign). x.atom.n == get_or (atoms_of sets) i 0) (take i sets)) (h (suc i) (omega (arith, l)))),
)

-- where no atom is repeated, no two assignments are to one atom
pub are_distinct : (sets : List Assign) → repeated_atom sets ≡ None → AreDistinct (map set_of sets)
are_distinct sets h =
    let none = none_first (atom_at sets) (numbers_where (is_repeated sets) (length sets)) h in
    differ sets (λ i l. fails_below (is_repeated sets) (length sets) i none l)

-- where no atom was repeated so far and one is here, it is the first
pub repeated_here : (sets : List Assign) (i : ℕ) (s : Assign) → i < length sets → numbers_where (is_repeated sets) i ≡ [] → is_repeated sets i ≡ true → repeated_atom sets ≡ Some (get_or sets i s).atom.n
repeated_here sets i s l none here =
    ap (option_map (atom_at sets)) (first_number (is_repeated sets) (length sets) i l none here)
    ∙ ap Some (get_or-map (λ (x : Assign). x.atom.n) sets i s 0 l)
