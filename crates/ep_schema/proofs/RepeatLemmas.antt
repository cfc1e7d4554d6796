-- Assignments to one atom twice, as the builder of actions finds them.
use Rattle.std.proofs.Common.{◌≡◌, ◌≢◌, ℕ, zero, suc, ◌<◌, Bool, true, false, ◌==◌, None, is_some, option_map, List, [], ◌∷◌, length, map, take, get_or, slice_get, refl, ap, sym, ◌∙◌, subst, arith, IsTrue, ⊎_elim}
use Rattle.std.specs.List.{AllByRecursion}
use Rattle.std.proofs.lemmas.Bool.{ne_eqb, true≢false}
use Rattle.std.proofs.lemmas.List.{length-map, length-take, get_or-map, get_or-take}
use Rattle.ep_logic.specs.declared.formula.Node.{Node}
use Rattle.ep_binding.specs.Bindings.{all_different, contains, IsApart}
use Rattle.ep_binding.proofs.CallerLemmas.{different-tells}
use Rattle.ep_event.specs.declared.parts.Assign.{Assign}
use Rattle.ep_event.specs.Built.{set_of}
use Rattle.ep_event.specs.Refusals.{atom_at, is_repeated, repeated_atom}
use Rattle.ep_event.proofs.CallerLemmas.{are_distinct}
use Rattle.ep_logic.specs.Numbers.{numbers_where}
use Rattle.ep_theory.specs.Events.{AreDistinct}
use Rattle.ep_theory.proofs.CallerLemmas.{equal_from_test, from_any, decided, place_of}

abbrev pub firsts : List (ℕ × Node) → List ℕ
firsts xs = map (λ s. s.0) xs

lacks : (k : ℕ) (xs : List (ℕ × Node)) → AllByRecursion (λ y. k ≢ y.0) xs → contains (firsts xs) k ≡ false
lacks k [] h = refl
lacks k (x ∷ xs) h = rw (ne_eqb x.0 k (λ e. h.0 (sym e))) (lacks k xs h.1)

distinct-different : (xs : List (ℕ × Node)) → AreDistinct xs → all_different (firsts xs) ≡ true
distinct-different [] h = refl
distinct-different (x ∷ xs) h = rw (lacks x.0 xs h.0) (distinct-different xs h.1)

-- where no atom is repeated, all differ
pub none_repeated : (sets : List Assign) → repeated_atom sets ≡ None → all_different (firsts (map set_of sets)) ≡ true
none_repeated sets h = distinct-different (map set_of sets) (are_distinct sets h)

none_passes : (p : ℕ → Bool) (n : ℕ) → ((i : ℕ) → i < n → p i ≡ false) → numbers_where p n ≡ []
none_passes p zero h = refl
none_passes p (suc n) h = rw (none_passes p n (λ i l. h i (omega arith)), h n (omega arith)) refl

abbrev atoms_of : List Assign → List ℕ
atoms_of sets = map (λ (s : Assign). s.atom.n) sets

not_repeated : (sets : List Assign) (i : ℕ) → i < length sets → IsApart (atoms_of sets) → is_repeated sets i ≡ false
not_repeated sets i l apart = ⊎_elim
    (λ (t : IsTrue (is_repeated sets i)).
    let found = from_any (λ (s : Assign). s.atom.n == atom_at sets i) (take i sets) t in
    let k = place_of found.0 (take i sets) found.0 found.1 in
    let before : k.0 < i = omega (arith, k.1, length-take i sets) in
    let here : get_or (atoms_of sets) k.0 0 ≡ atom_at sets i =
    get_or-map (λ (s : Assign). s.atom.n) sets k.0 found.0 0 (omega (arith, before, l)) ∙ ap (λ (s : Assign). s.atom.n) (sym (get_or-take i sets k.0 found.0 before) ∙ k.2) ∙ equal_from_test found.0.atom.n (atom_at sets i) found.2 in
    absurd (apart k.0 i 0 before (omega (arith, l, length-map sets (λ (s : Assign). s.atom.n))) here))
    (λ (f : is_repeated sets i ≡ false). f)
    (decided (is_repeated sets i))

apart_none : (sets : List Assign) → IsApart (atoms_of sets) → repeated_atom sets ≡ None
apart_none sets apart = ap (λ ns. option_map (atom_at sets) (slice_get ns 0)) (none_passes (is_repeated sets) (length sets) (λ i l. not_repeated sets i l apart))

same_atoms : (sets : List Assign) → firsts (map set_of sets) ≡ atoms_of sets
same_atoms [] = refl
same_atoms (s ∷ sets) = ap (λ ns. s.atom.n ∷ ns) (same_atoms sets)

-- where an atom is repeated, not all differ
pub one_repeated : (sets : List Assign) → is_some (repeated_atom sets) ≡ true → all_different (firsts (map set_of sets)) ≡ false
one_repeated sets h = ⊎_elim
    (λ (t : IsTrue (all_different (firsts (map set_of sets)))).
    let none = apart_none sets (subst IsApart (same_atoms sets) (different-tells (firsts (map set_of sets)) t)) in
    absurd (true≢false (sym h ∙ ap is_some none)))
    (λ (f : all_different (firsts (map set_of sets)) ≡ false). f)
    (decided (all_different (firsts (map set_of sets))))
