-- The map of a state to its contraction.
use Rattle.std.proofs.Common.{◌≡◌, ℕ, zero, suc, ◌+◌, ◌<◌, ◌≤◌, Bool, true, false, cond, List, [], ◌∷◌, ◌++◌, length, get_or, filter, slice_index, Option, Some, None, refl, sym, ap, subst, ◌∙◌, arith, ⊎_elim, IsTrue, ◌↔◌}
use Rattle.std.specs.List.{range_with_len}
use Rattle.std.proofs.lemmas.Bool.{false≢true}
use Rattle.std.proofs.lemmas.List.{length-append, get_or_past}
use Rattle.std.proofs.lemmas.List.Elements.{filter-append}
use native.Mathlib.Decide.{dec_lt}
use Prim.{yes, no}
use Rattle.ep_logic.specs.Numbers.{table}
use Rattle.ep_logic.specs.Rows.{value_at}
use Rattle.ep_logic.proofs.CallerLemmas.{length-table, get_or-table}
use Rattle.ep_theory.specs.Rising.{IsIn}
use Rattle.ep_theory.specs.Kripke.{Kripke, IsState, links_of, truth_of}
use Rattle.ep_theory.specs.Bisimulation.{IsBisimulation}
use Rattle.ep_theory.specs.Canonical.{Reached, start, step}
use Rattle.ep_theory.specs.Image.{IsImage}
use Rattle.ep_theory.specs.Maps.{Maps, is_number, relates}
use Rattle.ep_theory.specs.Ranks.{RanksAt}
use Rattle.ep_theory.proofs.CallerLemmas.{last_or_before, at_All, classes_decide, equal_from_test, test_itself, links_within}
use Rattle.ep_refine.specs.Kept.{IsRestriction, kept_before}
use Rattle.ep_refine.proofs.CallerLemmas.{image_as, kept_apart}
use Rattle.ep_canon.specs.Contracting.{class_at, class_map}
use Rattle.ep_canon.proofs.QuotientLemmas.{reached_within}

-- how many worlds of a row come before a world
range_more : (a n : ℕ) → range_with_len a (suc n) ≡ range_with_len a n ++ (a + n) ∷ []
range_more a zero = let q : a ≡ a + 0 = omega arith in ap (λ b. b ∷ []) q
range_more a (suc n) =
    let q : a + 1 + n ≡ a + suc n = omega arith in
    ap (λ l. a ∷ l) (range_more (a + 1) n ∙ ap (λ b. range_with_len (a + 1) n ++ b ∷ []) q)

one_or_none : (b : Bool) (x : ℕ) → length (cond b (x ∷ []) []) ≡ cond b 1 0
one_or_none true x = refl
one_or_none false x = refl

module _ (row : List Bool) where
  kept_step : (n : ℕ) → kept_before row (suc n) ≡ kept_before row n + cond (value_at row n) 1 0
  kept_step n =
      ap (λ xs. length (filter (value_at row) xs)) (range_more 0 n)
      ∙ ap length (filter-append (value_at row) (range_with_len 0 n) ((0 + n) ∷ []))
      ∙ length-append (filter (value_at row) (range_with_len 0 n)) (filter (value_at row) ((0 + n) ∷ []))
      ∙ ap (λ k. kept_before row n + k) (last (0 + n) n (omega arith))
    where
      last : (k n : ℕ) → k ≡ n → length (filter (value_at row) (k ∷ [])) ≡ cond (value_at row n) 1 0
      last k n e = ap (λ k. length (filter (value_at row) (k ∷ []))) e ∙ one_or_none (value_at row n) n

  pub one_more_kept : (n : ℕ) → value_at row n ≡ true → kept_before row (n + 1) ≡ kept_before row n + 1
  one_more_kept n h =
      let q : n + 1 ≡ suc n = omega arith in
      ap (kept_before row) q ∙ kept_step n ∙ ap (λ b. kept_before row n + cond b 1 0) h

  pub none_more_kept : (n : ℕ) → value_at row n ≡ false → kept_before row (n + 1) ≡ kept_before row n
  none_more_kept n h =
      let q : n + 1 ≡ suc n = omega arith in
      let z : kept_before row n + 0 ≡ kept_before row n = omega arith in
      ap (kept_before row) q ∙ kept_step n ∙ ap (λ b. kept_before row n + cond b 1 0) h ∙ z

  pub kept_less : (n w : ℕ) → w < n → value_at row w ≡ true → kept_before row w < kept_before row n
  kept_less zero w l h = absurd (omega arith)
  kept_less (suc n) w l h = ⊎_elim
      (λ (q : w ≡ n). let e = one_more_kept w h in let r : suc n ≡ w + 1 = omega arith in let f = ap (kept_before row) r in omega (arith, e, f))
      (λ (b : w < n). let less = kept_less n w b h in let e = kept_step n in omega (arith, less, e))
      (last_or_before w n l)

  -- where all worlds are reached each world comes behind those before it
  pub kept_all : (n : ℕ) → ((w : ℕ) → w < n → IsTrue (value_at row w)) → (w : ℕ) → w ≤ n → kept_before row w ≡ w
  kept_all n h zero l = refl
  kept_all n h (suc w) l =
      let q : w + 1 ≡ suc w = omega arith in
      ap (kept_before row) (sym q) ∙ one_more_kept w (h w (omega arith)) ∙ ap (λ k. k + 1) (kept_all n h w (omega arith)) ∙ q

-- one more world of the map
pub map_more : (row : List Bool) (classes : List ℕ) (w : ℕ) (before after : List (Option ℕ)) (v : Option ℕ) → before ≡ table (class_at row classes) w → v ≡ class_at row classes w → after ≡ before ++ v ∷ [] → after ≡ table (class_at row classes) (w + 1)
map_more row classes w before after v h e f =
    let q : w + 1 ≡ suc w = omega arith in
    f ∙ (λ i. h i ++ e i ∷ []) ∙ ap (table (class_at row classes)) (sym q)

own_image : (S : Kripke) → IsImage S (λ _. true) (λ w. w) S
own_image S = record {
  agents = refl;
  atoms = refl;
  within = λ w b t. b;
  onto = λ c b. (c, b, refl, refl);
  truth = λ w b t. refl;
  link = λ a w u i t v. i;
  linked = λ a c d i. (c, d, i, refl, refl, refl, refl);
  designated = λ w i t. i;
  from_designated = λ c i. (c, i, refl, refl);
}

-- a state whose worlds are all reached is its reached part
pub whole_part : (S : Kripke) → IsState S → (row : List Bool) → ((w : ℕ) → w < S.worlds → IsTrue (value_at row w)) → IsRestriction S row S
whole_part S s row h = image_as S S s (λ _. true) (value_at row) (λ w. w) (kept_before row) (λ w b. sym (h w b)) (λ w b. sym (kept_all row S.worlds h w (omega (arith, b)))) (own_image S)

module _ (S : Kripke) (s : IsState S) (row : List Bool) (classes : List ℕ) (one_each : length row ≡ S.worlds)
    (reached : (w : ℕ) → w < S.worlds → IsTrue (value_at row w) ↔ Reached S w) where
  abbrev number : ℕ → ℕ
  number w = slice_index classes (kept_before row w)

  abbrev map : List (Option ℕ)
  map = class_map row classes

  to_related : (w : ℕ) → w < S.worlds → IsTrue (value_at row w) → IsTrue (relates map w (number w))
  to_related w b k =
      ap (λ o. is_number o (number w)) (get_or-table (class_at row classes) (length row) w None (omega (arith, b, one_each)) ∙ ap (λ t. cond t (Some (number w)) None) k)
      ∙ test_itself (number w)

  from_class : (t : Bool) (x v : ℕ) → IsTrue (is_number (cond t (Some x) None) v) → IsTrue t × (x ≡ v)
  from_class true x v h = (refl, equal_from_test x v h)
  from_class false x v h = absurd (false≢true h)

  from_related : (w v : ℕ) → IsTrue (relates map w v) → (w < S.worlds) × IsTrue (value_at row w) × (number w ≡ v)
  from_related w v h = elim (dec_lt w (length row)) [
    | yes l ↦
        let f = from_class (value_at row w) (number w) v (ap (λ o. is_number o v) (sym (get_or-table (class_at row classes) (length row) w None l)) ∙ h) in
        (omega (arith, l, one_each), f.0, f.1)
    | no m ↦ absurd (false≢true (ap (λ o. is_number o v) (sym (get_or_past map w None (omega (arith, length-table (class_at row classes) (length row))))) ∙ h))
  ]

  closed : (a w u : ℕ) → IsIn (w, u) (links_of S a) → IsTrue (value_at row w) → IsTrue (value_at row u)
  closed a w u i k =
      let b = links_within S s a w u i in
      (reached u b.1).1 (step a w ((reached w b.0).0 k) i)

  -- the worlds that are reached go somewhere, and no others do
  pub somewhere : (w : ℕ) → ((v : ℕ) × (get_or map w None ≡ Some v)) ↔ Reached S w
  somewhere w = (
    λ h. let f = from_related w h.0 (ap (λ o. is_number o h.0) h.1 ∙ test_itself h.0) in (reached w f.0).0 f.1,
    λ r.
        let b = reached_within S s w r in
        let k = (reached w b).1 r in
        (number w, get_or-table (class_at row classes) (length row) w None (omega (arith, b, one_each)) ∙ ap (λ t. cond t (Some (number w)) None) k),
  )

  module _ (P C : Kripke) (p : IsState P) (part : IsRestriction S row P) (ranks : RanksAt P P.worlds (slice_index classes)) (image : IsImage P (λ _. true) (slice_index classes) C) where
    related : IsBisimulation (relates map) S C
    related = record {
      agents = part.agents ∙ image.agents;
      atoms = part.atoms ∙ image.atoms;
      within = λ w v h. let f = from_related w v h in (f.0, subst (λ x. x < C.worlds) f.2 (image.within (kept_before row w) (part.within w f.0 f.1) refl));
      truth = λ w v h.
          let f = from_related w v h in
          part.truth w f.0 f.1 ∙ image.truth (kept_before row w) (part.within w f.0 f.1) refl ∙ ap (truth_of C) f.2;
      forth = λ a w v u h i.
          let f = from_related w v h in
          let k = closed a w u i f.1 in
          (number u, subst (λ x. IsIn (x, number u) (links_of C a)) f.2 (image.link a (kept_before row w) (kept_before row u) (part.link a w u i f.1 k) refl refl), to_related u (links_within S s a w u i).1 k);
      back = λ a w v x h i.
          let f = from_related w v h in
          let l = image.linked a v x i in
          let inside = links_within P p a l.0 l.1 l.2 in
          let z = (classes_decide P (slice_index classes) p ranks l.0 (kept_before row w) inside.0 (part.within w f.0 f.1)).0 (l.5 ∙ sym f.2) in
          let y = z.1.forth a l.0 (kept_before row w) l.1 z.2 l.2 in
          let e = (classes_decide P (slice_index classes) p ranks l.1 y.0 inside.1 (links_within P p a (kept_before row w) y.0 y.1).1).1 (z.0, z.1, y.2) in
          let k = part.linked a (kept_before row w) y.0 y.1 in
          let from = links_within S s a k.0 k.1 k.2 in
          let same : k.0 ≡ w = kept_apart row S.worlds k.0 w from.0 f.0 k.3 f.1 k.5 in
          (k.1, subst (λ x. IsIn (x, k.1) (links_of S a)) same k.2, subst (λ x. IsTrue (relates map k.1 x)) (ap (slice_index classes) k.6 ∙ sym e ∙ l.6) (to_related k.1 from.1 k.4));
    }

    pub part_maps : Maps S C (class_map row classes)
    part_maps = record {
      long = length-table (class_at row classes) (length row) ∙ one_each;
      bisimulation = related;
      forth = λ w i.
          let b = at_All (λ x. x < S.worlds) w S.designated s.designated_within i in
          let k = (reached w b).1 (start i) in
          (number w, image.designated (kept_before row w) (part.designated w i k) refl, to_related w b k);
      back = λ v i.
          let q = image.from_designated v i in
          let o = part.from_designated q.0 q.1 in
          let b = at_All (λ x. x < S.worlds) o.0 S.designated s.designated_within o.1 in
          (o.0, o.1, subst (λ x. IsTrue (relates map o.0 x)) (ap (slice_index classes) o.3 ∙ q.3) (to_related o.0 b o.2));
    }
