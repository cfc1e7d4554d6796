-- The kept worlds in their order.
use Rattle.std.proofs.Common.{◌≡◌, ℕ, zero, suc, ◌<◌, ◌≤◌, ◌+◌, Bool, true, false, cond, List, [], ◌∷◌, ◌++◌, length, get_or, map, filter, slice_index, refl, sym, ap, ap₂, subst, ◌∙◌, arith, ⊎_elim, IsTrue, length-append}
use Rattle.std.specs.List.{AllByRecursion, range_with_len}
use Rattle.std.proofs.Math.ListN.{get_or-append}
use Rattle.std.proofs.Math.Seq.{get_or-append_seam}
use Rattle.std.proofs.lemmas.List.FromFn.{get_or-map-range_with_len}
use Rattle.ep_theory.specs.Rising.{IsIn}
use Rattle.ep_theory.specs.Kripke.{Kripke, IsState, links_of, truth_of}
use Rattle.ep_theory.specs.Image.{IsImage}
use Rattle.ep_theory.proofs.CallerLemmas.{last_or_before, Contains-from_in, from_filter, All-at, IsIn-at, at_All, All-from_each, from_range, links_within}
use Rattle.std.proofs.lemmas.Bool.{false≢true}
use Rattle.std.proofs.lemmas.List.{get_or_default}
use Rattle.ep_logic.specs.Rows.{value_at}
use Rattle.ep_refine.specs.Choices.{IsChoice}
use Rattle.ep_refine.specs.Kept.{KeepsDesignated, IsRestriction, kept_below, kept_before}
use Rattle.ep_refine.proofs.PlacesLemmas.{range_more, map_range_more}

filter-append : (p : ℕ → Bool) (xs ys : List ℕ) → filter p (xs ++ ys) ≡ filter p xs ++ filter p ys
filter-append p [] ys = refl
filter-append p (x ∷ xs) ys = elim (p x) as (λ b. cond b (x ∷ filter p (xs ++ ys)) (filter p (xs ++ ys)) ≡ cond b (x ∷ filter p xs) (filter p xs) ++ filter p ys) [
  | true ↦ ap (λ l. x ∷ l) (filter-append p xs ys)
  | false ↦ filter-append p xs ys
]

module _ (keep : List Bool) where
  more : (n : ℕ) → kept_below keep (suc n) ≡ kept_below keep n ++ cond (value_at keep n) (n ∷ []) []
  more n =
      let z : 0 + n ≡ n = omega arith in
      ap (filter (value_at keep)) (range_more 0 n ∙ ap (λ k. range_with_len 0 n ++ k ∷ []) z) ∙ filter-append (value_at keep) (range_with_len 0 n) (n ∷ [])

  pub kept_more : (n : ℕ) → value_at keep n ≡ true → kept_below keep (n + 1) ≡ kept_below keep n ++ n ∷ []
  kept_more n h =
      let q : n + 1 ≡ suc n = omega arith in
      ap (kept_below keep) q ∙ more n ∙ ap (λ b. kept_below keep n ++ cond b (n ∷ []) []) h

  no_more : (xs : List ℕ) → xs ++ [] ≡ xs
  no_more [] = refl
  no_more (x ∷ xs) = ap (λ l. x ∷ l) (no_more xs)

  pub kept_same : (n : ℕ) → value_at keep n ≡ false → kept_below keep (n + 1) ≡ kept_below keep n
  kept_same n h =
      let q : n + 1 ≡ suc n = omega arith in
      ap (kept_below keep) q ∙ more n ∙ ap (λ b. kept_below keep n ++ cond b (n ∷ []) []) h ∙ no_more (kept_below keep n)

  -- a kept world stands at its number
  stands : (n w : ℕ) → w < n → value_at keep w ≡ true → (kept_before keep w < length (kept_below keep n)) × (get_or (kept_below keep n) (kept_before keep w) 0 ≡ w)
  stands zero w l h = absurd (omega arith)
  stands (suc n) w l h = ⊎_elim
      (λ (q : w ≡ n).
      let e : kept_below keep (suc n) ≡ kept_below keep n ++ n ∷ [] = more n ∙ ap (λ b. kept_below keep n ++ cond b (n ∷ []) []) (ap (value_at keep) (sym q) ∙ h) in
      let b : kept_before keep w ≡ length (kept_below keep n) = ap (kept_before keep) q in
      let m = ap length e ∙ length-append (kept_below keep n) (n ∷ []) in
      ((omega arith), ap₂ (λ xs i. get_or xs i 0) e b ∙ get_or-append_seam (kept_below keep n) n [] 0 ∙ sym q))
      (λ (b : w < n).
      let r = stands n w b h in
      let m = ap length (more n) ∙ length-append (kept_below keep n) (cond (value_at keep n) (n ∷ []) []) in
      let i = r.0 in
      ((omega arith), ap (λ xs. get_or xs (kept_before keep w) 0) (more n) ∙ get_or-append (kept_below keep n) (cond (value_at keep n) (n ∷ []) []) 0 (kept_before keep w) r.0 ∙ r.1))
      (last_or_before w n l)

  own_step : (n c : ℕ) (b : Bool) → ((c : ℕ) → c < length (kept_below keep n) → kept_before keep (get_or (kept_below keep n) c 0) ≡ c) →
      c < length (kept_below keep n ++ cond b (n ∷ []) []) → kept_before keep (get_or (kept_below keep n ++ cond b (n ∷ []) []) c 0) ≡ c
  own_step n c true ih l = ⊎_elim
      (λ (q : c ≡ length (kept_below keep n)). ap (kept_before keep) (ap (λ i. get_or (kept_below keep n ++ n ∷ []) i 0) q ∙ get_or-append_seam (kept_below keep n) n [] 0) ∙ sym q)
      (λ (b : c < length (kept_below keep n)). ap (kept_before keep) (get_or-append (kept_below keep n) (n ∷ []) 0 c b) ∙ ih c b)
      (last_or_before c (length (kept_below keep n)) (let m = length-append (kept_below keep n) (n ∷ []) in omega arith))
  own_step n c false ih l =
      let e = no_more (kept_below keep n) in
      ap (λ xs. kept_before keep (get_or xs c 0)) e ∙ ih c (let m = ap length e in omega arith)

  -- the kept world at a place has that number
  own : (n c : ℕ) → c < length (kept_below keep n) → kept_before keep (get_or (kept_below keep n) c 0) ≡ c
  own zero c l = absurd (omega arith)
  own (suc n) c l =
      ap (λ xs. kept_before keep (get_or xs c 0)) (more n)
      ∙ own_step n c (value_at keep n) (own n) (let m = ap length (more n) in omega arith)

  kept_each : (n : ℕ) → AllByRecursion (λ w. (w < n) × IsTrue (value_at keep w)) (kept_below keep n)
  kept_each n = All-from_each (λ w. (w < n) × IsTrue (value_at keep w)) (kept_below keep n)
      (λ w i.
      let f = from_filter (value_at keep) w (range_with_len 0 n) i in
      let r = from_range 0 n w f.0 in
      ((omega arith), f.1))

  pub kept_few : (n : ℕ) → length (kept_below keep n) ≤ n
  kept_few zero = omega arith
  kept_few (suc n) =
      let m = ap length (more n) ∙ length-append (kept_below keep n) (cond (value_at keep n) (n ∷ []) []) in
      let i = kept_few n in
      let o = one (value_at keep n) in
      omega arith
    where
      one : (b : Bool) → length (cond b (n ∷ []) []) ≤ 1
      one true = omega arith
      one false = omega arith

  pub kept_choice : (S : Kripke) → IsState S → (numbers : List ℕ) → numbers ≡ map (kept_before keep) (range_with_len 0 S.worlds) → KeepsDesignated S keep →
      IsChoice S (value_at keep) (slice_index numbers) (kept_below keep S.worlds)
  kept_choice S s numbers e d = record {
    each = kept_each S.worlds;
    below = λ w b k. let q = number w b in let r = (stands S.worlds w b k).0 in omega arith;
    onto = λ c b. number (get_or (kept_below keep S.worlds) c 0) (All-at (λ w. (w < S.worlds) × IsTrue (value_at keep w)) (kept_below keep S.worlds) c 0 b (kept_each S.worlds)).0 ∙ own S.worlds c b;
    truth = λ w b k. ap (truth_of S) (sym (chosen w b k));
    answers = λ a w u i k m. (u, subst (λ x. IsIn (x, u) (links_of S a)) (sym (chosen w (links_within S s a w u i).0 k)) i, m, refl);
    designated = d;
  }
    where
      number : (w : ℕ) → w < S.worlds → slice_index numbers w ≡ kept_before keep w
      number w b = ap (λ l. get_or l w 0) e ∙ get_or-map-range_with_len (kept_before keep) 0 S.worlds w w 0 b (omega arith)

      chosen : (w : ℕ) → w < S.worlds → IsTrue (value_at keep w) → slice_index (kept_below keep S.worlds) (slice_index numbers w) ≡ w
      chosen w b k = ap (slice_index (kept_below keep S.worlds)) (number w b) ∙ (stands S.worlds w b k).1

-- an image under tests and numbers that agree with these
pub image_as : (S Q : Kripke) → IsState S → (k l : ℕ → Bool) (f g : ℕ → ℕ) → ((w : ℕ) → w < S.worlds → k w ≡ l w) → ((w : ℕ) → w < S.worlds → f w ≡ g w) → IsImage S k f Q → IsImage S l g Q
image_as S Q s k l f g e n m = record {
  agents = m.agents;
  atoms = m.atoms;
  within = λ w b t. subst (λ c. c < Q.worlds) (n w b) (m.within w b (back w b t));
  onto = λ c b. let o = m.onto c b in (o.0, o.1, subst IsTrue (e o.0 o.1) o.2, sym (n o.0 o.1) ∙ o.3);
  truth = λ w b t. m.truth w b (back w b t) ∙ ap (truth_of Q) (n w b);
  link = λ a w u i t v.
      let b = links_within S s a w u i in
      subst (λ c. IsIn (c, g u) (links_of Q a)) (n w b.0) (subst (λ c. IsIn (f w, c) (links_of Q a)) (n u b.1) (m.link a w u i (back w b.0 t) (back u b.1 v)));
  linked = λ a c d i.
      let o = m.linked a c d i in
      let b = links_within S s a o.0 o.1 o.2 in
      (o.0, o.1, o.2, subst IsTrue (e o.0 b.0) o.3, subst IsTrue (e o.1 b.1) o.4, sym (n o.0 b.0) ∙ o.5, sym (n o.1 b.1) ∙ o.6);
  designated = λ w i t. let b = designated_below w i in subst (λ c. IsIn c Q.designated) (n w b) (m.designated w i (back w b t));
  from_designated = λ c i.
      let o = m.from_designated c i in
      let b = designated_below o.0 o.1 in
      (o.0, o.1, subst IsTrue (e o.0 b) o.2, sym (n o.0 b) ∙ o.3);
}
  where
    back : (w : ℕ) → w < S.worlds → IsTrue (l w) → IsTrue (k w)
    back w b t = subst IsTrue (sym (e w b)) t

    designated_below : (w : ℕ) → IsIn w S.designated → w < S.worlds
    designated_below w i = at_All (λ x. x < S.worlds) w S.designated s.designated_within i

-- at the numbers of the kept worlds
pub restriction : (S Q : Kripke) → IsState S → (keep : List Bool) (numbers : List ℕ) → numbers ≡ map (kept_before keep) (range_with_len 0 S.worlds) → IsImage S (value_at keep) (slice_index numbers) Q → IsRestriction S keep Q
restriction S Q s keep numbers e m = image_as S Q s (value_at keep) (value_at keep) (slice_index numbers) (kept_before keep) (λ w b. refl)
    (λ w b. ap (λ l. get_or l w 0) e ∙ get_or-map-range_with_len (kept_before keep) 0 S.worlds w w 0 b (omega arith)) m

-- one more world's number
pub numbers_more : (keep : List Bool) (numbers after : List ℕ) (count n : ℕ) → numbers ≡ map (kept_before keep) (range_with_len 0 n) → count ≡ kept_before keep n → after ≡ numbers ++ count ∷ [] →
    after ≡ map (kept_before keep) (range_with_len 0 (n + 1))
numbers_more keep numbers after count n h q e = sym (map_id after) ∙ map_range_more (λ x. x) (kept_before keep) numbers after count n (map_id numbers ∙ h) q e
  where
    map_id : (xs : List ℕ) → map (λ x. x) xs ≡ xs
    map_id [] = refl
    map_id (x ∷ xs) = ap (λ l. x ∷ l) (map_id xs)

-- kept worlds have different numbers
pub kept_apart : (keep : List Bool) (n w v : ℕ) → w < n → v < n → value_at keep w ≡ true → value_at keep v ≡ true → kept_before keep w ≡ kept_before keep v → w ≡ v
kept_apart keep n w v a b h k e = sym (stands keep n w a h).1 ∙ ap (λ i. get_or (kept_below keep n) i 0) e ∙ (stands keep n v b k).1

-- whether a designated world is kept
pub some_kept : (S : Kripke) (keep : List Bool) (ds : List ℕ) (i : ℕ) → ds ≡ S.designated → i < length ds → value_at keep (get_or ds i 0) ≡ true → KeepsDesignated S keep
some_kept S keep ds i e l h = (get_or ds i 0, subst (IsIn (get_or ds i 0)) e (IsIn-at ds i 0 l), h)

pub none_kept : (S : Kripke) (keep : List Bool) (i : ℕ) → length S.designated ≤ i → ((k : ℕ) → k < i → value_at keep (slice_index S.designated k) ≡ false) → ¬ KeepsDesignated S keep
none_kept S keep i l h d =
    let c = Contains-from_in d.0 S.designated d.1 in
    let f : value_at keep (get_or S.designated c.0 0) ≡ false = h c.0 (let k = c.1 in omega arith) in
    let e : get_or S.designated c.0 0 ≡ d.0 = get_or_default S.designated c.0 0 d.0 c.1 ∙ c.2 in
    false≢true (sym f ∙ ap (value_at keep) e ∙ d.2)
