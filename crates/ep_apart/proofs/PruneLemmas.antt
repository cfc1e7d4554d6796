-- The lines that a line stands on.
use Rattle.std.proofs.Common.{◌≡◌, ◌≢◌, ℕ, zero, suc, ◌<◌, ◌≤◌, ◌+◌, ◌⊎◌, inl, inr, ⊎_elim, Bool, true, false, List, [], ◌∷◌, ◌++◌, length, get_or, map, take, drop, set, slice_index, refl, sym, ap, ap₂, subst, ◌∙◌, arith, IsTrue, length-append}
use Rattle.std.proofs.lemmas.List.{length-map, length-set, get_or-set_other, get_or-set_same, take_more}
use Rattle.ep_logic.specs.declared.formula.Node.{Node}
use Rattle.ep_logic.specs.declared.formula.Node.TheVariants.{Not, And, Knows}
use Rattle.ep_theory.specs.Rising.{IsIn}
use Rattle.ep_theory.proofs.CallerLemmas.{All-from_each, at_All, from_map, in_left, in_parts, in_right, last_or_before}
use Rattle.ep_logic.specs.Rows.{value_at}
use Rattle.ep_apart.specs.declared.lines.Line.{Line}
use Rattle.ep_apart.specs.Lines.{formula_at, formula_with, formulas_from, formula_of, IsLine, AreLines, last_line}
use Rattle.ep_apart.specs.Pruning.{line_at, Names, renumber, NameEarlier, MarksNames, MarksAll, IsClosedFrom, KeptSoFar}
use Rattle.ep_apart.specs.Tables.{IsCut}
use Rattle.ep_apart.proofs.FormulaLemmas.{formula-kept, formula-added, lines-added}
use Rattle.ep_apart.proofs.TableLemmas.{get_left, get_end}

-- lines and their places
place_of_line : (agents atoms n k : ℕ) (ls : List Line) → AreLines agents atoms n ls → k < length ls → IsLine agents atoms (n + k) (line_at ls k)
place_of_line agents atoms n k [] h l = absurd (omega arith)
place_of_line agents atoms n zero (x ∷ ls) h l = let q : n ≡ n + 0 = omega arith in subst (λ m. IsLine agents atoms m x) q h.0
place_of_line agents atoms n (suc k) (x ∷ ls) h l = let q : suc n + k ≡ n + suc k = omega arith in subst (λ m. IsLine agents atoms m (line_at ls k)) q (place_of_line agents atoms (suc n) k ls h.1 (omega arith))

pub line_at_place : (agents atoms k : ℕ) (ls : List Line) → AreLines agents atoms 0 ls → k < length ls → IsLine agents atoms k (line_at ls k)
line_at_place agents atoms k ls h l = let q : 0 + k ≡ k = omega arith in subst (λ m. IsLine agents atoms m (line_at ls k)) q (place_of_line agents atoms 0 k ls h l)

earlier_name : (agents atoms k i : ℕ) (l : Line) → IsLine agents atoms k l → Names l i → i < k
earlier_name agents atoms k i Line.True h n = absurd n
earlier_name agents atoms k i (Line.Atom p) h n = absurd n
earlier_name agents atoms k i (Line.Not j) h n = omega arith
earlier_name agents atoms k i (Line.And js) h n = at_All (λ j. j < k) i js h.1 n
earlier_name agents atoms k i (Line.Knows a j) h n = let b = h.1 in omega arith

pub names_earlier : (agents atoms : ℕ) (ls : List Line) → AreLines agents atoms 0 ls → NameEarlier ls
names_earlier agents atoms ls h k i l n = earlier_name agents atoms k i (line_at ls k) (line_at_place agents atoms k ls h l) n

pub line_renumbered : (agents atoms k n : ℕ) (f : ℕ → ℕ) (l : Line) → IsLine agents atoms k l → ((i : ℕ) → Names l i → f i < n) → IsLine agents atoms n (renumber f l)
line_renumbered agents atoms k n f Line.True h g = tt
line_renumbered agents atoms k n f (Line.Atom p) h g = h
line_renumbered agents atoms k n f (Line.Not j) h g = g j refl
line_renumbered agents atoms k n f (Line.And js) h g = (
  (let a = h.0 in let m = length-map js f in omega arith),
  All-from_each (λ j. j < n) (map f js) (λ x i. let m = from_map f x js i in let b = g m.0 m.1 in let e = m.2 in omega arith),
)
line_renumbered agents atoms k n f (Line.Knows a j) h g = (h.0, g j refl)

-- a line under new numbers says the same where its numbers do
same_parts : (fs gs : List Node) (f : ℕ → ℕ) (js : List ℕ) → ((i : ℕ) → IsIn i js → formula_at fs i ≡ formula_at gs (f i)) → map (formula_at fs) js ≡ map (formula_at gs) (map f js)
same_parts fs gs f [] h = refl
same_parts fs gs f (j ∷ js) h = ap₂ (λ a b. a ∷ b) (h j (inl refl)) (same_parts fs gs f js (λ i m. h i (inr m)))

same_line : (fs gs : List Node) (f : ℕ → ℕ) (l : Line) → ((i : ℕ) → Names l i → formula_at fs i ≡ formula_at gs (f i)) → formula_with fs l ≡ formula_with gs (renumber f l)
same_line fs gs f Line.True h = refl
same_line fs gs f (Line.Atom p) h = refl
same_line fs gs f (Line.Not j) h = ap Not (h j refl)
same_line fs gs f (Line.And js) h = ap And (same_parts fs gs f js h)
same_line fs gs f (Line.Knows a j) h = ap (Knows a) (h j refl)

take_at : (k : ℕ) (ls : List Line) → k < length ls → (take k ls ++ line_at ls k ∷ []) ++ drop (suc k) ls ≡ ls
take_at zero [] h = absurd (omega arith)
take_at zero (l ∷ ls) h = refl
take_at (suc k) [] h = absurd (omega arith)
take_at (suc k) (l ∷ ls) h = ap (λ m. l ∷ m) (take_at k ls (omega arith))

take_long : (n : ℕ) (ls : List Line) → n ≤ length ls → length (take n ls) ≡ n
take_long zero ls h = refl
take_long (suc n) [] h = absurd (omega arith)
take_long (suc n) (l ∷ ls) h = ap suc (take_long n ls (omega arith))

take_rest : (k : ℕ) (ls : List Line) → take k ls ++ drop k ls ≡ ls
take_rest zero ls = refl
take_rest (suc k) [] = refl
take_rest (suc k) (l ∷ ls) = ap (λ m. l ∷ m) (take_rest k ls)

-- the formula of a line by those before it
pub formula_here : (ls : List Line) (k : ℕ) → k < length ls → formula_of ls k ≡ formula_with (formulas_from [] (take k ls)) (line_at ls k)
formula_here ls k l =
    let t = take_long k ls (omega arith) in
    let m = length-append (take k ls) (line_at ls k ∷ []) in
    ap (λ x. formula_of x k) (sym (take_at k ls l)) ∙ formula-kept (take k ls ++ line_at ls k ∷ []) (drop (suc k) ls) k (omega arith)
    ∙ formula-added (take k ls) (line_at ls k) k (sym t)

pub formula_before : (ls : List Line) (k i : ℕ) → k < length ls → i < k → formula_of (take k ls) i ≡ formula_of ls i
formula_before ls k i l b =
    let t = take_long k ls (omega arith) in
    sym (formula-kept (take k ls) (drop k ls) i (omega arith)) ∙ ap (λ x. formula_of x i) (take_rest k ls)

-- one more line that is kept
pub kept_formula : (lines kept : List Line) (f : ℕ → ℕ) (k n : ℕ) → k < length lines → n ≡ length kept → NameEarlier lines → ((i : ℕ) → Names (line_at lines k) i → formula_of kept (f i) ≡ formula_of lines i) →
    formula_of (kept ++ renumber f (line_at lines k) ∷ []) n ≡ formula_of lines k
unfolding formula_of
kept_formula lines kept f k n l e early h =
    formula-added kept (renumber f (line_at lines k)) n e
    ∙ sym (same_line (formulas_from [] (take k lines)) (formulas_from [] kept) f (line_at lines k)
    (λ i m. formula_before lines k i l (early k i l m) ∙ sym (h i m)))
    ∙ sym (formula_here lines k l)

pub kept_proper : (agents atoms : ℕ) (lines kept : List Line) (f : ℕ → ℕ) (k : ℕ) → k < length lines → AreLines agents atoms 0 lines → AreLines agents atoms 0 kept → ((i : ℕ) → Names (line_at lines k) i → f i < length kept) →
    AreLines agents atoms 0 (kept ++ renumber f (line_at lines k) ∷ [])
kept_proper agents atoms lines kept f k l h g b =
    lines-added agents atoms (length kept) kept (renumber f (line_at lines k)) refl g (line_renumbered agents atoms k (length kept) f (line_at lines k) (line_at_place agents atoms k lines h l) b)

pub kept_start : (lines : List Line) (needed : List Bool) (numbers : List ℕ) (kept : List Line) → numbers ≡ [] → kept ≡ [] → KeptSoFar lines needed numbers kept 0
kept_start lines needed numbers kept e f = record {
  long = ap length e;
  within = λ i l m. absurd (omega arith);
  formulas = λ i l m. absurd (omega arith);
  few = (let q = ap length f in omega arith);
  proper = λ agents atoms h. subst (AreLines agents atoms 0) (sym f) tt;
}

-- a line that is not needed
pub kept_skip : (lines : List Line) (needed : List Bool) (numbers more : List ℕ) (kept : List Line) (k n : ℕ) → KeptSoFar lines needed numbers kept k → more ≡ numbers ++ n ∷ [] → value_at needed k ≡ false → KeptSoFar lines needed more kept (k + 1)
kept_skip lines needed numbers more kept k n h e f =
    let long = h.long in
    let same = λ (i : ℕ) (l : i < k). ap (λ ns. slice_index ns i) e ∙ get_left 0 numbers (n ∷ []) i (omega arith) in
    record {
      long = (let a = ap length e in let b = length-append numbers (n ∷ []) in omega arith);
      within = λ i l m. ⊎_elim
          (λ (q : i ≡ k). absurd (clash (value_at needed k) (ap (value_at needed) (sym q) ∙ m) f))
          (λ (b : i < k). let w = h.within i b m in let s = same i b in omega arith)
          (last_or_before i k (omega arith));
      formulas = λ i l m. ⊎_elim
          (λ (q : i ≡ k). absurd (clash (value_at needed k) (ap (value_at needed) (sym q) ∙ m) f))
          (λ (b : i < k). ap (formula_of kept) (same i b) ∙ h.formulas i b m)
          (last_or_before i k (omega arith));
      few = (let w = h.few in omega arith);
      proper = h.proper;
    }
  where
    clash : (b : Bool) → b ≡ true → b ≡ false → ⊥
    clash b p q = cc

-- a line that is needed
pub kept_add : (lines : List Line) (needed : List Bool) (numbers more : List ℕ) (kept after : List Line) (r k n : ℕ) (line : Line) → KeptSoFar lines needed numbers kept k → IsClosedFrom lines r 0 needed → NameEarlier lines → k < r → r < length lines →
    n ≡ length kept → more ≡ numbers ++ n ∷ [] → value_at needed k ≡ true → line ≡ renumber (slice_index more) (line_at lines k) → after ≡ kept ++ line ∷ [] → KeptSoFar lines needed more after (k + 1)
kept_add lines needed numbers more kept after r k n line h c early b l w e t s a =
    let long = h.long in
    let same = λ (i : ℕ) (l : i < k). ap (λ ns. slice_index ns i) e ∙ get_left 0 numbers (n ∷ []) i (omega arith) in
    let own : slice_index more k ≡ n = ap (λ ns. slice_index ns k) e ∙ get_end 0 numbers n k (sym long) in
    let grown : length after ≡ length kept + 1 = ap length a ∙ length-append kept (line ∷ []) in
    let whole : after ≡ kept ++ renumber (slice_index more) (line_at lines k) ∷ [] = a ∙ ap (λ x. kept ++ x ∷ []) s in
    let inside : k < length lines = omega arith in
    let marked = λ (i : ℕ) (m : Names (line_at lines k) i). c.each k i (omega arith) b t m in
    let part = λ (i : ℕ) (m : Names (line_at lines k) i). ap (formula_of kept) (same i (early k i inside m)) ∙ h.formulas i (early k i inside m) (marked i m) in
    let small : (i : ℕ) → Names (line_at lines k) i → slice_index more i < length kept = λ i m. let x = h.within i (early k i inside m) (marked i m) in let y = same i (early k i inside m) in omega arith in
    record {
      long = (let x = ap length e in let y = length-append numbers (n ∷ []) in omega arith);
      within = λ i l m. ⊎_elim
          (λ (q : i ≡ k). let x = ap (slice_index more) q in omega arith)
          (λ (d : i < k). let x = h.within i d m in let y = same i d in omega arith)
          (last_or_before i k (omega arith));
      formulas = λ i l m. ⊎_elim
          (λ (q : i ≡ k). ap (λ z. formula_of after (slice_index more z)) q ∙ ap (formula_of after) own ∙ ap (λ x. formula_of x n) whole
          ∙ kept_formula lines kept (slice_index more) k n inside w early part ∙ ap (formula_of lines) (sym q))
          (λ (d : i < k). ap (formula_of after) (same i d) ∙ ap (λ x. formula_of x (slice_index numbers i)) a ∙ formula-kept kept (line ∷ []) (slice_index numbers i) (h.within i d m) ∙ h.formulas i d m)
          (last_or_before i k (omega arith));
      few = (let x = h.few in omega arith);
      proper = λ agents atoms p. subst (AreLines agents atoms 0) (sym whole) (kept_proper agents atoms lines kept (slice_index more) k inside p (h.proper agents atoms p) small);
    }

-- the last line
pub kept_last : (lines : List Line) (needed : List Bool) (numbers : List ℕ) (kept after : List Line) (r k : ℕ) (line : Line) → KeptSoFar lines needed numbers kept k → IsClosedFrom lines r 0 needed → NameEarlier lines → k ≡ r → r < length lines →
    line ≡ renumber (slice_index numbers) (line_at lines r) → after ≡ kept ++ line ∷ [] → IsCut lines r after
kept_last lines needed numbers kept after r k line h c early q l s a =
    let grown : length after ≡ length kept + 1 = ap length a ∙ length-append kept (line ∷ []) in
    let whole : after ≡ kept ++ renumber (slice_index numbers) (line_at lines r) ∷ [] = a ∙ ap (λ x. kept ++ x ∷ []) s in
    let before = λ (i : ℕ) (m : Names (line_at lines r) i). let x : i < k = let y = early r i l m in omega arith in x in
    let last : last_line after ≡ length kept = omega arith in
    record {
      some_line = (omega arith);
      formula = ap (formula_of after) last ∙ ap (λ x. formula_of x (length kept)) whole ∙ kept_formula lines kept (slice_index numbers) r (length kept) l refl early (λ i m. h.formulas i (before i m) (c.last i m));
      proper = λ agents atoms p. subst (AreLines agents atoms 0) (sym whole) (kept_proper agents atoms lines kept (slice_index numbers) r l p (h.proper agents atoms p) (λ i m. h.within i (before i m) (c.last i m)));
      few = (let x = h.few in omega arith);
    }

-- marks
pub mark_none : (row : List Bool) → MarksAll [] row row
mark_none row = record { long = refl; keeps = λ i h. h; marks = λ i h. absurd h; only = λ i h. inl h }

is_set : (row : List Bool) (j i : ℕ) → j < length row → IsTrue (value_at row i) ⊎ (i ≡ j) → IsTrue (value_at (set row j true) i)
is_set row j i l h = ⊎_elim
    (λ (q : i ≡ j). ap (value_at (set row j true)) q ∙ get_or-set_same row j true false l)
    (λ (n : i ≢ j). ⊎_elim
    (λ (m : IsTrue (value_at row i)). get_or-set_other row j i true false n ∙ m)
    (λ (q : i ≡ j). absurd (n q)) h)
    (same_or_not i j)
  where
    same_or_not : (x y : ℕ) → (x ≡ y) ⊎ (x ≢ y)
    same_or_not x y = grind arith

set_only : (row : List Bool) (j i : ℕ) → IsTrue (value_at (set row j true) i) → IsTrue (value_at row i) ⊎ (i ≡ j)
set_only row j i h = ⊎_elim
    (λ (q : i ≡ j). inr q)
    (λ (n : i ≢ j). inl (sym (get_or-set_other row j i true false n) ∙ h))
    (same_or_not i j)
  where
    same_or_not : (x y : ℕ) → (x ≡ y) ⊎ (x ≢ y)
    same_or_not x y = grind arith

pub mark_more : (numbers : List ℕ) (i : ℕ) (old mid new : List Bool) → MarksAll (take i numbers) old mid → i < length numbers → get_or numbers i 0 < length old → new ≡ set mid (get_or numbers i 0) true → MarksAll (take (i + 1) numbers) old new
mark_more numbers i old mid new h l b e =
    let x = get_or numbers i 0 in
    let g = h.long in
    let inside : x < length mid = omega arith in
    record {
      long = ap length e ∙ length-set mid x true ∙ h.long;
      keeps = λ j m. subst (λ row. IsTrue (value_at row j)) (sym e) (is_set mid x j inside (inl (h.keeps j m)));
      marks = λ j m. subst (λ row. IsTrue (value_at row j)) (sym e) (⊎_elim
          (λ (k : IsIn j (take i numbers)). is_set mid x j inside (inl (h.marks j k)))
          (λ (k : IsIn j (x ∷ [])). is_set mid x j inside (inr (only j k)))
          (in_parts j (take i numbers) (x ∷ []) (subst (IsIn j) (take_more numbers i 0 l) m)));
      only = λ j m. ⊎_elim
          (λ (k : IsTrue (value_at mid j)). ⊎_elim
          (λ (o : IsTrue (value_at old j)). inl o)
          (λ (n : IsIn j (take i numbers)). inr (subst (IsIn j) (sym (take_more numbers i 0 l)) (in_left j (take i numbers) (x ∷ []) n)))
          (h.only j k))
          (λ (q : j ≡ x). inr (subst (IsIn j) (sym (take_more numbers i 0 l)) (in_right j (take i numbers) (x ∷ []) (inl q))))
          (set_only mid x j (subst (λ row. IsTrue (value_at row j)) e m));
    }
  where
    only : (j : ℕ) → IsIn j (get_or numbers i 0 ∷ []) → j ≡ get_or numbers i 0
    only j (inl q) = q
    only j (inr k) = absurd k

pub mark_one : (line : Line) (j : ℕ) (old new : List Bool) → ((i : ℕ) → Names line i → i ≡ j) → Names line j → j < length old → new ≡ set old j true → MarksNames line old new
mark_one line j old new h own b e = record {
  long = ap length e ∙ length-set old j true;
  keeps = λ i m. subst (λ row. IsTrue (value_at row i)) (sym e) (is_set old j i b (inl m));
  marks = λ i m. subst (λ row. IsTrue (value_at row i)) (sym e) (is_set old j i b (inr (h i m)));
  only = λ i m. ⊎_elim
      (λ (o : IsTrue (value_at old i)). inl o)
      (λ (q : i ≡ j). inr (subst (Names line) (sym q) own))
      (set_only old j i (subst (λ row. IsTrue (value_at row i)) e m));
}

pub mark_nothing : (line : Line) (row : List Bool) → ((i : ℕ) → Names line i → ⊥) → MarksNames line row row
mark_nothing line row h = record { long = refl; keeps = λ i m. m; marks = λ i m. absurd (h i m); only = λ i m. inl m }

pub mark_parts : (js : List ℕ) (old new : List Bool) → MarksAll js old new → MarksNames (Line.And js) old new
mark_parts js old new h = record { long = h.long; keeps = h.keeps; marks = h.marks; only = h.only }

pub closed_start : (lines : List Line) (r : ℕ) (old new : List Bool) → length old ≡ length lines → MarksNames (line_at lines r) old new → IsClosedFrom lines r r new
closed_start lines r old new l m = record { long = m.long ∙ l; last = m.marks; each = λ j i a b. absurd (omega arith) }

equal_or_above : (j k : ℕ) → k ≤ j → (j ≡ k) ⊎ (k < j)
equal_or_above j k a = grind arith

pub closed_marked : (lines : List Line) (r k : ℕ) (old new : List Bool) → IsClosedFrom lines r (suc k) old → MarksNames (line_at lines k) old new → NameEarlier lines → k < r → r < length lines → IsClosedFrom lines r k new
closed_marked lines r k old new h m early b l = record {
  long = m.long ∙ h.long;
  last = λ i n. m.keeps i (h.last i n);
  each = λ j i a c t n. ⊎_elim
      (λ (q : j ≡ k). m.marks i (subst (λ z. Names (line_at lines z) i) q n))
      (λ (g : k < j). m.keeps i (h.each j i (omega arith) c (⊎_elim
      (λ (o : IsTrue (value_at old j)). o)
      (λ (x : Names (line_at lines k) j). let y = early k j (omega arith) x in absurd (omega arith))
      (m.only j t)) n))
      (equal_or_above j k a);
}

pub closed_skip : (lines : List Line) (r k : ℕ) (row : List Bool) → IsClosedFrom lines r (suc k) row → value_at row k ≡ false → IsClosedFrom lines r k row
closed_skip lines r k row h e = record {
  long = h.long;
  last = h.last;
  each = λ j i a c t n. ⊎_elim
      (λ (q : j ≡ k). absurd (clash (value_at row k) (ap (value_at row) (sym q) ∙ t) e))
      (λ (g : k < j). h.each j i (omega arith) c t n)
      (equal_or_above j k a);
}
  where
    clash : (b : Bool) → b ≡ true → b ≡ false → ⊥
    clash b p q = cc
