-- Lines that say what others say.
use Rattle.std.proofs.Common.{◌≡◌, ℕ, ◌<◌, ◌≤◌, ◌+◌, inl, inr, ⊎_elim, Bool, true, false, List, [], ◌∷◌, ◌++◌, length, map, take, slice_index, refl, sym, ap, ap₂, subst, ◌∙◌, arith, IsTrue, length-append}
use Rattle.std.specs.Ordering.{nat_cmp}
use Rattle.ep_logic.specs.Nodes.{largest}
use Rattle.ep_logic.specs.declared.formula.Node.{Node}
use Rattle.ep_logic.specs.declared.formula.Node.TheVariants.{Not, And, Knows}
use Rattle.ep_logic.specs.declared.ids.AgentId.{AgentId}
use Rattle.ep_theory.specs.Rising.{IsIn, rising}
use Rattle.ep_theory.specs.Kripke.{Kripke, IsState}
use Rattle.ep_theory.specs.Tested.{is_true}
use Rattle.ep_theory.specs.Truth.{Truth}
use Rattle.ep_theory.proofs.CallerLemmas.{along, truth-And, is_true_decides, last_or_before, links_within, IsIn-map, IsIn-rising, from_map, from_rising, All-from_each, numbers}
use Rattle.ep_apart.specs.declared.lines.Line.{Line}
use Rattle.ep_apart.specs.Lines.{formula_at, formula_with, formulas_from, formula_of, AreLines, last_line, nesting}
use Rattle.ep_apart.specs.Pruning.{line_at, Names, renumber, NameEarlier}
use Rattle.ep_apart.specs.Simplifying.{Replaces, IsShare, SharedSoFar, IsShared, IsSimpler}
use Rattle.ep_apart.specs.Tables.{IsAdded, IsCut, IsToldFrom, Tells}
use Rattle.ep_apart.proofs.FormulaLemmas.{formula-added, lines-added, nesting-Not, nesting-And, nesting-Knows, largest-map}
use Rattle.ep_apart.proofs.GrowLemmas.{added_within, added_long}
use Rattle.ep_apart.proofs.PruneLemmas.{formula_here, formula_before, line_renumbered, line_at_place}
use Rattle.ep_apart.proofs.TableLemmas.{get_left, get_end}
use Rattle.ep_apart.proofs.TheoryLemmas.{truth-Knows}
use Rattle.ep_apart.proofs.ToldLemmas.{each_part, all_parts, more_refl, kept_formula, length_grown}
use Rattle.ep_apart.proofs.TruthLemmas.{truth-Not}

pub replaces_same : (f g : Node) → f ≡ g → Replaces f g
replaces_same f g e = record {
  same = λ Q q w l. (λ t. subst (Truth Q w) e t, λ t. subst (Truth Q w) (sym e) t);
  shallow = (let n = ap nesting e in omega arith);
}

pub replaces_trans : (f g h : Node) → Replaces f g → Replaces g h → Replaces f h
replaces_trans f g h a b = record {
  same = λ Q q w l. (λ t. (b.same Q q w l).0 ((a.same Q q w l).0 t), λ t. (a.same Q q w l).1 ((b.same Q q w l).1 t));
  shallow = (let m = a.shallow in let n = b.shallow in omega arith);
}

replaces-Not : (f g : Node) → Replaces f g → Replaces (Not f) (Not g)
replaces-Not f g a = record {
  same = λ Q q w l. (
    λ t. along (sym (truth-Not Q w g)) (λ h. along (truth-Not Q w f) t ((a.same Q q w l).1 h)),
    λ t. along (sym (truth-Not Q w f)) (λ h. along (truth-Not Q w g) t ((a.same Q q w l).0 h)),
  );
  shallow = (let s = a.shallow in let m = nesting-Not f in let n = nesting-Not g in omega arith);
}

replaces-Knows : (agent : AgentId) (f g : Node) → Replaces f g → Replaces (Knows agent f) (Knows agent g)
replaces-Knows agent f g a = record {
  same = λ Q q w l. (
    λ t. along (sym (truth-Knows Q w agent g)) (λ v i. (a.same Q q v (links_within Q q agent.n w v i).1).0 (along (truth-Knows Q w agent f) t v i)),
    λ t. along (sym (truth-Knows Q w agent f)) (λ v i. (a.same Q q v (links_within Q q agent.n w v i).1).1 (along (truth-Knows Q w agent g) t v i)),
  );
  shallow = (let s = a.shallow in let m = nesting-Knows agent f in let n = nesting-Knows agent g in omega arith);
}

-- a negation that is negated
pub replaces_double : (f : Node) → Replaces (Not (Not f)) f
replaces_double f = record {
  same = λ Q q w l. (
    λ t. let d = is_true_decides Q q w l f in
        d.0 (not_false (is_true Q w f) (λ e. along (truth-Not Q w (Not f)) t (along (sym (truth-Not Q w f)) (λ h. clash (is_true Q w f) (d.1 h) e)))),
    λ t. along (sym (truth-Not Q w (Not f))) (λ h. along (truth-Not Q w f) h t),
  );
  shallow = (let m = nesting-Not (Not f) in let n = nesting-Not f in omega arith);
}
  where
    not_false : (b : Bool) → (b ≡ false → ⊥) → IsTrue b
    not_false true h = refl
    not_false false h = absurd (h refl)

    clash : (b : Bool) → IsTrue b → b ≡ false → ⊥
    clash b p e = cc

-- conjunctions of the same parts
largest_in : (f : ℕ → Node) (xs : List ℕ) (x : ℕ) → IsIn x xs → nesting (f x) ≤ largest (map nesting (map f xs))
largest_in f [] x i = absurd i
largest_in f (y ∷ ys) x (inl e) = let n = ap (λ z. nesting (f z)) e in omega arith
largest_in f (y ∷ ys) x (inr i) = let r = largest_in f ys x i in omega arith

pub replaces-And : (f g : ℕ → Node) (xs ys : List ℕ) → ((x : ℕ) → IsIn x xs → (y : ℕ) × IsIn y ys × Replaces (f x) (g y)) → ((y : ℕ) → IsIn y ys → (x : ℕ) × IsIn x xs × Replaces (f x) (g y)) →
    Replaces (And (map f xs)) (And (map g ys))
replaces-And f g xs ys there back = record {
  same = λ Q q w l. (
    λ t. along (sym (truth-And Q w (map g ys))) (all_parts (Truth Q w) g ys (λ y i.
        let x = back y i in (x.2.same Q q w l).0 (each_part (Truth Q w) f xs (along (truth-And Q w (map f xs)) t) x.0 x.1))),
    λ t. along (sym (truth-And Q w (map f xs))) (all_parts (Truth Q w) f xs (λ x i.
        let y = there x i in (y.2.same Q q w l).1 (each_part (Truth Q w) g ys (along (truth-And Q w (map g ys)) t) y.0 y.1))),
  );
  shallow =
      let m = nesting-And (map f xs) in
      let n = nesting-And (map g ys) in
      let k = largest-map g (largest (map nesting (map f xs))) ys (λ y i. let x = back y i in let s = x.2.shallow in let h = largest_in f xs x.0 x.1 in omega arith) in
      omega arith;
}

pub replaces_one : (f : ℕ → Node) (xs : List ℕ) (y : ℕ) → ((x : ℕ) → IsIn x xs → x ≡ y) → IsIn y xs → Replaces (And (map f xs)) (f y)
replaces_one f xs y h i = record {
  same = λ Q q w l. (
    λ t. each_part (Truth Q w) f xs (along (truth-And Q w (map f xs)) t) y i,
    λ t. along (sym (truth-And Q w (map f xs))) (all_parts (Truth Q w) f xs (λ x m. subst (λ z. Truth Q w (f z)) (sym (h x m)) t)),
  );
  shallow = (let m = nesting-And (map f xs) in let n = largest_in f xs y i in omega arith);
}

-- a line under new numbers says the same where its numbers do
pub line_replaced : (fs gs : List Node) (f : ℕ → ℕ) (l : Line) → ((i : ℕ) → Names l i → Replaces (formula_at fs i) (formula_at gs (f i))) → Replaces (formula_with fs l) (formula_with gs (renumber f l))
line_replaced fs gs f Line.True h = replaces_same _ _ refl
line_replaced fs gs f (Line.Atom p) h = replaces_same _ _ refl
line_replaced fs gs f (Line.Not j) h = replaces-Not _ _ (h j refl)
line_replaced fs gs f (Line.And js) h = replaces-And (formula_at fs) (formula_at gs) js (map f js)
    (λ x i. (f x, IsIn-map f x js i, h x i))
    (λ y i. let m = from_map f y js i in (m.0, m.1, subst (λ z. Replaces (formula_at fs m.0) (formula_at gs z)) (sym m.2) (h m.0 m.1)))
line_replaced fs gs f (Line.Knows a j) h = replaces-Knows a _ _ (h j refl)

-- a line says the same behind more formulas
line_same : (fs gs : List Node) (l : Line) → ((i : ℕ) → Names l i → formula_at fs i ≡ formula_at gs i) → formula_with fs l ≡ formula_with gs l
line_same fs gs Line.True h = refl
line_same fs gs (Line.Atom p) h = refl
line_same fs gs (Line.Not j) h = ap Not (h j refl)
line_same fs gs (Line.And js) h = ap And (parts js h)
  where
    parts : (js : List ℕ) → ((i : ℕ) → IsIn i js → formula_at fs i ≡ formula_at gs i) → map (formula_at fs) js ≡ map (formula_at gs) js
    parts [] h = refl
    parts (j ∷ js) h = ap₂ (λ a b. a ∷ b) (h j (inl refl)) (parts js (λ i m. h i (inr m)))
line_same fs gs (Line.Knows a j) h = ap (Knows a) (h j refl)

-- the formula of a line by those of all
pub formula_again : (ls : List Line) (k : ℕ) → k < length ls → NameEarlier ls → formula_of ls k ≡ formula_with (formulas_from [] ls) (line_at ls k)
unfolding formula_of
formula_again ls k l early = formula_here ls k l
    ∙ line_same (formulas_from [] (take k ls)) (formulas_from [] ls) (line_at ls k) (λ i m. formula_before ls k i l (early k i l m))

earlier_added : (old : List Line) (l : Line) → NameEarlier old → ((i : ℕ) → Names l i → i < length old) → NameEarlier (old ++ l ∷ [])
earlier_added old l early names k i b m = ⊎_elim
    (λ (q : k ≡ length old). let n = names i (subst (λ x. Names x i) (get_end Line.True old l k q) m) in omega arith)
    (λ (d : k < length old). early k i d (subst (λ x. Names x i) (get_left Line.True old (l ∷ []) k d) m))
    (last_or_before k (length old) (let a = length-append old (l ∷ []) in omega arith))

-- the line was put
pub share_added : (old : List Line) (l : Line) (new : List Line) (n : ℕ) → NameEarlier old → ((i : ℕ) → Names l i → i < length old) → IsAdded old l new n → IsShare old l new n
share_added old l new n early names a = record {
  within = added_within old l new n a;
  says = replaces_same _ _ (sym (ap (λ ls. formula_of ls n) a.lines ∙ formula-added old l n a.number));
  more = (l ∷ [], a.lines);
  few = (let e = added_long old l new n a in omega arith);
  earlier = subst NameEarlier (sym a.lines) (earlier_added old l early names);
  proper = λ agents atoms h i. subst (AreLines agents atoms 0) (sym a.lines) (lines-added agents atoms (length old) old l refl h i);
}

-- the line is there
pub share_found : (old : List Line) (l : Line) (n : ℕ) → NameEarlier old → n < length old → line_at old n ≡ l → IsShare old l old n
share_found old l n early b e = record {
  within = b;
  says = replaces_same _ _ (ap (formula_with (formulas_from [] old)) (sym e) ∙ sym (formula_again old n b early));
  more = more_refl old;
  few = (omega arith);
  earlier = early;
  proper = λ agents atoms h i. h;
}

-- the line negates a negation
pub share_double : (old : List Line) (i j : ℕ) → NameEarlier old → i < length old → line_at old i ≡ Line.Not j → IsShare old (Line.Not i) old j
unfolding formula_of
share_double old i j early b e =
    let d : j < i = early i j b (subst (λ l. Names l j) (sym e) refl) in
    let f : formula_of old i ≡ Not (formula_of old j) = formula_again old i b early ∙ ap (formula_with (formulas_from [] old)) e in
    record {
      within = (omega arith);
      says = replaces_trans _ _ _ (replaces_same (Not (formula_of old i)) (Not (Not (formula_of old j))) (ap Not f)) (replaces_double (formula_of old j));
      more = more_refl old;
      few = (omega arith);
      earlier = early;
      proper = λ agents atoms h m. h;
    }

-- conjunctions of distinct parts
abbrev distinct : List ℕ → List ℕ
distinct xs = rising nat_cmp xs

to_distinct : (x : ℕ) (xs : List ℕ) → IsIn x xs → IsIn x (distinct xs)
to_distinct x xs i = IsIn-rising nat_cmp numbers x xs i

from_distinct : (x : ℕ) (xs : List ℕ) → IsIn x (distinct xs) → IsIn x xs
from_distinct x xs i = from_rising nat_cmp numbers x xs i

pub distinct_names : (xs ys : List ℕ) (n : ℕ) → ys ≡ distinct xs → ((i : ℕ) → Names (Line.And xs) i → i < n) → (i : ℕ) → Names (Line.And ys) i → i < n
distinct_names xs ys n e h i m = h i (from_distinct i xs (subst (IsIn i) e m))

pub share_one : (old : List Line) (xs ys : List ℕ) (y : ℕ) → NameEarlier old → ((i : ℕ) → Names (Line.And xs) i → i < length old) → ys ≡ distinct xs → ys ≡ y ∷ [] → IsShare old (Line.And xs) old y
unfolding formula_of
share_one old xs ys y early names e q =
    let i : IsIn y xs = from_distinct y xs (subst (IsIn y) (sym q ∙ e) (inl refl)) in
    record {
      within = names y i;
      says = replaces_one (formula_of old) xs y (λ x m. only x (subst (IsIn x) (sym e ∙ q) (to_distinct x xs m))) i;
      more = more_refl old;
      few = (omega arith);
      earlier = early;
      proper = λ agents atoms h m. h;
    }
  where
    only : (x : ℕ) → IsIn x (y ∷ []) → x ≡ y
    only x (inl p) = p
    only x (inr m) = absurd m

pub share_many : (old : List Line) (xs ys : List ℕ) (new : List Line) (n : ℕ) → ((i : ℕ) → Names (Line.And xs) i → i < length old) → ys ≡ distinct xs → (length ys ≡ 1 → ⊥) → IsShare old (Line.And ys) new n → IsShare old (Line.And xs) new n
share_many old xs ys new n names e long s = record {
  within = s.within;
  says = replaces_trans _ _ _ (replaces-And (formula_at (formulas_from [] old)) (formula_at (formulas_from [] old)) xs ys
      (λ x i. (x, subst (IsIn x) (sym e) (to_distinct x xs i), replaces_same _ _ refl))
      (λ y i. (y, from_distinct y xs (subst (IsIn y) e i), replaces_same _ _ refl))) s.says;
  more = s.more;
  few = s.few;
  earlier = s.earlier;
  proper = λ agents atoms h i. s.proper agents atoms h (
    two xs ys i.0 (λ x m. subst (IsIn x) (sym e) (to_distinct x xs m)) long,
    All-from_each (λ k. k < length old) ys (λ k m. names k (from_distinct k xs (subst (IsIn k) e m))),
  );
}
  where
    two : (xs ys : List ℕ) → 2 ≤ length xs → ((x : ℕ) → IsIn x xs → IsIn x ys) → (length ys ≡ 1 → ⊥) → 2 ≤ length ys
    two [] ys l h n = absurd (omega arith)
    two (x ∷ xs) [] l h n = absurd (h x (inl refl))
    two (x ∷ xs) (y ∷ []) l h n = absurd (n refl)
    two (x ∷ xs) (y ∷ z ∷ ys) l h n = omega arith

-- line by line
pub shared_start : (lines : List Line) (numbers : List ℕ) (shared : List Line) → numbers ≡ [] → shared ≡ [] → SharedSoFar lines numbers shared 0
shared_start lines numbers shared e f = record {
  long = ap length e;
  within = λ i l. absurd (omega arith);
  says = λ i l. absurd (omega arith);
  few = (let q = ap length f in omega arith);
  earlier = λ k i l m. absurd (let q = ap length f in omega arith);
  proper = λ agents atoms h. subst (AreLines agents atoms 0) (sym f) tt;
}

pub shared_names : (lines : List Line) (numbers : List ℕ) (shared : List Line) (k : ℕ) → SharedSoFar lines numbers shared k → NameEarlier lines → k < length lines → (i : ℕ) → Names (renumber (slice_index numbers) (line_at lines k)) i → i < length shared
shared_names lines numbers shared k h early l i m = go (line_at lines k) (λ j n. h.within j (early k j l n)) m
  where
    go : (x : Line) → ((j : ℕ) → Names x j → slice_index numbers j < length shared) → Names (renumber (slice_index numbers) x) i → i < length shared
    go Line.True g m = absurd m
    go (Line.Atom p) g m = absurd m
    go (Line.Not j) g m = let b = g j refl in omega arith
    go (Line.And js) g m = let r = from_map (slice_index numbers) i js m in let b = g r.0 r.1 in let e = r.2 in omega arith
    go (Line.Knows a j) g m = let b = g j refl in omega arith

pub shared_more : (lines : List Line) (numbers more : List ℕ) (old new : List Line) (k n : ℕ) → SharedSoFar lines numbers old k → NameEarlier lines → k < length lines →
    IsShare old (renumber (slice_index numbers) (line_at lines k)) new n → more ≡ numbers ++ n ∷ [] → SharedSoFar lines more new (k + 1)
unfolding formula_of
shared_more lines numbers more old new k n h early l s e =
    let long = h.long in
    let grown = length_grown old new s.more.0 s.more.1 in
    let before = λ (i : ℕ) (b : i < k). ap (λ ns. slice_index ns i) e ∙ get_left 0 numbers (n ∷ []) i (omega arith) in
    let last : slice_index more k ≡ n = ap (λ ns. slice_index ns k) e ∙ get_end 0 numbers n k (sym long) in
    record {
      long = (let a = ap length e in let b = length-append numbers (n ∷ []) in omega arith);
      within = λ i b. ⊎_elim
          (λ (q : i ≡ k). subst (λ z. z < length new) (sym (ap (slice_index more) q ∙ last)) s.within)
          (λ (d : i < k). let w = h.within i d in let m = before i d in omega arith)
          (last_or_before i k (omega arith));
      says = λ i b. ⊎_elim
          (λ (q : i ≡ k). subst (λ z. Replaces (formula_of lines z) (formula_of new (slice_index more z))) (sym q)
          (subst (λ z. Replaces (formula_of lines k) (formula_of new z)) (sym last)
          (replaces_trans _ _ _ (replaces_same _ _ (formula_again lines k l early))
          (replaces_trans _ _ _ (line_replaced (formulas_from [] lines) (formulas_from [] old) (slice_index numbers) (line_at lines k) (λ j m. h.says j (early k j l m))) s.says))))
          (λ (d : i < k). replaces_trans _ _ _ (h.says i d) (replaces_same _ _ (sym (kept_formula old new s.more (slice_index numbers i) (h.within i d)) ∙ ap (formula_of new) (sym (before i d)))))
          (last_or_before i k (omega arith));
      few = (let w = h.few in let f = s.few in omega arith);
      earlier = s.earlier;
      proper = λ agents atoms p. s.proper agents atoms (h.proper agents atoms p)
          (line_renumbered agents atoms k (length old) (slice_index numbers) (line_at lines k) (line_at_place agents atoms k lines p l) (λ j m. h.within j (early k j l m)));
    }

pub shared_last : (lines : List Line) (numbers : List ℕ) (shared : List Line) (k r : ℕ) → 0 < length lines → k ≡ length lines → SharedSoFar lines numbers shared k → r ≡ slice_index numbers (last_line lines) → IsShared lines shared r
shared_last lines numbers shared k r some e h q =
    let b : last_line lines < k = omega arith in
    record {
      within = (let w = h.within (last_line lines) b in omega arith);
      says = subst (λ z. Replaces (formula_of lines (last_line lines)) (formula_of shared z)) (sym q) (h.says (last_line lines) b);
      few = (let w = h.few in omega arith);
      earlier = h.earlier;
      proper = h.proper;
    }

pub simpler_cut : (lines shared new : List Line) (r : ℕ) → IsShared lines shared r → IsCut shared r new → IsSimpler lines new
simpler_cut lines shared new r h c = record {
  some_line = c.some_line;
  says = replaces_trans _ _ _ h.says (replaces_same _ _ (sym c.formula));
  proper = λ agents atoms p. c.proper agents atoms (h.proper agents atoms p);
  few = (let a = h.few in let b = c.few in omega arith);
}

-- what was told is told by the simpler lines
pub told_simpler : (Q : Kripke) → IsState Q → (c : ℕ) (others : List ℕ) (old new : List Line) → c < Q.worlds → ((y : ℕ) → IsIn y others → y < Q.worlds) → IsToldFrom Q c others old → IsSimpler old new → IsToldFrom Q c others new
told_simpler Q q c others old new b d h s = record {
  proper = s.proper Q.agents Q.atoms h.proper;
  few = (let a = h.few in let f = s.few in omega arith);
  level = (h.level.0, h.level.1, told h.level.0 h.level.2);
}
  where
    told : (m : ℕ) → Tells Q m old (last_line old) c (λ y. IsIn y others) → Tells Q m new (last_line new) c (λ y. IsIn y others)
    told m t = record {
      within = (let l = s.some_line in omega arith);
      here = (s.says.same Q q c b).0 t.here;
      nowhere = λ y i k. t.nowhere y i ((s.says.same Q q y (d y i)).1 k);
      shallow = (let a = t.shallow in let f = s.says.shallow in omega arith);
    }

pub only_one : (ys : List ℕ) → length ys ≡ 1 → ys ≡ slice_index ys 0 ∷ []
only_one [] l = absurd (omega arith)
only_one (y ∷ []) l = refl
only_one (y ∷ z ∷ ys) l = absurd (omega arith)
