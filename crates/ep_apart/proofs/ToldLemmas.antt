-- Lines that tell worlds apart.
use Rattle.std.proofs.Common.{◌≡◌, ℕ, suc, ◌<◌, ◌≤◌, inl, inr, Bool, true, false, List, [], ◌∷◌, ◌++◌, length, get_or, map, refl, sym, ap, subst, ◌∙◌, arith, append_assoc, length-append, IsTrue, Option, Some, None}
use Rattle.ep_logic.specs.declared.ids.AgentId.{AgentId}
use Rattle.ep_logic.specs.declared.ids.AtomId.{AtomId}
use Rattle.ep_logic.specs.declared.formula.Node.{Node}
use Rattle.ep_logic.specs.declared.formula.Node.TheVariants.{True, Atom, Not, And, Knows}
use Rattle.ep_theory.specs.Rising.{IsIn}
use Rattle.ep_theory.specs.Kripke.{Kripke, IsState, atom_at, links_of}
use Rattle.ep_theory.specs.Kind.{kind}
use Rattle.ep_theory.specs.Truth.{Truth}
use Rattle.std.specs.List.{AllByRecursion}
use Rattle.ep_theory.proofs.CallerLemmas.{along, truth-And}
use Rattle.ep_apart.proofs.TheoryLemmas.{truth-Knows}
use Rattle.ep_apart.proofs.TruthLemmas.{truth-True, truth-Atom, truth-Not}
use Rattle.ep_apart.specs.declared.lines.Line.{Line}
use Rattle.ep_apart.specs.Lines.{formula_of, nesting}
use Rattle.ep_apart.specs.Tables.{Tells, IsCell, IsRow, IsTable, cell, IsConjunction, ArePartsOf, IsAnswered}
use Rattle.ep_apart.proofs.FormulaLemmas.{nesting-True, nesting-Atom, nesting-Not, nesting-And, nesting-Knows, largest-map, formula-kept}
use Rattle.ep_apart.proofs.Rounds.{alike_next}

pub length_grown : (old new : List Line) (ls : List Line) → new ≡ old ++ ls → length old ≤ length new
length_grown old new ls e = let a = ap length e in let b = length-append old ls in omega arith

pub kept_formula : (old new : List Line) → (ls : List Line) × (new ≡ old ++ ls) → (j : ℕ) → j < length old → formula_of new j ≡ formula_of old j
kept_formula old new m j h = ap (λ ls. formula_of ls j) m.1 ∙ formula-kept old m.0 j h

-- lines that are added keep what was told
pub tells_on : (Q : Kripke) (k : ℕ) (old new : List Line) (j c : ℕ) (N : ℕ → Type 0) → (ls : List Line) × (new ≡ old ++ ls) → Tells Q k old j c N → Tells Q k new j c N
tells_on Q k old new j c N m t =
    let e = kept_formula old new m j t.within in
    let l = length_grown old new m.0 m.1 in
    let w = t.within in
    record {
      within = omega arith;
      here = subst (Truth Q c) (sym e) t.here;
      nowhere = λ d i h. t.nowhere d i (subst (Truth Q d) e h);
      shallow = let s = t.shallow in let q = ap nesting e in omega arith;
    }

-- the same at a later level, and at fewer worlds
pub tells_later : (Q : Kripke) (k m : ℕ) (lines : List Line) (j c : ℕ) (N : ℕ → Type 0) → k ≤ m → Tells Q k lines j c N → Tells Q m lines j c N
tells_later Q k m lines j c N l t = record { within = t.within; here = t.here; nowhere = t.nowhere; shallow = let s = t.shallow in omega arith }

pub tells_fewer : (Q : Kripke) (k : ℕ) (lines : List Line) (j c : ℕ) (N M : ℕ → Type 0) → ((d : ℕ) → M d → N d) → Tells Q k lines j c N → Tells Q k lines j c M
tells_fewer Q k lines j c N M f t = record { within = t.within; here = t.here; nowhere = λ d i. t.nowhere d (f d i); shallow = t.shallow }

-- a formula by its equation
pub tells_by : (Q : Kripke) (k : ℕ) (lines : List Line) (j c : ℕ) (N : ℕ → Type 0) (f : Node) → formula_of lines j ≡ f → j < length lines →
    Truth Q c f → ((d : ℕ) → N d → Truth Q d f → ⊥) → nesting f ≤ k → Tells Q k lines j c N
tells_by Q k lines j c N f e w t g s = record {
  within = w;
  here = subst (Truth Q c) (sym e) t;
  nowhere = λ d i h. g d i (subst (Truth Q d) e h);
  shallow = let q = ap nesting e in omega arith;
}

-- an atom that is true at c and false at d
pub tells-Atom : (Q : Kripke) (k : ℕ) (lines : List Line) (j c d : ℕ) (p : AtomId) → formula_of lines j ≡ Atom p → j < length lines →
    atom_at Q c p.n ≡ true → atom_at Q d p.n ≡ false → Tells Q k lines j c (λ y. y ≡ d)
tells-Atom Q k lines j c d p e w t f = tells_by Q k lines j c (λ y. y ≡ d) (Atom p) e w
    (along (sym (truth-Atom Q c p)) t)
    (λ y q h. clash (atom_at Q d p.n) (subst (λ z. IsTrue (atom_at Q z p.n)) q (along (truth-Atom Q y p) h)) f)
    (let z = nesting-Atom p in omega arith)
  where
    clash : (b : Bool) → b ≡ true → b ≡ false → ⊥
    clash b g h = cc

-- the negation of one that is false at c and true at d
pub tells-Not_Atom : (Q : Kripke) (k : ℕ) (lines : List Line) (j c d : ℕ) (p : AtomId) → formula_of lines j ≡ Not (Atom p) → j < length lines →
    atom_at Q c p.n ≡ false → atom_at Q d p.n ≡ true → Tells Q k lines j c (λ y. y ≡ d)
tells-Not_Atom Q k lines j c d p e w f t = tells_by Q k lines j c (λ y. y ≡ d) (Not (Atom p)) e w
    (along (sym (truth-Not Q c (Atom p))) (λ h. clash (atom_at Q c p.n) (along (truth-Atom Q c p) h) f))
    (λ y q h. along (truth-Not Q y (Atom p)) h (along (sym (truth-Atom Q y p)) (subst (λ z. IsTrue (atom_at Q z p.n)) (sym q) t)))
    (let y = nesting-Not (Atom p) in let z = nesting-Atom p in omega arith)
  where
    clash : (b : Bool) → b ≡ true → b ≡ false → ⊥
    clash b g h = cc

-- c is linked to x, where line j holds, and d to worlds where it does not
pub tells_possible : (Q : Kripke) (k : ℕ) (old new : List Line) (j r c d x : ℕ) (a : AgentId) → IsIn (c, x) (links_of Q a.n) →
    Tells Q k old j x (λ y. IsIn (d, y) (links_of Q a.n)) → formula_of new r ≡ Not (Knows a (Not (formula_of old j))) → r < length new → Tells Q (suc k) new r c (λ y. y ≡ d)
tells_possible Q k old new j r c d x a i t e w =
    let f = formula_of old j in
    tells_by Q (suc k) new r c (λ y. y ≡ d) (Not (Knows a (Not f))) e w
    (along (sym (truth-Not Q c (Knows a (Not f)))) (λ h. along (truth-Not Q x f) (along (truth-Knows Q c a (Not f)) h x i) t.here))
    (λ y q h. along (truth-Not Q y (Knows a (Not f))) h
    (along (sym (truth-Knows Q y a (Not f))) (λ v l. along (sym (truth-Not Q v f)) (t.nowhere v (subst (λ z. IsIn (z, v) (links_of Q a.n)) q l)))))
    (let s = t.shallow in let n = nesting-Not (Knows a (Not f)) in let m = nesting-Knows a (Not f) in let o = nesting-Not f in omega arith)

-- d is linked to x, where line j holds, and c to worlds where it does not
pub tells_known : (Q : Kripke) (k : ℕ) (old new : List Line) (j r c d x : ℕ) (a : AgentId) → IsIn (d, x) (links_of Q a.n) →
    Tells Q k old j x (λ y. IsIn (c, y) (links_of Q a.n)) → formula_of new r ≡ Knows a (Not (formula_of old j)) → r < length new → Tells Q (suc k) new r c (λ y. y ≡ d)
tells_known Q k old new j r c d x a i t e w =
    let f = formula_of old j in
    tells_by Q (suc k) new r c (λ y. y ≡ d) (Knows a (Not f)) e w
    (along (sym (truth-Knows Q c a (Not f))) (λ v l. along (sym (truth-Not Q v f)) (t.nowhere v l)))
    (λ y q h. along (truth-Not Q x f) (along (truth-Knows Q y a (Not f)) h x (subst (λ z. IsIn (z, x) (links_of Q a.n)) (sym q) i)) t.here)
    (let s = t.shallow in let m = nesting-Knows a (Not f) in let o = nesting-Not f in omega arith)

-- conjunctions
pub each_part : (P : Node → Type 0) (f : ℕ → Node) (js : List ℕ) → AllByRecursion P (map f js) → (j : ℕ) → IsIn j js → P (f j)
each_part P f [] h j i = absurd i
each_part P f (x ∷ xs) h j (inl q) = subst (λ z. P (f z)) (sym q) h.0
each_part P f (x ∷ xs) h j (inr i) = each_part P f xs h.1 j i

pub all_parts : (P : Node → Type 0) (f : ℕ → Node) (js : List ℕ) → ((j : ℕ) → IsIn j js → P (f j)) → AllByRecursion P (map f js)
all_parts P f [] h = tt
all_parts P f (x ∷ xs) h = (h x (inl refl), all_parts P f xs (λ j i. h j (inr i)))

pub conjunction-And : (old new : List Line) (js : List ℕ) (r : ℕ) → formula_of new r ≡ And (map (formula_of old) js) → r < length new → IsConjunction old new js r
conjunction-And old new js r e w = record {
  within = w;
  whole = λ Q c h. subst (Truth Q c) (sym e) (along (sym (truth-And Q c (map (formula_of old) js))) (all_parts (Truth Q c) (formula_of old) js h));
  part = λ Q c j i h. each_part (Truth Q c) (formula_of old) js (along (truth-And Q c (map (formula_of old) js)) (subst (Truth Q c) e h)) j i;
  shallow = λ k h. let q = ap nesting e in let n = nesting-And (map (formula_of old) js) in let l = largest-map (formula_of old) k js h in omega arith;
}

pub conjunction-none : (old new : List Line) (r : ℕ) → formula_of new r ≡ True → r < length new → IsConjunction old new [] r
conjunction-none old new r e w = record {
  within = w;
  whole = λ Q c h. subst (Truth Q c) (sym e) (along (sym (truth-True Q c)) tt);
  part = λ Q c j i h. absurd i;
  shallow = λ k h. let q = ap nesting e in let n = nesting-True in omega arith;
}

pub conjunction-one : (lines : List Line) (j : ℕ) → j < length lines → IsConjunction lines lines (j ∷ []) j
conjunction-one lines j w = record {
  within = w;
  whole = λ Q c h. h j (inl refl);
  part = λ Q c i m h. only Q c i m h;
  shallow = λ k h. h j (inl refl);
}
  where
    only : (Q : Kripke) (c i : ℕ) → IsIn i (j ∷ []) → Truth Q c (formula_of lines j) → Truth Q c (formula_of lines i)
    only Q c i (inl q) h = subst (λ z. Truth Q c (formula_of lines z)) (sym q) h
    only Q c i (inr m) h = absurd m

-- the cells of a row at the worlds of a list
part_at : (g : ℕ → Option ℕ) (ys js : List ℕ) → map g ys ≡ map Some js → (y : ℕ) → IsIn y ys → (j : ℕ) × IsIn j js × (g y ≡ Some j)
part_at g [] js e y i = absurd i
part_at g (z ∷ ys) [] e y i = cc
part_at g (z ∷ ys) (j ∷ js) e y (inl q) = let f : g z ≡ Some j = cc in (j, inl refl, ap g q ∙ f)
part_at g (z ∷ ys) (j ∷ js) e y (inr i) =
    let f : map g ys ≡ map Some js = cc in
    let r = part_at g ys js f y i in
    (r.0, inr r.1, r.2)

world_of : (g : ℕ → Option ℕ) (ys js : List ℕ) → map g ys ≡ map Some js → (j : ℕ) → IsIn j js → (y : ℕ) × IsIn y ys × (g y ≡ Some j)
world_of g [] [] e j i = absurd i
world_of g [] (k ∷ js) e j i = cc
world_of g (z ∷ ys) [] e j i = absurd i
world_of g (z ∷ ys) (k ∷ js) e j (inl q) = let f : g z ≡ Some k = cc in (z, inl refl, f ∙ ap Some (sym q))
world_of g (z ∷ ys) (k ∷ js) e j (inr i) =
    let f : map g ys ≡ map Some js = cc in
    let r = world_of g ys js f j i in
    (r.0, inr r.1, r.2)

-- a conjunction of the lines that tell x from each world of a list tells it from all of them
pub tells_all : (Q : Kripke) (k : ℕ) (old new : List Line) (x r : ℕ) (row : List (Option ℕ)) (ys js : List ℕ) → ((y : ℕ) → IsIn y ys → IsCell Q k old x y (get_or row y None)) →
    ArePartsOf row ys (Some js) → IsConjunction old new js r → Tells Q k new r x (λ y. IsIn y ys)
tells_all Q k old new x r row ys js f p a = record {
  within = a.within;
  here = a.whole Q x (λ j i. let t = at_part j i in t.here);
  nowhere = λ d i h.
      let j = part_at (λ y. get_or row y None) ys js p d i in
      let t : Tells Q k old j.0 x (λ y. y ≡ d) = subst (IsCell Q k old x d) j.2 (f d i) in
      t.nowhere d refl (a.part Q d j.0 j.1 h);
  shallow = a.shallow k (λ j i. let t = at_part j i in t.shallow);
}
  where
    at_part : (j : ℕ) (i : IsIn j js) → Tells Q k old j x (λ y. y ≡ (world_of (λ y. get_or row y None) ys js p j i).0)
    at_part j i =
        let y = world_of (λ y. get_or row y None) ys js p j i in
        subst (IsCell Q k old x y.0) y.2 (f y.0 y.1)

pub parts_within : (Q : Kripke) (k : ℕ) (lines : List Line) (x : ℕ) (row : List (Option ℕ)) (ys js : List ℕ) → ((y : ℕ) → IsIn y ys → IsCell Q k lines x y (get_or row y None)) →
    ArePartsOf row ys (Some js) → (j : ℕ) → IsIn j js → j < length lines
parts_within Q k lines x row ys js f p j i =
    let y = world_of (λ y. get_or row y None) ys js p j i in
    let t : Tells Q k lines j x (λ z. z ≡ y.0) = subst (IsCell Q k lines x y.0) y.2 (f y.0 y.1) in
    t.within

-- cells, rows and tables stay when lines are added
pub cell_on : (Q : Kripke) (k : ℕ) (old new : List Line) (c d : ℕ) (o : Option ℕ) → (ls : List Line) × (new ≡ old ++ ls) → IsCell Q k old c d o → IsCell Q k new c d o
cell_on Q k old new c d None m h = h
cell_on Q k old new c d (Some j) m h = tells_on Q k old new j c (λ y. y ≡ d) m h

pub row_on : (Q : Kripke) (k : ℕ) (old new : List Line) (c : ℕ) (row : List (Option ℕ)) → (ls : List Line) × (new ≡ old ++ ls) → IsRow Q k old c row → IsRow Q k new c row
row_on Q k old new c row m h = record { long = h.long; cells = λ d b. cell_on Q k old new c d (get_or row d None) m (h.cells d b) }

pub table_on : (Q : Kripke) (k : ℕ) (old new : List Line) (table : List (List (Option ℕ))) → (ls : List Line) × (new ≡ old ++ ls) → IsTable Q k old table → IsTable Q k new table
table_on Q k old new table m h = record { long = h.long; rows = λ c b. row_on Q k old new c (get_or table c []) m (h.rows c b) }

pub more_refl : (ls : List Line) → (more : List Line) × (ls ≡ ls ++ more)
more_refl ls = ([], sym (append_nil ls))
  where
    append_nil : (xs : List Line) → xs ++ [] ≡ xs
    append_nil [] = refl
    append_nil (x ∷ xs) = ap (λ l. x ∷ l) (append_nil xs)

pub more_trans : (a b c : List Line) → (ls : List Line) × (b ≡ a ++ ls) → (ls : List Line) × (c ≡ b ++ ls) → (ls : List Line) × (c ≡ a ++ ls)
more_trans a b c f g = (f.0 ++ g.0, g.1 ∙ ap (λ l. l ++ g.0) f.1 ∙ append_assoc a f.0 g.0)

-- no line in the cell, and links that are answered by worlds with none
pub cell_next : (Q : Kripke) → IsState Q → (k : ℕ) (lines : List Line) (table : List (List (Option ℕ))) (c d : ℕ) → IsTable Q k lines table → c < Q.worlds → d < Q.worlds → cell table c d ≡ None →
    ((a : ℕ) → IsAnswered Q table a c d) → ((a : ℕ) → IsAnswered Q table a d c) →
    ((a x y : ℕ) → IsIn (x, y) (links_of Q a) → (x < Q.worlds) × (y < Q.worlds)) → kind Q (suc k) c ≡ kind Q (suc k) d
cell_next Q q k lines table c d t b e n f g within =
    alike_next Q q k c d (same c d b e n)
    (λ a x i. let y = f a x i in (y.0, y.1, same x y.0 (within a c x i).1 (within a d y.0 y.1).1 y.2))
    (λ a y i. let x = g a y i in (x.0, x.1, same y x.0 (within a d y i).1 (within a c x.0 x.1).1 x.2))
  where
    same : (x y : ℕ) → x < Q.worlds → y < Q.worlds → cell table x y ≡ None → kind Q k x ≡ kind Q k y
    same x y a b o = subst (IsCell Q k lines x y) o ((t.rows x a).cells y b)
