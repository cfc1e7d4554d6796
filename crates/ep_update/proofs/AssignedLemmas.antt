-- Assignments one after another, all of which read the old world.
use Rattle.std.proofs.Common.{◌≡◌, ◌≢◌, ℕ, zero, suc, ◌+◌, ◌<◌, Bool, true, false, cond, ◌==◌, List, [], ◌∷◌, ◌++◌, length, get_or, set, take, Option, Some, None, refl, sym, ◌∙◌, ap, arith, inl, inr}
use Rattle.std.proofs.lemmas.Bool.{cases_eq, ne_eqb}
use Rattle.std.proofs.lemmas.Option.{none-some}
use Rattle.std.proofs.lemmas.List.{take_more, length-set, get_or-set_same, get_or-set_other}
use Rattle.std.proofs.Math.Seq.{set-append_seam}
use Rattle.std.specs.List.{find}
use Rattle.ep_logic.specs.declared.formula.Node.{Node}
use Rattle.ep_logic.specs.declared.formula.Node.TheVariants.{True}
use Rattle.ep_logic.specs.Numbers.{table}
use Rattle.ep_theory.specs.Kripke.{Kripke, IsState, truth_of}
use Rattle.ep_theory.specs.Events.{AreDistinct}
use Rattle.ep_theory.specs.Product.{atom_by}
use Rattle.ep_theory.specs.Tested.{is_true}
use Rattle.ep_theory.proofs.CallerLemmas.{All-at, test_itself}
use Rattle.ep_logic.proofs.CallerLemmas.{length-table, get_or-table, get_or-last, row_is_table}
use Rattle.ep_update.specs.Assigned.{atom_with}
use Rattle.ep_update.proofs.NumbersWhere.{table_is}

-- a table with one value changed
set-table : (f g : ℕ → Bool) (n q : ℕ) (v : Bool) → q < n → g q ≡ v → ((p : ℕ) → p ≢ q → g p ≡ f p) → set (table f n) q v ≡ table g n
set-table f g n q v l here other = table_is g n (set (table f n) q v) false (length-set (table f n) q v ∙ length-table f n) (λ i k. elim (cases_eq i q) [
  | inl e ↦ ap (λ j. get_or (set (table f n) q v) j false) e ∙ get_or-set_same (table f n) q v false (omega (arith, length-table f n)) ∙ sym here ∙ ap g (sym e)
  | inr d ↦ get_or-set_other (table f n) q i v false d ∙ get_or-table f n i false k ∙ sym (other i d)
])

-- the first element that passes, with one more at the end
find-other : {X : Type 0} (p : X → Bool) (xs : List X) (y : X) → p y ≡ false → find p (xs ++ y ∷ []) ≡ find p xs
find-other p [] y h = rw h refl
find-other p (x ∷ xs) y h = ap (λ o. cond (p x) (Some x) o) (find-other p xs y h)

some-none : {X : Type 0} (x : X) → Some x ≡ None → ⊥
some-none x s = absurd (none-some x (sym s))

here_step : {X : Type 0} (b : Bool) (x y : X) (o r : Option X) → cond b (Some x) o ≡ None → (o ≡ None → r ≡ Some y) → cond b (Some x) r ≡ Some y
here_step true x y o r n f = absurd (some-none x n)
here_step false x y o r n f = f n

find-here : {X : Type 0} (p : X → Bool) (xs : List X) (y : X) → find p xs ≡ None → p y ≡ true → find p (xs ++ y ∷ []) ≡ Some y
find-here p [] y n h = rw h refl
find-here p (x ∷ xs) y n h = here_step (p x) x y (find p xs) (find p (xs ++ y ∷ [])) n (λ m. find-here p xs y m h)

-- an assignment past the last
abbrev pub no_set : ℕ × Node
no_set = (0, True)

-- no earlier assignment names the atom
absent : (sets : List (ℕ × Node)) (i : ℕ) → AreDistinct sets → i < length sets → find (λ (x : ℕ × Node). x.0 == (get_or sets i no_set).0) (take i sets) ≡ None
absent [] i d l = absurd (omega arith)
absent (x ∷ sets) zero d l = refl
absent (x ∷ sets) (suc i) d l =
    let k : i < length sets = omega arith in
    rw (ne_eqb x.0 (get_or sets i no_set).0 (All-at (λ (y : ℕ × Node). x.0 ≢ y.0) sets i no_set k d.0)) (absent sets i d.1 k)

-- no assignment yet
pub first_effect : (S : Kripke) (w : ℕ) (row : List Bool) → IsState S → w < S.worlds → row ≡ truth_of S w → row ≡ table (atom_with S w []) S.atoms
first_effect S w row s l e = e ∙ row_is_table (atom_with S w []) S.atoms (truth_of S w)
    (All-at (λ (t : List Bool). length t ≡ S.atoms) S.truth w [] (omega (arith, l, s.truths)) s.each_truth) (λ i l. refl)

-- a value that is changed in the last row
pub set_last : (xs : List (List Bool)) (t : List Bool) (rows : List (List Bool)) (n i : ℕ) (v : Bool) → rows ≡ xs ++ t ∷ [] → n ≡ length xs → set rows n (set (get_or rows n []) i v) ≡ xs ++ set t i v ∷ []
set_last xs t rows n i v e m = rw (e, m) (ap (λ r. set (xs ++ t ∷ []) (length xs) (set r i v)) (get_or-last xs t []) ∙ set-append_seam xs t [] (set t i v))

-- one assignment more
pub next_effect : (S : Kripke) (w : ℕ) (sets : List (ℕ × Node)) (i : ℕ) → AreDistinct sets → i < length sets → (get_or sets i no_set).0 < S.atoms →
    set (table (atom_with S w (take i sets)) S.atoms) (get_or sets i no_set).0 (is_true S w (get_or sets i no_set).1) ≡ table (atom_with S w (take (i + 1) sets)) S.atoms
next_effect S w sets i d l k =
    let at = get_or sets i no_set in
    let more : take (i + 1) sets ≡ take i sets ++ get_or sets i no_set ∷ [] = take_more sets i no_set l in
    set-table (atom_with S w (take i sets)) (atom_with S w (take (i + 1) sets)) S.atoms (get_or sets i no_set).0 (is_true S w (get_or sets i no_set).1) k
    (ap (λ xs. atom_with S w xs (get_or sets i no_set).0) more
    ∙ ap (atom_by S w (get_or sets i no_set).0) (find-here (λ (x : ℕ × Node). x.0 == (get_or sets i no_set).0) (take i sets) (get_or sets i no_set) (absent sets i d l) (test_itself (get_or sets i no_set).0)))
    (λ p e. ap (λ xs. atom_with S w xs p) more
    ∙ ap (atom_by S w p) (find-other (λ (x : ℕ × Node). x.0 == p) (take i sets) (get_or sets i no_set) (ne_eqb (get_or sets i no_set).0 p (λ q. e (sym q)))))
