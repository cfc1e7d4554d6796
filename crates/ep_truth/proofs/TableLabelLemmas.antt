-- The rows of numbered formulas, each from the rows of its parts.
use Rattle.std.proofs.Common.{◌≡◌, ℕ, ◌+◌, ◌<◌, Bool, true, false, ◌&&◌, ◌||◌, List, [], ◌∷◌, ◌++◌, map, length, get_or, take, drop, refl, ap, ap₂, ◌∙◌, sym, subst, IsTrue, arith, nat_lt}
use Rattle.std.specs.List.{AllByRecursion, list_all, list_any}
use Rattle.std.proofs.lemmas.Bool.Decides.{nat_tests}
use Rattle.std.proofs.lemmas.List.{take_more, map-append, length-map, length-take, get_or-map, get_or-take, get_or_default}
use Rattle.std.proofs.lemmas.List.Folds.{list_all-append, list_any-append}
use Rattle.ep_logic.specs.AgentSets.{is_nobody}
use Rattle.ep_logic.specs.Rows.{value_at, both, either}
use Rattle.ep_logic.specs.declared.ids.AgentId.{AgentId}
use Rattle.ep_logic.specs.declared.ids.AtomId.{AtomId}
use Rattle.ep_logic.specs.declared.formula.Node.{Node}
use Rattle.ep_logic.specs.declared.formula.Node.TheVariants.{True, Atom, And, Or, Knows, Common}
use Rattle.ep_logic.proofs.CallerLemmas.{both_at, both_long, either_at, either_long}
use Rattle.ep_theory.specs.Kripke.{Kripke}
use Rattle.ep_theory.specs.Tested.{is_true}
use Rattle.ep_theory.specs.Fits.{Fits, fits_in}
use Rattle.ep_theory.proofs.CallerLemmas.{and_parts, at_All, IsIn-at}
use Rattle.ep_truth.specs.Labels.{HasValues, IsLabel, formula_test, all_test, any_test}
use Rattle.ep_truth.specs.FormulaTables.{tree_at, truth_row, all_rows_test, any_rows_test}
use Rattle.ep_truth.proofs.FitLemmas.{fits_in-Atom, fits_in-Knows, fits_in-Common}
use Rattle.ep_truth.proofs.LabelLemmas.{HasValues-along, table_values, label_is_table, label-And, label-Or}

pub atom_fits : (S : Kripke) (p : AtomId) → Fits S (Atom p) → p.n < S.atoms
atom_fits S p h = let e : nat_lt p.n S.atoms ≡ true = sym (fits_in-Atom S.agents S.atoms p) ∙ h in grind (arith, nat_tests)

pub agent_fits : (S : Kripke) (a : AgentId) (f : Node) → Fits S (Knows a f) → a.n < S.agents
agent_fits S a f h =
    let e : nat_lt a.n S.agents ≡ true = (and_parts (nat_lt a.n S.agents) (fits_in S.agents S.atoms f) (sym (fits_in-Knows S.agents S.atoms a f) ∙ h)).0 in
    grind (arith, nat_tests)

pub group_fits : (S : Kripke) (g : List Bool) (f : Node) → Fits S (Common g f) → IsTrue (is_nobody (drop S.agents g))
group_fits S g f h = (and_parts (is_nobody (drop S.agents g)) (fits_in S.agents S.atoms f) (sym (fits_in-Common S.agents S.atoms g f) ∙ h)).0

pub fits_at : (S : Kripke) (trees : List Node) (n : ℕ) (f : Node) → AllByRecursion (Fits S) trees → n < length trees → tree_at trees n ≡ f → Fits S f
fits_at S trees n f a l e = subst (Fits S) e (at_All (Fits S) (tree_at trees n) trees a (IsIn-at trees n True l))

-- a label is the row of its formula
pub label_row : (S : Kripke) (trees : List Node) (n : ℕ) (f : Node) (row : List Bool) → tree_at trees n ≡ f → IsLabel S f row → row ≡ truth_row S (tree_at trees n)
label_row S trees n f row e t = label_is_table S f row t ∙ ap (truth_row S) (sym e)

module _ (S : Kripke) (trees : List Node) (n : ℕ) (rows : List (List Bool)) (l : n < length trees) (is : rows ≡ map (truth_row S) (take n trees)) where
  pub rows_long : length rows ≡ n
  rows_long = ap length is ∙ length-map (take n trees) (truth_row S) ∙ length-take n trees ∙ omega arith

  row_is : (m : ℕ) (d : List Bool) → m < n → get_or rows m d ≡ truth_row S (tree_at trees m)
  row_is m d b =
      let in_take : m < length (take n trees) = omega (arith, b, l, length-take n trees) in
      ap (λ rs. get_or rs m d) is ∙ get_or-map (truth_row S) (take n trees) m True d in_take ∙ ap (truth_row S) (get_or-take n trees m True b)

  pub part_label : (m : ℕ) (row : List Bool) → m < n → row ≡ get_or rows m row → IsLabel S (tree_at trees m) row
  part_label m row b at = table_values S.worlds (formula_test S (tree_at trees m)) row (at ∙ row_is m row b)

  pub part_long : (m : ℕ) (row : List Bool) → m < n → row ≡ get_or rows m row → length row ≡ S.worlds
  part_long m row b at = (part_label m row b at).long

  at_rows : (m w : ℕ) → m < n → w < S.worlds → value_at (get_or rows m []) w ≡ is_true S w (tree_at trees m)
  at_rows m w b k = (part_label m (get_or rows m []) b (get_or_default rows m [] (get_or rows m []) (omega (arith, b, rows_long)))).each w k

  all_rows : (ns : List ℕ) → AllByRecursion (λ m. m < n) ns → (w : ℕ) → w < S.worlds → all_rows_test rows ns w ≡ all_test S (map (tree_at trees) ns) w
  all_rows [] b w k = refl
  all_rows (m ∷ ns) b w k = ap₂ ◌&&◌ (at_rows m w b.0 k) (all_rows ns b.1 w k)

  any_rows : (ns : List ℕ) → AllByRecursion (λ m. m < n) ns → (w : ℕ) → w < S.worlds → any_rows_test rows ns w ≡ any_test S (map (tree_at trees) ns) w
  any_rows [] b w k = refl
  any_rows (m ∷ ns) b w k = ap₂ ◌||◌ (at_rows m w b.0 k) (any_rows ns b.1 w k)

  pub joined_and : (ns : List ℕ) (row : List Bool) → AllByRecursion (λ m. m < n) ns → HasValues S.worlds (all_rows_test rows ns) row → IsLabel S (And (map (tree_at trees) ns)) row
  joined_and ns row b t = label-And S (map (tree_at trees) ns) row (HasValues-along S.worlds (all_rows_test rows ns) (all_test S (map (tree_at trees) ns)) row (all_rows ns b) t)

  pub joined_or : (ns : List ℕ) (row : List Bool) → AllByRecursion (λ m. m < n) ns → HasValues S.worlds (any_rows_test rows ns) row → IsLabel S (Or (map (tree_at trees) ns)) row
  joined_or ns row b t = label-Or S (map (tree_at trees) ns) row (HasValues-along S.worlds (any_rows_test rows ns) (any_test S (map (tree_at trees) ns)) row (any_rows ns b) t)

  pub rows_wide : (worlds : ℕ) → worlds ≡ S.worlds → AllByRecursion (λ row. length row ≡ worlds) rows
  rows_wide worlds e = subst (λ rs. AllByRecursion (λ row. length row ≡ worlds) rs) (sym is) (wide (take n trees))
    where
      wide : (fs : List Node) → AllByRecursion (λ row. length row ≡ worlds) (map (truth_row S) fs)
      wide [] = tt
      wide (f ∷ fs) = ((table_values S.worlds (formula_test S f) (truth_row S f) refl).long ∙ sym e, wide fs)

  pub rows_more : (row : List Bool) → row ≡ truth_row S (tree_at trees n) → rows ++ row ∷ [] ≡ map (truth_row S) (take (n + 1) trees)
  rows_more row e =
      ap₂ (λ xs x. xs ++ x ∷ []) is e ∙ sym (map-append (truth_row S) (take n trees) (tree_at trees n ∷ []))
      ∙ ap (map (truth_row S)) (sym (take_more trees n True l))

-- one row more is joined
module _ (worlds : ℕ) (rows : List (List Bool)) (ns : List ℕ) (i d : ℕ) (l : i < length ns) (row next new : List Bool)
    (wide : AllByRecursion (λ row. length row ≡ worlds) rows) (below : AllByRecursion (λ n. n < length rows) ns) (m : ℕ) (at : m ≡ get_or ns i d) (item : next ≡ get_or rows m next) where
  next_below : m < length rows
  next_below = subst (λ n. n < length rows) (sym at) (at_All (λ n. n < length rows) (get_or ns i d) ns below (IsIn-at ns i d l))

  next_long : length next ≡ worlds
  next_long = ap length item ∙ at_All (λ row. length row ≡ worlds) (get_or rows m next) rows wide (IsIn-at rows m next next_below)

  next_is : next ≡ get_or rows (get_or ns i d) []
  next_is = item ∙ get_or_default rows m next [] next_below ∙ ap (λ n. get_or rows n []) at

  and-true : (b : Bool) → (b && true) ≡ b
  and-true true = refl
  and-true false = refl

  or-false : (b : Bool) → (b || false) ≡ b
  or-false true = refl
  or-false false = refl

  pub joins_and : HasValues worlds (all_rows_test rows (take i ns)) row → new ≡ both row next → HasValues worlds (all_rows_test rows (take (i + 1) ns)) new
  joins_and t e = record {
    long = ap length e ∙ both_long row next (t.long ∙ sym next_long) ∙ t.long;
    each = λ w k. ap (λ r. value_at r w) e ∙ both_at row next w ∙ ap₂ ◌&&◌ (t.each w k) (ap (λ r. value_at r w) next_is) ∙ sym (more w);
  }
    where
      more : (w : ℕ) → all_rows_test rows (take (i + 1) ns) w ≡ (all_rows_test rows (take i ns) w && value_at (get_or rows (get_or ns i d) []) w)
      more w =
          let p = λ (n : ℕ). value_at (get_or rows n []) w in
          ap (list_all p) (take_more ns i d l) ∙ list_all-append p (take i ns) (get_or ns i d ∷ [])
          ∙ ap (λ b. list_all p (take i ns) && b) (and-true (p (get_or ns i d)))

  pub joins_or : HasValues worlds (any_rows_test rows (take i ns)) row → new ≡ either row next → HasValues worlds (any_rows_test rows (take (i + 1) ns)) new
  joins_or t e = record {
    long = ap length e ∙ either_long row next (t.long ∙ sym next_long) ∙ t.long;
    each = λ w k. ap (λ r. value_at r w) e ∙ either_at row next w ∙ ap₂ ◌||◌ (t.each w k) (ap (λ r. value_at r w) next_is) ∙ sym (more w);
  }
    where
      more : (w : ℕ) → any_rows_test rows (take (i + 1) ns) w ≡ (any_rows_test rows (take i ns) w || value_at (get_or rows (get_or ns i d) []) w)
      more w =
          let p = λ (n : ℕ). value_at (get_or rows n []) w in
          ap (list_any p) (take_more ns i d l) ∙ list_any-append p (take i ns) (get_or ns i d ∷ [])
          ∙ ap (λ b. list_any p (take i ns) || b) (or-false (p (get_or ns i d)))
