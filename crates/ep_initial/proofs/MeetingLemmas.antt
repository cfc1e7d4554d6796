-- Truth in the state of all rows is truth in the state of one.
use Rattle.std.proofs.Common.{◌≡◌, ℕ, ◌<◌, Bool, true, false, ◌&&◌, ◌==◌, Result, Ok, Err, IfOk, List, [], ◌∷◌, length, map, get_or, refl, ap, sym, ◌∙◌, subst, arith, IsTrue}
use Rattle.std.specs.List.{AllByRecursion}
use Rattle.std.proofs.lemmas.List.{length-map, get_or-map, same_lists}
use Rattle.ep_logic.specs.declared.formula.Node.{Node}
use Rattle.ep_theory.specs.Bisimulation.{IsBisimulation}
use Rattle.ep_theory.specs.Kripke.{Kripke, truth_of}
use Rattle.ep_logic.specs.Numbers.{numbers_where, pairs_where, table}
use Rattle.ep_theory.specs.Rising.{IsIn}
use Rattle.ep_theory.specs.Tested.{is_true}
use Rattle.ep_theory.proofs.CallerLemmas.{and_parts, and_whole, same_test, All-at, equal_from_test, test_itself, from_rows, from_pairs}
use Rattle.ep_logic.proofs.CallerLemmas.{length-table, get_or-table, numbers_where-same}
use Rattle.ep_tree.specs.declared.tree.FormulaTree.{FormulaTree}
use Rattle.ep_types.specs.declared.scope.Declared.{Declared}
use Rattle.ep_universe.specs.Atoms.{atoms_of}
use Rattle.ep_universe.specs.Formulas.{ground_of}
use Rattle.ep_universe.specs.Objects.{agents_of}
use Rattle.ep_initial.specs.Meeting.{unlinked, meets}
use Rattle.ep_initial.proofs.ListLemmas.{numbers-none}
use Rattle.ep_initial.proofs.StateLemmas.{AreWorlds, AreLinks, is_state, table_pairs}

-- ---- worlds that nobody links

abbrev pub never : ℕ → ℕ → ℕ → Bool
never a v w = false

pub are_worlds : (atoms : ℕ) (rows : List (List Bool)) → 0 < length rows → AllByRecursion (λ row. length row ≡ atoms) rows → AreWorlds atoms rows (0 ∷ [])
are_worlds atoms rows some long = record { some = some; long = long; rising = (tt, tt); within = (some, tt); some_id = omega arith }

no_link : (agents n a : ℕ) (p : ℕ × ℕ) → IsIn p (get_or (table (λ b. pairs_where (never b) n) agents) a []) → ⊥
no_link agents n a p i =
    let r = from_rows (λ b. pairs_where (never b) n) agents a p i in
    let c = from_pairs (never a) n n p r.1 in
    false_true c.2
  where
    false_true : false ≡ true → ⊥
    false_true h = cc

pub no_links : (agents atoms : ℕ) (rows : List (List Bool)) → AreLinks agents atoms rows never (0 ∷ []) (λ _. table (λ _. []) (length rows))
no_links agents atoms rows = record {
  long = λ a. length-table (λ _. []) (length rows);
  pairs = λ a. table_pairs (never a) (length rows) (λ _. []) (λ v l. sym (numbers-none (length rows)));
}

-- ---- one world of many

module _ (agents atoms : ℕ) (rows : List (List Bool)) (some : 0 < length rows) (long : AllByRecursion (λ row. length row ≡ atoms) rows) (w : ℕ) (l : w < length rows) where
  abbrev one : List Bool
  one = get_or rows w []

  abbrev S : Kripke
  S = unlinked agents atoms rows

  abbrev R : Kripke
  R = unlinked agents atoms (one ∷ [])

  -- relates the world to the one
  abbrev Z : ℕ → ℕ → Bool
  Z a b = (a == w) && (b == 0)

  related : (a b : ℕ) → IsTrue (Z a b) → (a ≡ w) × (b ≡ 0)
  related a b h = let p = and_parts (a == w) (b == 0) h in (equal_from_test a w p.0, equal_from_test b 0 p.1)

  same_truth : (a b : ℕ) → IsTrue (Z a b) → truth_of S a ≡ truth_of R b
  same_truth a b h = let p = related a b h in ap (λ k. get_or rows k []) p.0 ∙ sym (ap (λ k. get_or (one ∷ []) k []) p.1)

  bisimulation : IsBisimulation Z S R
  bisimulation = record {
    agents = refl;
    atoms = refl;
    within = λ a b h. let p = related a b h in (subst (λ k. k < length rows) (sym p.0) l, subst (λ k. k < 1) (sym p.1) (omega arith));
    truth = same_truth;
    forth = λ a v b u h i. absurd (no_link agents (length rows) a (v, u) i);
    back = λ a v b x h i. absurd (no_link agents 1 a (b, x) i);
  }

  pub alone : (f : Node) → is_true S w f ≡ is_true R 0 f
  alone f = same_test S R
      (is_state agents atoms rows never (0 ∷ []) (are_worlds atoms rows some long))
      (is_state agents atoms (one ∷ []) never (0 ∷ []) (are_worlds atoms (one ∷ []) (omega arith) (All-at (λ r. length r ≡ atoms) rows w [] l long, tt)))
      w 0 (Z, bisimulation, and_whole (w == w) (0 == 0) (test_itself w) (test_itself 0)) f

-- ---- the label of the formula

module _ (d : Declared) (f : FormulaTree) (agents atoms : ℕ) (a : agents ≡ length (agents_of d)) (p : atoms ≡ length (atoms_of d)) where
  met : (row : List Bool) → is_true (unlinked agents atoms (row ∷ [])) 0 (ground_of d f []) ≡ meets d f row
  met row = λ i. is_true (unlinked (a i) (p i) (row ∷ [])) 0 (ground_of d f [])

  label_is : (rows : List (List Bool)) → 0 < length rows → AllByRecursion (λ row. length row ≡ atoms) rows →
      table (λ w. is_true (unlinked agents atoms rows) w (ground_of d f [])) (length rows) ≡ map (meets d f) rows
  label_is rows some long =
      let t : ℕ → Bool = λ w. is_true (unlinked agents atoms rows) w (ground_of d f []) in
      same_lists (table t (length rows)) (map (meets d f) rows) (length-table t (length rows) ∙ sym (length-map rows (meets d f))) (λ i e l.
      let m : i < length rows = subst (λ k. i < k) (length-table t (length rows)) l in
      get_or-table t (length rows) i e m ∙ alone agents atoms rows some long i m (ground_of d f []) ∙ met (get_or rows i []) ∙ sym (get_or-map (meets d f) rows i [] e m))

  pub labelled : {E : Type 0} (rows : List (List Bool)) → 0 < length rows → AllByRecursion (λ row. length row ≡ atoms) rows →
      (S : Kripke) (form : Node) → S ≡ unlinked agents atoms rows → form ≡ ground_of d f [] →
      (r : Result (List Bool) E) → IfOk r (λ row. row ≡ table (λ w. is_true S w form) S.worlds) → IfOk r (λ row. row ≡ map (meets d f) rows)
  labelled rows some long S form s g (Ok row) h = h ∙ (λ i. table (λ w. is_true (s i) w (g i)) (s i).worlds) ∙ label_is rows some long
  labelled rows some long S form s g (Err x) h = tt

-- the places where a row is true that tells which rows pass
pub chosen : (h : List Bool → Bool) (rows : List (List Bool)) (row : List Bool) → row ≡ map h rows → numbers_where (λ w. get_or row w false) (length row) ≡ numbers_where (λ w. h (get_or rows w [])) (length rows)
chosen h rows row e =
    ap (λ r. numbers_where (λ w. get_or r w false) (length r)) e
    ∙ ap (numbers_where (λ w. get_or (map h rows) w false)) (length-map rows h)
    ∙ numbers_where-same (λ w. get_or (map h rows) w false) (λ w. h (get_or rows w [])) (length rows) (λ i l. get_or-map h rows i [] false l)
