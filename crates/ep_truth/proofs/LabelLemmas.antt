-- Rows that are the label of a formula, variant by variant.
use Rattle.std.proofs.Common.{◌≡◌, ℕ, zero, suc, ◌+◌, ◌<◌, Bool, true, false, not, ◌&&◌, ◌||◌, ◌↔◌, List, [], ◌∷◌, map, length, get_or, take, replicate, refl, ap, ap₂, ◌∙◌, sym, subst, IsTrue, All, IfOk, Result, Ok, Err, arith, inl, inr}
use Rattle.std.specs.List.{list_all, list_any}
use Rattle.std.specs.Cmp.{both_ways}
use Rattle.std.proofs.lemmas.List.{take_more, length-replicate, get_or-replicate, length-map, get_or-map, same_lists, get_or_default}
use Rattle.std.proofs.lemmas.List.Folds.{list_all-append, list_any-append}
use Rattle.ep_logic.specs.Rows.{both, either, value_at}
use Rattle.ep_logic.proofs.CallerLemmas.{both_at, both_long, either_at, either_long, length-table, get_or-table, table-same}
use Rattle.ep_logic.specs.declared.ids.AgentId.{AgentId}
use Rattle.ep_logic.specs.declared.ids.AtomId.{AtomId}
use Rattle.ep_logic.specs.declared.formula.Node.{Node}
use Rattle.ep_logic.specs.declared.formula.Node.TheVariants.{True, False, Atom, Not, And, Or, Knows, Common}
use Rattle.ep_theory.specs.Rising.{IsIn}
use Rattle.ep_logic.specs.Numbers.{table}
use Rattle.ep_theory.specs.Kripke.{Kripke, IsState, links_of, successors}
use Rattle.ep_theory.specs.Walks.{IsWalk, last_of}
use Rattle.ep_theory.specs.Truth.{Truth}
use Rattle.ep_theory.specs.Tested.{is_true}
use Rattle.ep_theory.proofs.CallerLemmas.{from_successors, at_All, IsIn-at, links_within, is_true-True, is_true-False, is_true-Atom, is_true-Not, is_true-And, is_true-Or, is_true-Knows, is_true-Common, within_from_walks, walks_from_within, is_true_decides}
use Rattle.ep_truth.specs.Common.{AllWalks}
use Rattle.ep_truth.specs.Labels.{IsLabel, formula_test, all_test, any_test, atom_test, knows_test, HasValues}

-- a row that tells one test tells an equal one
pub HasValues-along : (n : ℕ) (p q : ℕ → Bool) (row : List Bool) → ((w : ℕ) → w < n → p w ≡ q w) → HasValues n p row → HasValues n q row
HasValues-along n p q row h t = record { long = t.long; each = λ w l. t.each w l ∙ h w l }

-- a table of a test has its values
pub table_values : (n : ℕ) (p : ℕ → Bool) (row : List Bool) → row ≡ table p n → HasValues n p row
table_values n p row e = record {
  long = ap length e ∙ length-table p n;
  each = λ w l. ap (λ r. get_or r w false) e ∙ get_or-table p n w false l;
}

-- a row of a relation's rows tells what an agent knows
pub knows_row : (S : Kripke) (a : ℕ) (inner row : List Bool) (rows : List (List ℕ)) → length rows ≡ S.worlds → ((w : ℕ) → w < S.worlds → get_or rows w [] ≡ successors (links_of S a) w) →
    row ≡ table (λ w. list_all (value_at inner) (get_or rows w [])) (length rows) → row ≡ table (knows_test S a inner) S.worlds
knows_row S a inner row rows long each e =
    let told = λ (w : ℕ). list_all (value_at inner) (get_or rows w []) in
    e ∙ ap (table told) long ∙ table-same told (knows_test S a inner) S.worlds (λ w l. ap (list_all (value_at inner)) (each w l))

pub replicate_false : (n k : ℕ) → value_at (replicate n false) k ≡ false
replicate_false zero k = refl
replicate_false (suc n) zero = refl
replicate_false (suc n) (suc k) = replicate_false n k

all_alike : {A : Type 0} (p q : A → Bool) (xs : List A) → ((x : A) → IsIn x xs → p x ≡ q x) → list_all p xs ≡ list_all q xs
all_alike p q [] h = refl
all_alike p q (x ∷ xs) h = ap₂ ◌&&◌ (h x (inl refl)) (all_alike p q xs (λ y i. h y (inr i)))

module _ (S : Kripke) where
  -- a row that is true everywhere
  all_true : (row : List Bool) → row ≡ replicate S.worlds true → (length row ≡ S.worlds) × ((w : ℕ) → w < S.worlds → value_at row w ≡ true)
  all_true row e = (ap length e ∙ length-replicate S.worlds true, λ w l. ap (λ r. value_at r w) e ∙ get_or-replicate S.worlds w true false l)

  pub label-True : (row : List Bool) → row ≡ replicate S.worlds true → IsLabel S True row
  label-True row e = record { long = (all_true row e).0; each = λ w l. (all_true row e).1 w l ∙ sym (is_true-True S w) }

  pub tells_nothing : (row : List Bool) → row ≡ replicate S.worlds true → HasValues S.worlds (all_test S []) row
  tells_nothing row e = record { long = (all_true row e).0; each = (all_true row e).1 }

  pub label-False : (row : List Bool) → row ≡ replicate S.worlds false → IsLabel S False row
  label-False row e = record {
    long = ap length e ∙ length-replicate S.worlds false;
    each = λ w l. ap (λ r. value_at r w) e ∙ replicate_false S.worlds w ∙ sym (is_true-False S w);
  }

  pub label-Atom : (p : AtomId) (row : List Bool) → HasValues S.worlds (atom_test S p.n) row → IsLabel S (Atom p) row
  label-Atom p row = HasValues-along S.worlds (atom_test S p.n) (formula_test S (Atom p)) row (λ w l. sym (is_true-Atom S w p))

  pub label-Not : (f : Node) (row new : List Bool) → IsLabel S f row → new ≡ map not row → IsLabel S (Not f) new
  label-Not f row new t e = record {
    long = ap length e ∙ length-map row not ∙ t.long;
    each = λ w l. ap (λ r. value_at r w) e ∙ get_or-map not row w false false (omega (arith, l, t.long)) ∙ ap not (t.each w l) ∙ sym (is_true-Not S w f);
  }

  pub label-And : (fs : List Node) (row : List Bool) → HasValues S.worlds (all_test S fs) row → IsLabel S (And fs) row
  label-And fs row = HasValues-along S.worlds (all_test S fs) (formula_test S (And fs)) row (λ w l. sym (is_true-And S w fs))

  pub label-Or : (fs : List Node) (row : List Bool) → HasValues S.worlds (any_test S fs) row → IsLabel S (Or fs) row
  label-Or fs row = HasValues-along S.worlds (any_test S fs) (formula_test S (Or fs)) row (λ w l. sym (is_true-Or S w fs))

  -- one part more
  pub tells_and : (fs : List Node) (i : ℕ) (d : Node) (row next new : List Bool) → i < length fs →
      HasValues S.worlds (all_test S (take i fs)) row → IsLabel S (get_or fs i d) next → new ≡ both row next →
      HasValues S.worlds (all_test S (take (i + 1) fs)) new
  tells_and fs i d row next new h t u e = record {
    long = ap length e ∙ both_long row next (t.long ∙ sym u.long) ∙ t.long;
    each = λ w l. ap (λ r. value_at r w) e ∙ both_at row next w ∙ ap₂ ◌&&◌ (t.each w l) (u.each w l) ∙ sym (more w);
  }
    where
      and-true : (b : Bool) → (b && true) ≡ b
      and-true true = refl
      and-true false = refl

      more : (w : ℕ) → all_test S (take (i + 1) fs) w ≡ (all_test S (take i fs) w && is_true S w (get_or fs i d))
      more w = ap (list_all (is_true S w)) (take_more fs i d h) ∙ list_all-append (is_true S w) (take i fs) (get_or fs i d ∷ [])
          ∙ ap (λ b. list_all (is_true S w) (take i fs) && b) (and-true (is_true S w (get_or fs i d)))

  pub tells_or : (fs : List Node) (i : ℕ) (d : Node) (row next new : List Bool) → i < length fs →
      HasValues S.worlds (any_test S (take i fs)) row → IsLabel S (get_or fs i d) next → new ≡ either row next →
      HasValues S.worlds (any_test S (take (i + 1) fs)) new
  tells_or fs i d row next new h t u e = record {
    long = ap length e ∙ either_long row next (t.long ∙ sym u.long) ∙ t.long;
    each = λ w l. ap (λ r. value_at r w) e ∙ either_at row next w ∙ ap₂ ◌||◌ (t.each w l) (u.each w l) ∙ sym (more w);
  }
    where
      or-false : (b : Bool) → (b || false) ≡ b
      or-false true = refl
      or-false false = refl

      more : (w : ℕ) → any_test S (take (i + 1) fs) w ≡ (any_test S (take i fs) w || is_true S w (get_or fs i d))
      more w = ap (list_any (is_true S w)) (take_more fs i d h) ∙ list_any-append (is_true S w) (take i fs) (get_or fs i d ∷ [])
          ∙ ap (λ b. list_any (is_true S w) (take i fs) || b) (or-false (is_true S w (get_or fs i d)))

  module _ (s : IsState S) where
    -- the worlds to which an agent links are worlds
    pub successors_within : (a w : ℕ) → All (λ v. v < S.worlds) (successors (links_of S a) w)
    successors_within a w k d l =
        let i = IsIn-at (successors (links_of S a) w) k d l in
        (links_within S s a w _ (from_successors w _ (links_of S a) i)).1

    pub designated_at : (w : ℕ) → IsIn w S.designated → w < S.worlds
    designated_at w i = at_All (λ w. w < S.worlds) w S.designated s.designated_within i

    pub designated_within : All (λ w. w < S.worlds) S.designated
    designated_within k d l = designated_at (get_or S.designated k d) (IsIn-at S.designated k d l)

    pub label-Knows : (a : AgentId) (f : Node) (inner row : List Bool) → IsLabel S f inner → HasValues S.worlds (knows_test S a.n inner) row → IsLabel S (Knows a f) row
    label-Knows a f inner row t = HasValues-along S.worlds (knows_test S a.n inner) (formula_test S (Knows a f)) row
        (λ w l. all_alike (value_at inner) (λ v. is_true S v f) (successors (links_of S a.n) w)
        (λ v i. t.each v (links_within S s a.n w v (from_successors w v (links_of S a.n) i)).1)
        ∙ sym (is_true-Knows S w a f))

    walk_within : (g : List Bool) (w : ℕ) (vs : List ℕ) → w < S.worlds → IsWalk S g w vs → last_of w vs < S.worlds
    walk_within g w [] l p = l
    walk_within g w (v ∷ vs) l p = walk_within g v vs (links_within S s p.0.0 w v p.0.2).1 p.1

    label-Common : (g : List Bool) (f : Node) (inner row : List Bool) → IsLabel S f inner → length row ≡ S.worlds →
        ((w : ℕ) → w < S.worlds → IsTrue (value_at row w) ↔ AllWalks S g inner w) → IsLabel S (Common g f) row
    label-Common g f inner row t e each = record {
      long = e;
      each = λ w l.
          let p = λ (v : ℕ). is_true S v f in
          let ends = λ (vs : List ℕ) (q : IsWalk S g w vs). t.each (last_of w vs) (walk_within g w vs l q) in
          both_ways (value_at row w) (is_true S w (Common g f))
          (λ h. is_true-Common S w g f ∙ within_from_walks S g p S.worlds w (λ vs q. sym (ends vs q) ∙ (each w l).0 h vs q))
          (λ h. (each w l).1 (λ vs q. ends vs q ∙ walks_from_within S g p s w l (sym (is_true-Common S w g f) ∙ h) vs q));
    }

    pub common_label : {E : Type 0} (g : List Bool) (f : Node) (inner : List Bool) → IsLabel S f inner → (r : Result (List Bool) E) →
        IfOk r (λ row. length row ≡ S.worlds) → IfOk r (λ row. (w : ℕ) → w < S.worlds → IsTrue (value_at row w) ↔ AllWalks S g inner w) → IfOk r (IsLabel S (Common g f))
    common_label g f inner t (Ok row) l h = label-Common g f inner row t l h
    common_label g f inner t (Err x) l h = tt

    -- a label says what is true
    pub label_tells_truth : (f : Node) (row : List Bool) → IsLabel S f row → (w : ℕ) → w < S.worlds → IsTrue (value_at row w) ↔ Truth S w f
    label_tells_truth f row t w l = subst (λ b. IsTrue b ↔ Truth S w f) (sym (t.each w l)) (is_true_decides S s w l f)

-- a label is one list
pub label_is_table : (S : Kripke) (f : Node) (row : List Bool) → IsLabel S f row → row ≡ table (λ w. is_true S w f) S.worlds
label_is_table S f row t = same_lists row (table (λ w. is_true S w f) S.worlds) (t.long ∙ sym (length-table (λ w. is_true S w f) S.worlds))
    (λ k d l.
    let in_row : k < S.worlds = omega (arith, t.long) in
    get_or_default row k d false l ∙ t.each k in_row ∙ sym (get_or-table (λ w. is_true S w f) S.worlds k d in_row))
