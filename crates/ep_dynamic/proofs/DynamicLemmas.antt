-- Rows that say where a formula that looks ahead is true, and what it spends, variant by variant.
use Rattle.std.proofs.Common.{◌≡◌, ◌≢◌, ℕ, zero, suc, ◌+◌, ◌<◌, Bool, true, false, not, ◌&&◌, ◌||◌, nat_lt, List, [], ◌∷◌, ◌++◌, map, drop, take, length, get_or, slice_get, replicate, IsTrue, refl, sym, ◌∙◌, ap, subst, arith, ◌⊎◌, inl, inr, ◌↔◌, Option, Some, None}
use Rattle.std.specs.List.{AllByRecursion, list_all}
use Rattle.std.specs.Option.{option_or}
use Rattle.std.proofs.lemmas.List.{take_more}
use Rattle.ep_logic.specs.AgentSets.{is_nobody}
use Rattle.ep_logic.specs.Numbers.{table}
use Rattle.ep_logic.specs.Rows.{both, either}
use Rattle.ep_logic.proofs.CallerLemmas.{both_at, both_long, either_at, either_long, get_or-table, length-table}
use Rattle.ep_logic.specs.declared.ids.ActionId.{ActionId}
use Rattle.ep_logic.specs.declared.ids.AgentId.{AgentId}
use Rattle.ep_logic.specs.declared.ids.AtomId.{AtomId}
use Rattle.ep_theory.specs.Rising.{IsIn}
use Rattle.ep_theory.specs.Kripke.{Kripke, IsState, atom_at, links_of, successors}
use Rattle.ep_theory.specs.Walks.{IsWalk, last_of}
use Rattle.ep_theory.specs.Truth.{Either}
use Rattle.ep_theory.specs.Events.{EventModel}
use Rattle.ep_theory.specs.Product.{places, product_of}
use Rattle.ep_theory.proofs.lists.Bools.{and_parts, and_whole, or_parts, or_left, or_right, not_true, from_not, all_at, to_all}
use Rattle.ep_theory.proofs.lists.Lists.{from_successors, IsIn-successors}
use Rattle.ep_theory.proofs.states.Exists.{length-map, get_or-map_within}
use Rattle.ep_theory.proofs.states.Unique.{links_within}
use Rattle.ep_theory.proofs.formulas.TruthLemmas.{along}
use Rattle.ep_theory.specs.PlanningTask.{PlanningTask}
use Rattle.ep_logic.specs.Rows.{value_at}
use Rattle.ep_truth.specs.Labels.{atom_test, knows_test}
use Rattle.ep_truth.specs.Common.{AllWalks}
use Rattle.ep_update.specs.Ahead.{openings}
use Rattle.ep_dynamic.specs.declared.node.DynNode.{DynNode, roll-DynNode}
use Rattle.ep_dynamic.specs.declared.node.DynNode.TheOpen.{DynNode-F}
use Rattle.ep_dynamic.specs.declared.node.DynNode.TheVariants.{True, False, Atom, Not, And, Or, Knows, Common, After, rolls-True, rolls-False, rolls-Atom, rolls-Not, rolls-And, rolls-Or, rolls-Knows, rolls-Common, rolls-After}
use Rattle.ep_dynamic.specs.declared.node.DynNode.TheFolds.{map-DynNode, fold-roll-DynNode}
use Rattle.ep_dynamic.specs.declared.truths.DynFail.{DynFail}
use Rattle.ep_dynamic.specs.DynamicTruth.{action_at, DynTruth}
use Rattle.ep_dynamic.specs.DynamicFits.{fits_task, dynamic_fit_step}
use Rattle.ep_dynamic.specs.Made.{opened, made_after, made_by_all, made_step, made, spent_by, first_spent}
use Rattle.ep_dynamic.specs.DynamicLabels.{Says, SaysTruth, SaysEach, SaysEither, spent, all_spent}
use Rattle.ep_dynamic.proofs.Dynamic.{dynamic-roll}

-- the equations of `DynTruth`
module _ (T : List EventModel) (S : Kripke) (w : ℕ) where
  pub dynamic-True : DynTruth T S w True ≡ Unit {0}
  dynamic-True = ap (DynTruth T S w) (sym rolls-True) ∙ dynamic-roll T S w DynNode-F.True

  pub dynamic-False : DynTruth T S w False ≡ ⊥
  dynamic-False = ap (DynTruth T S w) (sym rolls-False) ∙ dynamic-roll T S w DynNode-F.False

  pub dynamic-Atom : (p : AtomId) → DynTruth T S w (Atom p) ≡ IsTrue (atom_at S w p.n)
  dynamic-Atom p = ap (DynTruth T S w) (sym (rolls-Atom p)) ∙ dynamic-roll T S w (DynNode-F.Atom p)

  pub dynamic-Not : (f : DynNode) → DynTruth T S w (Not f) ≡ (DynTruth T S w f → ⊥)
  dynamic-Not f = ap (DynTruth T S w) (sym (rolls-Not f)) ∙ dynamic-roll T S w (DynNode-F.Not f)

  pub dynamic-And : (fs : List DynNode) → DynTruth T S w (And fs) ≡ AllByRecursion (DynTruth T S w) fs
  dynamic-And fs = ap (DynTruth T S w) (sym (rolls-And fs)) ∙ dynamic-roll T S w (DynNode-F.And fs)

  pub dynamic-Or : (fs : List DynNode) → DynTruth T S w (Or fs) ≡ Either (DynTruth T S w) fs
  dynamic-Or fs = ap (DynTruth T S w) (sym (rolls-Or fs)) ∙ dynamic-roll T S w (DynNode-F.Or fs)

  pub dynamic-Knows : (a : AgentId) (f : DynNode) → DynTruth T S w (Knows a f) ≡ ((v : ℕ) → IsIn (w, v) (links_of S a.n) → DynTruth T S v f)
  dynamic-Knows a f = ap (DynTruth T S w) (sym (rolls-Knows a f)) ∙ dynamic-roll T S w (DynNode-F.Knows a f)

  pub dynamic-Common : (g : List Bool) (f : DynNode) → DynTruth T S w (Common g f) ≡ ((vs : List ℕ) → IsWalk S g w vs → DynTruth T S (last_of w vs) f)
  dynamic-Common g f = ap (DynTruth T S w) (sym (rolls-Common g f)) ∙ dynamic-roll T S w (DynNode-F.Common g f)

  pub dynamic-After : (a : ActionId) (f : DynNode) → DynTruth T S w (After a f) ≡ ((e i : ℕ) → IsIn e (action_at T a.n).designated →
      slice_get (places S (action_at T a.n)) i ≡ Some (w, e) → DynTruth T (product_of S (action_at T a.n)) i f)
  dynamic-After a f = ap (DynTruth T S w) (sym (rolls-After a f)) ∙ dynamic-roll T S w (DynNode-F.After a f)

-- the equations of `made`
module _ (T : List EventModel) (S : Kripke) where
  made-roll : (x : DynNode-F DynNode) → made T S (roll-DynNode x) ≡ made_step T (map-DynNode DynNode (Kripke → List Kripke) (λ f R. made T R f) x) S
  unfolding made
  made-roll x = λ i. fold-roll-DynNode (Kripke → List Kripke) (made_step T) x i S

  pub made-True : made T S True ≡ []
  made-True = ap (made T S) (sym rolls-True) ∙ made-roll DynNode-F.True

  pub made-False : made T S False ≡ []
  made-False = ap (made T S) (sym rolls-False) ∙ made-roll DynNode-F.False

  pub made-Atom : (p : AtomId) → made T S (Atom p) ≡ []
  made-Atom p = ap (made T S) (sym (rolls-Atom p)) ∙ made-roll (DynNode-F.Atom p)

  pub made-Not : (f : DynNode) → made T S (Not f) ≡ made T S f
  made-Not f = ap (made T S) (sym (rolls-Not f)) ∙ made-roll (DynNode-F.Not f)

  pub made-And : (fs : List DynNode) → made T S (And fs) ≡ made_by_all (map (λ f R. made T R f) fs) S
  made-And fs = ap (made T S) (sym (rolls-And fs)) ∙ made-roll (DynNode-F.And fs)

  pub made-Or : (fs : List DynNode) → made T S (Or fs) ≡ made_by_all (map (λ f R. made T R f) fs) S
  made-Or fs = ap (made T S) (sym (rolls-Or fs)) ∙ made-roll (DynNode-F.Or fs)

  pub made-Knows : (a : AgentId) (f : DynNode) → made T S (Knows a f) ≡ made T S f
  made-Knows a f = ap (made T S) (sym (rolls-Knows a f)) ∙ made-roll (DynNode-F.Knows a f)

  pub made-Common : (g : List Bool) (f : DynNode) → made T S (Common g f) ≡ made T S f
  made-Common g f = ap (made T S) (sym (rolls-Common g f)) ∙ made-roll (DynNode-F.Common g f)

  pub made-After : (a : ActionId) (f : DynNode) → made T S (After a f) ≡ made_after (openings S (action_at T a.n)) (product_of (opened S (action_at T a.n)) (action_at T a.n)) (λ R. made T R f)
  made-After a f = ap (made T S) (sym (rolls-After a f)) ∙ made-roll (DynNode-F.After a f)

-- the equations of `fits_task`
module _ (n m k : ℕ) where
  all-map : (fs : List DynNode) → list_all (λ b. b) (map (fits_task n m k) fs) ≡ list_all (fits_task n m k) fs
  all-map [] = refl
  all-map (f ∷ fs) = ap (λ b. fits_task n m k f && b) (all-map fs)

  pub fits_task-Atom : (p : AtomId) → fits_task n m k (Atom p) ≡ nat_lt p.n m
  fits_task-Atom p = ap (fits_task n m k) (sym (rolls-Atom p)) ∙ fold-roll-DynNode Bool (dynamic_fit_step n m k) (DynNode-F.Atom p)

  pub fits_task-Not : (f : DynNode) → fits_task n m k (Not f) ≡ fits_task n m k f
  fits_task-Not f = ap (fits_task n m k) (sym (rolls-Not f)) ∙ fold-roll-DynNode Bool (dynamic_fit_step n m k) (DynNode-F.Not f)

  pub fits_task-And : (fs : List DynNode) → fits_task n m k (And fs) ≡ list_all (fits_task n m k) fs
  fits_task-And fs = ap (fits_task n m k) (sym (rolls-And fs)) ∙ fold-roll-DynNode Bool (dynamic_fit_step n m k) (DynNode-F.And fs) ∙ all-map fs

  pub fits_task-Or : (fs : List DynNode) → fits_task n m k (Or fs) ≡ list_all (fits_task n m k) fs
  fits_task-Or fs = ap (fits_task n m k) (sym (rolls-Or fs)) ∙ fold-roll-DynNode Bool (dynamic_fit_step n m k) (DynNode-F.Or fs) ∙ all-map fs

  pub fits_task-Knows : (a : AgentId) (f : DynNode) → fits_task n m k (Knows a f) ≡ (nat_lt a.n n && fits_task n m k f)
  fits_task-Knows a f = ap (fits_task n m k) (sym (rolls-Knows a f)) ∙ fold-roll-DynNode Bool (dynamic_fit_step n m k) (DynNode-F.Knows a f)

  pub fits_task-Common : (g : List Bool) (f : DynNode) → fits_task n m k (Common g f) ≡ (is_nobody (drop n g) && fits_task n m k f)
  fits_task-Common g f = ap (fits_task n m k) (sym (rolls-Common g f)) ∙ fold-roll-DynNode Bool (dynamic_fit_step n m k) (DynNode-F.Common g f)

  pub fits_task-After : (a : ActionId) (f : DynNode) → fits_task n m k (After a f) ≡ (nat_lt a.n k && fits_task n m k f)
  fits_task-After a f = ap (fits_task n m k) (sym (rolls-After a f)) ∙ fold-roll-DynNode Bool (dynamic_fit_step n m k) (DynNode-F.After a f)

pub ruleset fit_laws = (fits_task-Atom, fits_task-Not, fits_task-And, fits_task-Or, fits_task-Knows, fits_task-Common, fits_task-After)

-- rows
pub says_along : (n : ℕ) (P Q : ℕ → Type 0) (row : List Bool) → ((w : ℕ) → w < n → P w ↔ Q w) → Says n P row → Says n Q row
says_along n P Q row h s = record {
  long = s.long;
  each = λ w l. (λ t. (h w l).0 ((s.each w l).0 t), λ t. (s.each w l).1 ((h w l).1 t));
}

replicate_false : (n k : ℕ) → value_at (replicate n false) k ≡ false
replicate_false zero k = refl
replicate_false (suc n) zero = refl
replicate_false (suc n) (suc k) = replicate_false n k

length_false : (n : ℕ) → length (replicate n false) ≡ n
length_false zero = refl
length_false (suc n) = ap suc (length_false n)

table_at : (p : ℕ → Bool) (n : ℕ) (row : List Bool) (w : ℕ) → row ≡ table p n → w < n → value_at row w ≡ p w
table_at p n row w e l = ap (λ r. value_at r w) e ∙ get_or-table p n w false l

pub replicate_true : (n k : ℕ) → k < n → value_at (replicate n true) k ≡ true
replicate_true zero k l = absurd (omega arith)
replicate_true (suc n) zero l = refl
replicate_true (suc n) (suc k) l = replicate_true n k (omega arith)

pub length_true : (n : ℕ) → length (replicate n true) ≡ n
length_true zero = refl
length_true (suc n) = ap suc (length_true n)

-- a row that is true everywhere
pub says_everywhere : (n : ℕ) (P : ℕ → Type 0) (row : List Bool) → row ≡ replicate n true → ((w : ℕ) → w < n → P w) → Says n P row
says_everywhere n P row e p = record {
  long = ap length e ∙ length_true n;
  each = λ w l. (λ t. p w l, λ t. ap (λ r. value_at r w) e ∙ replicate_true n w l);
}

truth_of_bool : (b c : Bool) → b ≡ c → IsTrue b → IsTrue c
truth_of_bool b c e t = sym e ∙ t

module _ (T : PlanningTask) (S : Kripke) where
  pub says-none : (P : ℕ → Type 0) (n : ℕ) (row : List Bool) → n ≡ S.worlds → row ≡ replicate n false → ((w : ℕ) → P w → ⊥) → Says S.worlds P row
  says-none P n row q e p = record {
    long = ap length e ∙ length_false n ∙ q;
    each = λ w l. (λ t. let f : value_at row w ≡ false = ap (λ r. value_at r w) e ∙ replicate_false n w in absurd (cc), λ t. absurd (p w t));
  }

  pub says-False : (n : ℕ) (row : List Bool) → n ≡ S.worlds → row ≡ replicate n false → SaysTruth T S False row
  says-False n row q e = says-none (λ w. DynTruth T.actions S w False) n row q e (λ w t. along (dynamic-False T.actions S w) t)

  pub says-Atom : (p : AtomId) (row : List Bool) → row ≡ table (atom_test S p.n) S.worlds → SaysTruth T S (Atom p) row
  says-Atom p row t = record {
    long = ap length t ∙ length-table (atom_test S p.n) S.worlds;
    each = λ w l.
        let here : value_at row w ≡ atom_test S p.n w = table_at (atom_test S p.n) S.worlds row w t l in (
          λ h. along (sym (dynamic-Atom T.actions S w p)) (sym here ∙ h),
          λ h. here ∙ along (dynamic-Atom T.actions S w p) h,
        );
  }

  pub says-Not : (f : DynNode) (row new : List Bool) → SaysTruth T S f row → new ≡ map not row → SaysTruth T S (Not f) new
  says-Not f row new s turned = record {
    long = ap length turned ∙ length-map not row ∙ s.long;
    each = λ w l.
        let here : value_at new w ≡ not (value_at row w) = ap (λ r. value_at r w) turned ∙ get_or-map_within not row w false false (subst (λ n. w < n) (sym s.long) l) in (
          λ h. along (sym (dynamic-Not T.actions S w f)) (λ q. from_not (value_at row w) (sym here ∙ h) ((s.each w l).1 q)),
          λ h. here ∙ not_true (value_at row w) (λ q. along (dynamic-Not T.actions S w f) h ((s.each w l).0 q)),
        );
  }

  pub says-And : (fs : List DynNode) (row : List Bool) → SaysEach T S fs row → SaysTruth T S (And fs) row
  says-And fs row s = says_along S.worlds (λ w. AllByRecursion (DynTruth T.actions S w) fs) (λ w. DynTruth T.actions S w (And fs)) row
      (λ w l. (λ t. along (sym (dynamic-And T.actions S w fs)) t, λ t. along (dynamic-And T.actions S w fs) t)) s

  pub says-Or : (fs : List DynNode) (row : List Bool) → SaysEither T S fs row → SaysTruth T S (Or fs) row
  says-Or fs row s = says_along S.worlds (λ w. Either (DynTruth T.actions S w) fs) (λ w. DynTruth T.actions S w (Or fs)) row
      (λ w l. (λ t. along (sym (dynamic-Or T.actions S w fs)) t, λ t. along (dynamic-Or T.actions S w fs) t)) s

  pub says-Knows : IsState S → (a : AgentId) (f : DynNode) (inner row : List Bool) → SaysTruth T S f inner → row ≡ table (knows_test S a.n inner) S.worlds → SaysTruth T S (Knows a f) row
  says-Knows s a f inner row i t = record {
    long = ap length t ∙ length-table (knows_test S a.n inner) S.worlds;
    each = λ w l. let here : value_at row w ≡ knows_test S a.n inner w = table_at (knows_test S a.n inner) S.worlds row w t l in (
      λ h. along (sym (dynamic-Knows T.actions S w a f)) (λ v u.
          (i.each v (links_within S s a.n w v u).1).0 (all_at (value_at inner) v (successors (links_of S a.n) w) (sym here ∙ h) (IsIn-successors w v (links_of S a.n) u))),
      λ h. here ∙ to_all (value_at inner) (successors (links_of S a.n) w) (λ v j.
          let u = from_successors w v (links_of S a.n) j in
          (i.each v (links_within S s a.n w v u).1).1 (along (dynamic-Knows T.actions S w a f) h v u)),
    );
  }

  walk_within : IsState S → (g : List Bool) (w : ℕ) (vs : List ℕ) → w < S.worlds → IsWalk S g w vs → last_of w vs < S.worlds
  walk_within s g w [] l p = l
  walk_within s g w (v ∷ vs) l p = walk_within s g v vs (links_within S s p.0.0 w v p.0.2).1 p.1

  pub says-Common : IsState S → (g : List Bool) (f : DynNode) (inner row : List Bool) → SaysTruth T S f inner → length row ≡ S.worlds → ((w : ℕ) → w < S.worlds → IsTrue (value_at row w) ↔ AllWalks S g inner w) → SaysTruth T S (Common g f) row
  says-Common s g f inner row i e each = record {
    long = e;
    each = λ w l. (
      λ h. along (sym (dynamic-Common T.actions S w g f)) (λ vs q. (i.each (last_of w vs) (walk_within s g w vs l q)).0 ((each w l).0 h vs q)),
      λ h. (each w l).1 (λ vs q. (i.each (last_of w vs) (walk_within s g w vs l q)).1 (along (dynamic-Common T.actions S w g f) h vs q)),
    );
  }

  -- one part more
  each-more : (w : ℕ) (fs : List DynNode) (f : DynNode) → (AllByRecursion (DynTruth T.actions S w) fs × DynTruth T.actions S w f) ↔ AllByRecursion (DynTruth T.actions S w) (fs ++ f ∷ [])
  each-more w [] f = (λ t. (t.1, tt), λ t. (tt, t.0))
  each-more w (g ∷ fs) f =
      let rest = each-more w fs f in
      (λ t. (t.0.0, rest.0 (t.0.1, t.1)), λ t. let r = rest.1 t.1 in ((t.0, r.0), r.1))

  either-more : (w : ℕ) (fs : List DynNode) (f : DynNode) → (Either (DynTruth T.actions S w) fs ⊎ DynTruth T.actions S w f) ↔ Either (DynTruth T.actions S w) (fs ++ f ∷ [])
  either-more w [] f = (λ t. elim t [ inl x ↦ absurd x | inr y ↦ inl y ], λ t. elim t [ inl x ↦ inr x | inr y ↦ absurd y ])
  either-more w (g ∷ fs) f =
      let rest = either-more w fs f in (
        λ t. elim t [ inl x ↦ elim x [ inl y ↦ inl y | inr z ↦ inr (rest.0 (inl z)) ] | inr y ↦ inr (rest.0 (inr y)) ],
        λ t. elim t [ inl x ↦ inl (inl x) | inr y ↦ elim (rest.1 y) [ inl z ↦ inl (inr z) | inr z ↦ inr z ] ],
      )

  pub says_each : (fs : List DynNode) (i : ℕ) (d : DynNode) (row next new : List Bool) → i < length fs → SaysEach T S (take i fs) row → SaysTruth T S (get_or fs i d) next → new ≡ both row next → SaysEach T S (take (i + 1) fs) new
  says_each fs i d row next new l s u e = record {
    long = ap length e ∙ both_long row next (s.long ∙ sym u.long) ∙ s.long;
    each = λ w k.
        let here : value_at new w ≡ (value_at row w && value_at next w) = ap (λ r. value_at r w) e ∙ both_at row next w in
        let more = each-more w (take i fs) (get_or fs i d) in (
          λ h.
              let p = and_parts (value_at row w) (value_at next w) (sym here ∙ h) in
              subst (λ gs. AllByRecursion (DynTruth T.actions S w) gs) (sym (take_more fs i d l)) (more.0 ((s.each w k).0 p.0, (u.each w k).0 p.1)),
          λ h.
              let p = more.1 (subst (λ gs. AllByRecursion (DynTruth T.actions S w) gs) (take_more fs i d l) h) in
              here ∙ and_whole (value_at row w) (value_at next w) ((s.each w k).1 p.0) ((u.each w k).1 p.1),
        );
  }

  pub says_either : (fs : List DynNode) (i : ℕ) (d : DynNode) (row next new : List Bool) → i < length fs → SaysEither T S (take i fs) row → SaysTruth T S (get_or fs i d) next → new ≡ either row next → SaysEither T S (take (i + 1) fs) new
  says_either fs i d row next new l s u e = record {
    long = ap length e ∙ either_long row next (s.long ∙ sym u.long) ∙ s.long;
    each = λ w k.
        let here : value_at new w ≡ (value_at row w || value_at next w) = ap (λ r. value_at r w) e ∙ either_at row next w in
        let more = either-more w (take i fs) (get_or fs i d) in (
          λ h. subst (λ gs. Either (DynTruth T.actions S w) gs) (sym (take_more fs i d l))
              (more.0 (elim (or_parts (value_at row w) (value_at next w) (sym here ∙ h)) [ inl x ↦ inl ((s.each w k).0 x) | inr y ↦ inr ((u.each w k).0 y) ])),
          λ h. here ∙ elim (more.1 (subst (λ gs. Either (DynTruth T.actions S w) gs) (take_more fs i d l) h)) [
            | inl x ↦ or_left (value_at row w) (value_at next w) ((s.each w k).1 x)
            | inr y ↦ or_right (value_at row w) (value_at next w) ((u.each w k).1 y)
          ],
        );
  }

  -- what is spent
  pub spent-True : spent T S True ≡ None
  spent-True = ap first_spent (made-True T.actions S)

  pub spent-False : spent T S False ≡ None
  spent-False = ap first_spent (made-False T.actions S)

  pub spent-Atom : (p : AtomId) → spent T S (Atom p) ≡ None
  spent-Atom p = ap first_spent (made-Atom T.actions S p)

  pub spent-Not : (f : DynNode) → spent T S (Not f) ≡ spent T S f
  spent-Not f = ap first_spent (made-Not T.actions S f)

  pub spent-And : (fs : List DynNode) → spent T S (And fs) ≡ all_spent T S fs
  spent-And fs = ap first_spent (made-And T.actions S fs)

  pub spent-Or : (fs : List DynNode) → spent T S (Or fs) ≡ all_spent T S fs
  spent-Or fs = ap first_spent (made-Or T.actions S fs)

  pub spent-Knows : (a : AgentId) (f : DynNode) → spent T S (Knows a f) ≡ spent T S f
  spent-Knows a f = ap first_spent (made-Knows T.actions S a f)

  pub spent-Common : (g : List Bool) (f : DynNode) → spent T S (Common g f) ≡ spent T S f
  spent-Common g f = ap first_spent (made-Common T.actions S g f)

  first-append : (xs ys : List Kripke) → first_spent (xs ++ ys) ≡ option_or (first_spent xs) (first_spent ys)
  first-append [] ys = refl
  first-append (P ∷ xs) ys = ap (option_or (spent_by P)) (first-append xs ys) ∙ by_first (spent_by P) (first_spent xs) (first_spent ys)
    where
      by_first : (o u v : Option DynFail) → option_or o (option_or u v) ≡ option_or (option_or o u) v
      by_first None u v = refl
      by_first (Some x) u v = refl

  pub all_spent-drop : (fs : List DynNode) (i : ℕ) (d : DynNode) → i < length fs → all_spent T S (drop i fs) ≡ option_or (spent T S (get_or fs i d)) (all_spent T S (drop (suc i) fs))
  all_spent-drop [] i d l = absurd (omega arith)
  all_spent-drop (f ∷ fs) zero d l = first-append (made T.actions S f) (made_by_all (map (λ f R. made T.actions R f) fs) S)
  all_spent-drop (f ∷ fs) (suc i) d l = all_spent-drop fs i d (omega arith)

  after_none : (ws : List ℕ) (P : Kripke) (needs : Kripke → List Kripke) → ws ≡ [] → first_spent (made_after ws P needs) ≡ None
  after_none [] P needs h = refl
  after_none (w ∷ ws) P needs h = absurd (cc)

  after_some : (ws : List ℕ) (P : Kripke) (needs : Kripke → List Kripke) → ws ≢ [] → first_spent (made_after ws P needs) ≡ option_or (spent_by P) (first_spent (needs P))
  after_some [] P needs h = absurd (h refl)
  after_some (w ∷ ws) P needs h = refl

  pub spent-closed : (a : ActionId) (f : DynNode) → openings S (action_at T.actions a.n) ≡ [] → spent T S (After a f) ≡ None
  spent-closed a f h = ap first_spent (made-After T.actions S a f) ∙ after_none (openings S (action_at T.actions a.n)) (product_of (opened S (action_at T.actions a.n)) (action_at T.actions a.n)) (λ R. made T.actions R f) h

  pub spent-After : (a : ActionId) (f : DynNode) → openings S (action_at T.actions a.n) ≢ [] →
      spent T S (After a f) ≡ option_or (spent_by (product_of (opened S (action_at T.actions a.n)) (action_at T.actions a.n))) (spent T (product_of (opened S (action_at T.actions a.n)) (action_at T.actions a.n)) f)
  spent-After a f h = ap first_spent (made-After T.actions S a f) ∙ after_some (openings S (action_at T.actions a.n)) (product_of (opened S (action_at T.actions a.n)) (action_at T.actions a.n)) (λ R. made T.actions R f) h
