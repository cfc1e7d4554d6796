-- Answers for a formula that looks ahead, from those for its parts.
use Rattle.std.proofs.Common.{◌≡◌, ◌≢◌, ℕ, zero, suc, ◌+◌, ◌<◌, ◌≤◌, Bool, List, [], ◌∷◌, drop, take, length, get_or, slice_get, IsTrue, IfOk, MatchResult, MatchOption, Result, Ok, Err, refl, sym, ◌∙◌, ap, subst, arith, ◌⊎◌, inl, inr, Option, Some, None, nat_lt, replicate, true, false}
use Rattle.std.specs.List.{AllByRecursion, list_all}
use Rattle.std.specs.Option.{option_or}
use Rattle.ep_logic.specs.AgentSets.{is_nobody}
use Rattle.ep_logic.specs.declared.ids.ActionId.{ActionId}
use Rattle.ep_logic.specs.declared.ids.AgentId.{AgentId}
use Rattle.ep_logic.specs.declared.ids.AtomId.{AtomId}
use Rattle.ep_theory.specs.Kripke.{Kripke, IsState}
use Rattle.ep_theory.specs.Events.{EventModel, IsAction}
use Rattle.ep_theory.specs.Product.{places, product_of}
use Rattle.ep_theory.proofs.lists.Bools.{and_parts, all_at}
use Rattle.ep_theory.proofs.lists.Lists.{All-from_each}
use Rattle.ep_theory.proofs.lists.Filters.{All-at}
use Rattle.ep_theory.proofs.kinds.FromKinds.{less_from_test}
use Rattle.ep_theory.proofs.formulas.TruthLemmas.{along}
use Rattle.ep_theory.proofs.actions.ProductLaws.{from_get}
use Rattle.ep_theory.specs.PlanningTask.{PlanningTask}
use Rattle.ep_base.specs.Refusals.{Reports}
use Rattle.ep_logic.specs.Numbers.{table}
use Rattle.ep_truth.specs.Labels.{atom_test}
use Rattle.ep_update.specs.Ahead.{openings}
use Rattle.ep_dynamic.specs.declared.node.DynNode.{DynNode}
use Rattle.ep_dynamic.specs.declared.node.DynNode.TheVariants.{True, False, Atom, Not, And, Or, Knows, Common, After}
use Rattle.ep_dynamic.specs.declared.truths.Ahead.{Ahead}
use Rattle.ep_dynamic.specs.declared.truths.DynFail.{DynFail}
use Rattle.ep_dynamic.specs.declared.truths.DynFail.TheVariants.{OutOfMemory}
use Rattle.ep_dynamic.specs.DynamicTruth.{no_action, action_at, DynTruth}
use Rattle.ep_dynamic.specs.DynamicFits.{fits_task}
use Rattle.ep_dynamic.specs.Made.{opened, spent_by}
use Rattle.ep_dynamic.specs.DynamicLabels.{SaysEach, SaysEither, spent, all_spent, Labels, LabelsEach, LabelsEither, FitsTask, IsAmong, IsTurned, IsKnown, IsShared, IsBehind, IsAhead}
use Rattle.ep_dynamic.proofs.DynamicLemmas.{dynamic-True, says_everywhere, says-False, says-Atom, says-Not, says-And, says-Or, says-Knows, says-Common, spent-True, spent-False, spent-Atom, spent-Not, spent-And, spent-Or, spent-Knows, spent-Common, spent-closed, spent-After, fits_task-Atom, fits_task-Not, fits_task-And, fits_task-Or, fits_task-Knows, fits_task-Common, fits_task-After, all_spent-drop}
use Rattle.ep_dynamic.proofs.BehindLemmas.{says-open, says-After, long_inner}

pub long_of : (T : PlanningTask) (S : Kripke) (f : DynNode) (r : Result (List Bool) DynFail) → Labels T S f r → IfOk r (λ row. length row ≡ S.worlds)
long_of T S f (Ok row) h = h.0.long
long_of T S f (Err e) h = tt

-- the action at a place of the task
pub action_is : (T : List EventModel) (a : ℕ) (A : EventModel) → slice_get T a ≡ Some A → A ≡ action_at T a
action_is T a A h = sym (from_get T a A no_action h).1

module _ (T : PlanningTask) (S : Kripke) where
  pub labels-True : (r : Result (List Bool) DynFail) → MatchResult r (λ row. row ≡ replicate S.worlds true) (λ e. e ≡ OutOfMemory) → Labels T S True r
  labels-True (Ok row) h = (says_everywhere S.worlds (λ w. DynTruth T.actions S w True) row h (λ w l. along (sym (dynamic-True T.actions S w)) tt), spent-True T S)
  labels-True (Err e) h = inl h

  pub labels-False : (r : Result (List Bool) DynFail) → MatchResult r (λ row. row ≡ replicate S.worlds false) (λ e. e ≡ OutOfMemory) → Labels T S False r
  labels-False (Ok row) h = (says-False T S S.worlds row refl h, spent-False T S)
  labels-False (Err e) h = inl h

  pub labels-Atom : (p : AtomId) (r : Result (List Bool) DynFail) → MatchResult r (λ row. row ≡ table (atom_test S p.n) S.worlds) (λ e. e ≡ OutOfMemory) → Labels T S (Atom p) r
  labels-Atom p (Ok row) h = (says-Atom T S p row h, spent-Atom T S p)
  labels-Atom p (Err e) h = inl h

  -- a refusal of a part is one of the whole
  refused : (f : DynNode) (o : Option DynFail) (inner : Result (List Bool) DynFail) (e : DynFail) → Labels T S f inner → o ≡ spent T S f → inner ≡ Err e → Reports OutOfMemory o e
  refused f o inner e u q h = subst (λ o. Reports OutOfMemory o e) (sym q) (subst (Labels T S f) h u)

  pub labels-Not : (f : DynNode) (inner r : Result (List Bool) DynFail) → Labels T S f inner → MatchResult r (IsTurned inner) (λ e. inner ≡ Err e) → Labels T S (Not f) r
  labels-Not f inner (Ok new) u h =
      let v = subst (Labels T S f) h.1 u in
      (says-Not T S f h.0 new v.0 h.2, spent-Not T S f ∙ v.1)
  labels-Not f inner (Err e) u h = refused f (spent T S (Not f)) inner e u (spent-Not T S f) h

  pub labels-And : (fs : List DynNode) (r : Result (List Bool) DynFail) → LabelsEach T S fs r → Labels T S (And fs) r
  labels-And fs (Ok row) h = (says-And T S fs row h.0, spent-And T S fs ∙ h.1)
  labels-And fs (Err e) h = subst (λ o. Reports OutOfMemory o e) (sym (spent-And T S fs)) h

  pub labels-Or : (fs : List DynNode) (r : Result (List Bool) DynFail) → LabelsEither T S fs r → Labels T S (Or fs) r
  labels-Or fs (Ok row) h = (says-Or T S fs row h.0, spent-Or T S fs ∙ h.1)
  labels-Or fs (Err e) h = subst (λ o. Reports OutOfMemory o e) (sym (spent-Or T S fs)) h

  pub labels-Knows : IsState S → (a : AgentId) (f : DynNode) (inner r : Result (List Bool) DynFail) → Labels T S f inner →
      MatchResult r (IsKnown S a.n inner) (λ e. (e ≡ OutOfMemory) ⊎ (inner ≡ Err e)) → Labels T S (Knows a f) r
  labels-Knows s a f inner (Ok new) u h =
      let v = subst (Labels T S f) h.1 u in
      (says-Knows T S s a f h.0 new v.0 h.2, spent-Knows T S a f ∙ v.1)
  labels-Knows s a f inner (Err e) u (inl q) = inl q
  labels-Knows s a f inner (Err e) u (inr q) = refused f (spent T S (Knows a f)) inner e u (spent-Knows T S a f) q

  pub labels-Common : IsState S → (g : List Bool) (f : DynNode) (inner r : Result (List Bool) DynFail) → Labels T S f inner →
      MatchResult r (IsShared S g inner) (λ e. (e ≡ OutOfMemory) ⊎ (inner ≡ Err e)) → Labels T S (Common g f) r
  labels-Common s g f inner (Ok new) u h =
      let v = subst (Labels T S f) h.1 u in
      (says-Common T S s g f h.0 new v.0 h.2.long h.2.each, spent-Common T S g f ∙ v.1)
  labels-Common s g f inner (Err e) u (inl q) = inl q
  labels-Common s g f inner (Err e) u (inr q) = refused f (spent T S (Common g f)) inner e u (spent-Common T S g f) q

  module _ (t : AllByRecursion IsAction T.actions) (s : IsState S) (a : ActionId) (f : DynNode) where
    pub labels-closed : (r : Result (List Bool) DynFail) → openings S (action_at T.actions a.n) ≡ [] → MatchResult r (λ row. row ≡ replicate S.worlds true) (λ e. e ≡ OutOfMemory) → Labels T S (After a f) r
    labels-closed (Ok row) none h = (says-open T t S s a f row none h, spent-closed T S a f none)
    labels-closed (Err e) none h = inl h

    pub labels-refused : (e : DynFail) → (e ≡ OutOfMemory) ⊎ ((openings S (action_at T.actions a.n) ≢ []) × (spent_by (product_of (opened S (action_at T.actions a.n)) (action_at T.actions a.n)) ≡ Some e)) → Reports OutOfMemory (spent T S (After a f)) e
    labels-refused e (inl q) = inl q
    labels-refused e (inr h) = inr (spent-After T S a f h.0 ∙ ap (λ o. option_or o (spent T (product_of (opened S (action_at T.actions a.n)) (action_at T.actions a.n)) f)) h.1)

    pub long_ahead : (h : Ahead) → IsAhead S (action_at T.actions a.n) h → (inner : Result (List Bool) DynFail) → Labels T h.product f inner → IfOk inner (λ row. length row ≡ length (places S (action_at T.actions a.n)))
    long_ahead h k (Ok row) u = long_inner T t S s a f h.product row k.product u.0
    long_ahead h k (Err e) u = tt

    spent_ahead : (h : Ahead) → IsAhead S (action_at T.actions a.n) h → spent T S (After a f) ≡ spent T h.product f
    spent_ahead h k =
        spent-After T S a f k.opens
        ∙ ap (λ o. option_or o (spent T (product_of (opened S (action_at T.actions a.n)) (action_at T.actions a.n)) f)) (ap spent_by (sym k.product) ∙ k.small)
        ∙ ap (λ P. spent T P f) (sym k.product)

    pub labels-After : (h : Ahead) → IsAhead S (action_at T.actions a.n) h → (inner r : Result (List Bool) DynFail) → Labels T h.product f inner →
        MatchResult r (IsBehind S (action_at T.actions a.n) inner) (λ e. (e ≡ OutOfMemory) ⊎ (inner ≡ Err e)) → Labels T S (After a f) r
    labels-After h k inner (Ok new) u m =
        let v = subst (Labels T h.product f) m.1 u in
        (says-After T t S s a f h.product m.0 new k.product v.0 m.2, spent_ahead h k ∙ v.1)
    labels-After h k inner (Err e) u (inl q) = inl q
    labels-After h k inner (Err e) u (inr q) = subst (λ o. Reports OutOfMemory o e) (sym (spent_ahead h k)) (subst (Labels T h.product f) q u)

-- what fits
module _ (T : PlanningTask) where
  pub fits-Atom : (p : AtomId) (S : Kripke) → IsAmong T S → FitsTask T (Atom p) → p.n < S.atoms
  fits-Atom p S b h = subst (λ n. p.n < n) (sym b.atoms) (less_from_test p.n T.initial.atoms (sym (fits_task-Atom T.initial.agents T.initial.atoms (length T.actions) p) ∙ h))

  pub fits-Not : (f : DynNode) → FitsTask T (Not f) → FitsTask T f
  fits-Not f h = sym (fits_task-Not T.initial.agents T.initial.atoms (length T.actions) f) ∙ h

  each_fits : (fs : List DynNode) → IsTrue (list_all (fits_task T.initial.agents T.initial.atoms (length T.actions)) fs) → AllByRecursion (FitsTask T) fs
  each_fits fs h = All-from_each (FitsTask T) fs (λ f i. all_at (fits_task T.initial.agents T.initial.atoms (length T.actions)) f fs h i)

  pub fits-And : (fs : List DynNode) → FitsTask T (And fs) → AllByRecursion (FitsTask T) fs
  fits-And fs h = each_fits fs (sym (fits_task-And T.initial.agents T.initial.atoms (length T.actions) fs) ∙ h)

  pub fits-Or : (fs : List DynNode) → FitsTask T (Or fs) → AllByRecursion (FitsTask T) fs
  fits-Or fs h = each_fits fs (sym (fits_task-Or T.initial.agents T.initial.atoms (length T.actions) fs) ∙ h)

  pub fits-Knows : (a : AgentId) (f : DynNode) → FitsTask T (Knows a f) → (a.n < T.initial.agents) × FitsTask T f
  fits-Knows a f h =
      let p = and_parts (nat_lt a.n T.initial.agents) (fits_task T.initial.agents T.initial.atoms (length T.actions) f) (sym (fits_task-Knows T.initial.agents T.initial.atoms (length T.actions) a f) ∙ h) in
      (less_from_test a.n T.initial.agents p.0, p.1)

  pub fits-Common : (g : List Bool) (f : DynNode) → FitsTask T (Common g f) → IsTrue (is_nobody (drop T.initial.agents g)) × FitsTask T f
  fits-Common g f h = and_parts (is_nobody (drop T.initial.agents g)) (fits_task T.initial.agents T.initial.atoms (length T.actions) f) (sym (fits_task-Common T.initial.agents T.initial.atoms (length T.actions) g f) ∙ h)

  pub fits-After : (a : ActionId) (f : DynNode) → FitsTask T (After a f) → (a.n < length T.actions) × FitsTask T f
  fits-After a f h =
      let p = and_parts (nat_lt a.n (length T.actions)) (fits_task T.initial.agents T.initial.atoms (length T.actions) f) (sym (fits_task-After T.initial.agents T.initial.atoms (length T.actions) a f) ∙ h) in
      (less_from_test a.n (length T.actions) p.0, p.1)

-- the same for an action that the task has at the place
module _ (T : PlanningTask) (S : Kripke) (t : AllByRecursion IsAction T.actions) (s : IsState S) (a : ActionId) (f : DynNode) (A : EventModel) (at : slice_get T.actions a.n ≡ Some A) where
  here : A ≡ action_at T.actions a.n
  here = action_is T.actions a.n A at

  pub closed_at : (r : Result (List Bool) DynFail) → openings S A ≡ [] → MatchResult r (λ row. row ≡ replicate S.worlds true) (λ e. e ≡ OutOfMemory) → Labels T S (After a f) r
  closed_at r none h = labels-closed T S t s a f r (ap (openings S) (sym here) ∙ none) h

  pub refused_at : (e : DynFail) → (e ≡ OutOfMemory) ⊎ ((openings S A ≢ []) × (spent_by (product_of (opened S A) A) ≡ Some e)) → Reports OutOfMemory (spent T S (After a f)) e
  refused_at e h = labels-refused T S t s a f e (subst (λ A. (e ≡ OutOfMemory) ⊎ ((openings S A ≢ []) × (spent_by (product_of (opened S A) A) ≡ Some e))) here h)

  pub long_at : (h : Ahead) → IsAhead S A h → (inner : Result (List Bool) DynFail) → Labels T h.product f inner → IfOk inner (λ row. length row ≡ length (places S A))
  long_at h k inner u = subst (λ A. IfOk inner (λ row. length row ≡ length (places S A))) (sym here) (long_ahead T S t s a f h (subst (λ A. IsAhead S A h) here k) inner u)

  pub after_at : (h : Ahead) → IsAhead S A h → (inner r : Result (List Bool) DynFail) → Labels T h.product f inner →
      MatchResult r (IsBehind S A inner) (λ e. (e ≡ OutOfMemory) ⊎ (inner ≡ Err e)) → Labels T S (After a f) r
  after_at h k inner r u m = labels-After T S t s a f h (subst (λ A. IsAhead S A h) here k) inner r u (subst (λ A. MatchResult r (IsBehind S A inner) (λ e. (e ≡ OutOfMemory) ⊎ (inner ≡ Err e))) here m)

-- what a pattern takes out of an answer
pub some_is : {X : Type 0} (P : Type 0) (Q : X → Type 0) (o : Option X) (x : X) → o ≡ Some x → MatchOption o P Q → Q x
some_is P Q o x e h = subst (λ o. MatchOption o P Q) e h

pub none_is : {X : Type 0} (P : Type 0) (Q : X → Type 0) (o : Option X) → o ≡ None → MatchOption o P Q → P
none_is P Q o e h = subst (λ o. MatchOption o P Q) e h

take_all : {X : Type 0} (xs : List X) (i : ℕ) → length xs ≤ i → take i xs ≡ xs
take_all [] zero l = refl
take_all [] (suc i) l = refl
take_all (x ∷ xs) zero l = absurd (omega arith)
take_all (x ∷ xs) (suc i) l = ap (λ ys. x ∷ ys) (take_all xs i (omega arith))

drop_all : {X : Type 0} (xs : List X) (i : ℕ) → length xs ≤ i → drop i xs ≡ []
drop_all [] zero l = refl
drop_all [] (suc i) l = refl
drop_all (x ∷ xs) zero l = absurd (omega arith)
drop_all (x ∷ xs) (suc i) l = drop_all xs i (omega arith)

option_or-Some : {X : Type 0} (o u : Option X) (x : X) → o ≡ Some x → option_or o u ≡ Some x
option_or-Some o u x h = ap (λ o. option_or o u) h

-- the loop over parts
module _ (T : PlanningTask) (S : Kripke) (fs : List DynNode) where
  pub part_refused : (i : ℕ) (d : DynNode) (e : DynFail) → i < length fs → all_spent T S fs ≡ all_spent T S (drop i fs) → Reports OutOfMemory (spent T S (get_or fs i d)) e → Reports OutOfMemory (all_spent T S fs) e
  part_refused i d e l h (inl q) = inl q
  part_refused i d e l h (inr q) = inr (h ∙ all_spent-drop T S fs i d l ∙ option_or-Some (spent T S (get_or fs i d)) (all_spent T S (drop (suc i) fs)) e q)

  pub part_made : (i : ℕ) (d : DynNode) → i < length fs → all_spent T S fs ≡ all_spent T S (drop i fs) → spent T S (get_or fs i d) ≡ None → all_spent T S fs ≡ all_spent T S (drop (i + 1) fs)
  part_made i d l h q =
      let n : suc i ≡ i + 1 = omega arith in
      h ∙ all_spent-drop T S fs i d l ∙ ap (λ o. option_or o (all_spent T S (drop (suc i) fs))) q ∙ ap (λ j. all_spent T S (drop j fs)) n

  pub each_end : (i : ℕ) (row : List Bool) → length fs ≤ i → SaysEach T S (take i fs) row → all_spent T S fs ≡ all_spent T S (drop i fs) → SaysEach T S fs row × (all_spent T S fs ≡ None)
  each_end i row l s h = (subst (λ gs. SaysEach T S gs row) (take_all fs i l) s, h ∙ ap (all_spent T S) (drop_all fs i l))

  pub either_end : (i : ℕ) (row : List Bool) → length fs ≤ i → SaysEither T S (take i fs) row → all_spent T S fs ≡ all_spent T S (drop i fs) → SaysEither T S fs row × (all_spent T S fs ≡ None)
  either_end i row l s h = (subst (λ gs. SaysEither T S gs row) (take_all fs i l) s, h ∙ ap (all_spent T S) (drop_all fs i l))

pub part_fits : (T : PlanningTask) (fs : List DynNode) (i : ℕ) (d : DynNode) → i < length fs → AllByRecursion (FitsTask T) fs → FitsTask T (get_or fs i d)
part_fits T fs i d l h = All-at (FitsTask T) fs i d l h
