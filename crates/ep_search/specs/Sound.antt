-- What a search keeps true.
use Rattle.std.specs.Prelude.{◌≡◌, ℕ, ◌+◌, ◌<◌, ◌≤◌, List, Option, Some, None, slice_get}
use Rattle.ep_bounds.specs.declared.bounds.Bounds.{Bounds}
use Rattle.ep_bounds.specs.declared.bounds.Measure.{Measure}
use Rattle.ep_theory.specs.Kripke.{Kripke}
use Rattle.ep_logic.specs.declared.ids.ActionId.{ActionId}
use Rattle.ep_search.specs.Alike.{Alike}
use Rattle.ep_search.specs.Tolls.{toll_of}
use Rattle.ep_theory.specs.Canonical.{IsCanonical}
use Rattle.ep_theory.specs.Plans.{step, weight, Reaches}
use Rattle.ep_theory.specs.Truth.{Satisfies}
use Rattle.ep_theory.specs.PlanningTask.{PlanningTask}
use Rattle.ep_store.specs.declared.entry.Entry.{Entry}
use Rattle.ep_store.specs.declared.entry.Step.{Step}
use Rattle.ep_store.specs.Stored.{Has, AreDistinct}

-- the action leads from each state that is bisimilar to c to one that is bisimilar to b
abbrev pub Leads : PlanningTask → Kripke → ActionId → Kripke → Type 0
Leads T c a b = (R : Kripke) → Alike c R → (S : Kripke) × (step T R a ≡ Some S) × Alike S b

-- the action is not applicable in any state that is bisimilar to c
abbrev pub Refuses : PlanningTask → Kripke → ActionId → Type 0
Refuses T c a = (R : Kripke) → Alike c R → step T R a ≡ None

-- the step has the toll of its action, which is at least 1
pub record IsStep (T : PlanningTask) (m : Measure) (s : Step) : Type 0 where
  pub toll : s.toll ≡ toll_of T m s.action
  pub some : 1 ≤ s.toll

-- the state of an entry is the initial one, or a step leads to it from an entry whose weight is less by the toll or more
abbrev pub Origin : PlanningTask → Measure → List Entry → Entry → Option Step → Type 0
Origin T m es e None = Alike T.initial e.canon
Origin T m es e (Some s) = IsStep T m s × Has es s.parent.n (λ f. (f.weight + s.toll ≤ e.weight) × Leads T f.canon s.action e.canon)

pub record IsMet (T : PlanningTask) (b : Bounds) (es : List Entry) (e : Entry) : Type 0 where
  pub canonical : IsCanonical e.canon
  pub unmet : Satisfies e.canon T.goal → ⊥
  pub within : e.weight ≤ b.bound
  pub narrow : e.canon.worlds ≤ b.worlds
  pub origin : Origin T b.measure es e e.from

pub record IsSound (T : PlanningTask) (b : Bounds) (es : List Entry) : Type 0 where
  pub first : Has es 0 (λ e. (e.weight ≡ 0) × Alike T.initial e.canon)
  pub each : (i : ℕ) (e : Entry) → slice_get es i ≡ Some e → IsMet T b es e
  pub distinct : AreDistinct es

-- the best plan, and its weight; one more than the bound where there is none
abbrev pub IsBest : PlanningTask → Bounds → ℕ → Option (List ActionId) → Type 0
IsBest T b k None = k ≡ b.bound + 1
IsBest T b k (Some q) = (weight T b.measure q ≡ k) × (k ≤ b.bound) × Reaches T q

-- The action was tried in a state of weight n, or need not be: it is not applicable, it leads past the bound or to no plan
-- that is better than the best one, or what it leads to is stored.
pub data Settled (T : PlanningTask) (b : Bounds) (es : List Entry) (least : ℕ) (c : Kripke) (n : ℕ) (a : ActionId) : Type 0 where
  refused : Refuses T c a → Settled T b es least c n a
  far : b.bound < n + toll_of T b.measure a → Settled T b es least c n a
  late : least ≤ n + toll_of T b.measure a → Settled T b es least c n a
  stored : (j : ℕ) → Has es j (λ f. (f.weight ≤ n + toll_of T b.measure a) × Leads T c a f.canon) → Settled T b es least c n a
