-- The four named kinds of action are actions.
use Rattle.std.proofs.Common.{ℕ, zero, suc, ◌<◌, Bool, true, false, List, [], ◌∷◌, cond, IsTrue, refl, sym, subst, arith, ◌↔◌}
use Rattle.std.specs.List.{AllByRecursion}
use Rattle.ep_logic.specs.declared.formula.Node.{Node}
use Rattle.ep_logic.specs.AgentSets.{Has}
use Rattle.ep_theory.specs.Rising.{IsRising}
use Rattle.ep_logic.specs.Numbers.{table}
use Rattle.ep_theory.specs.Kripke.{pair_cmp}
use Rattle.ep_theory.specs.Events.{IsAction, AreDistinct}
use Rattle.ep_theory.specs.FourActions.{announce, private, sense, assign}
use Rattle.ep_logic.specs.Rows.{value_at}
use Rattle.ep_theory.proofs.lists.Lists.{All-from_each}
use Rattle.ep_theory.proofs.lists.NumbersLemmas.{from_table}

-- what holds of each row holds of a table
all_rows : {A : Type 0} (P : A → Type 0) (f : ℕ → A) (n : ℕ) → ((a : ℕ) → P (f a)) → AllByRecursion P (table f n)
all_rows P f n h = All-from_each P (table f n) (λ y i. let r = from_table f n y i in subst P (sym r.2) (h r.0))

abbrev IsOrdered : List (ℕ × ℕ) → Type 0
IsOrdered pairs = IsRising pair_cmp pairs

abbrev AreBelow : ℕ → List (ℕ × ℕ) → Type 0
AreBelow n pairs = AllByRecursion (λ (p : ℕ × ℕ). (p.0 < n) × (p.1 < n)) pairs

either_way : (P : List (ℕ × ℕ) → Type 0) (b : Bool) (x y : List (ℕ × ℕ)) → P x → P y → P (cond b x y)
either_way P true x y p q = p
either_way P false x y p q = q

pub assign_is : (n : ℕ) (f : Node) (sets : List (ℕ × Node)) → AreDistinct sets → IsAction (assign n f sets)
assign_is n f sets d = record {
  some_event = omega arith;
  few_events = omega arith;
  distinct = (d, tt);
  rising = all_rows IsOrdered (λ a. (0, 0) ∷ []) n (λ a. (tt, tt));
  within = all_rows (AreBelow 1) (λ a. (0, 0) ∷ []) n (λ a. ((omega arith, omega arith), tt));
  designated_rising = (tt, tt);
  designated_within = (omega arith, tt);
  some_designated = λ h. cc;
}

pub announce_is : (n : ℕ) (f : Node) → IsAction (announce n f)
announce_is n f = assign_is n f [] tt

pub private_is : (n : ℕ) (f : Node) (g : List Bool) → IsAction (private n f g)
private_is n f g = record {
  some_event = omega arith;
  few_events = omega arith;
  distinct = (tt, (tt, tt));
  rising = all_rows IsOrdered (λ a. cond (value_at g a) ((0, 0) ∷ (1, 1) ∷ []) ((0, 1) ∷ (1, 1) ∷ [])) n
      (λ a. either_way IsOrdered (value_at g a) ((0, 0) ∷ (1, 1) ∷ []) ((0, 1) ∷ (1, 1) ∷ []) ((refl, tt), (tt, tt)) ((refl, tt), (tt, tt)));
  within = all_rows (AreBelow 2) (λ a. cond (value_at g a) ((0, 0) ∷ (1, 1) ∷ []) ((0, 1) ∷ (1, 1) ∷ [])) n
      (λ a. either_way (AreBelow 2) (value_at g a) ((0, 0) ∷ (1, 1) ∷ []) ((0, 1) ∷ (1, 1) ∷ [])
      ((omega arith, omega arith), ((omega arith, omega arith), tt)) ((omega arith, omega arith), ((omega arith, omega arith), tt)));
  designated_rising = (tt, tt);
  designated_within = (omega arith, tt);
  some_designated = λ h. cc;
}

pub sense_is : (n : ℕ) (f : Node) (g : List Bool) → IsAction (sense n f g)
sense_is n f g = record {
  some_event = omega arith;
  few_events = omega arith;
  distinct = (tt, (tt, tt));
  rising = all_rows IsOrdered (λ a. cond (value_at g a) ((0, 0) ∷ (1, 1) ∷ []) ((0, 0) ∷ (0, 1) ∷ (1, 0) ∷ (1, 1) ∷ [])) n
      (λ a. either_way IsOrdered (value_at g a) ((0, 0) ∷ (1, 1) ∷ []) ((0, 0) ∷ (0, 1) ∷ (1, 0) ∷ (1, 1) ∷ []) ((refl, tt), (tt, tt))
      ((refl, (refl, (refl, tt))), ((refl, (refl, tt)), ((refl, tt), (tt, tt)))));
  within = all_rows (AreBelow 2) (λ a. cond (value_at g a) ((0, 0) ∷ (1, 1) ∷ []) ((0, 0) ∷ (0, 1) ∷ (1, 0) ∷ (1, 1) ∷ [])) n
      (λ a. either_way (AreBelow 2) (value_at g a) ((0, 0) ∷ (1, 1) ∷ []) ((0, 0) ∷ (0, 1) ∷ (1, 0) ∷ (1, 1) ∷ [])
      ((omega arith, omega arith), ((omega arith, omega arith), tt))
      ((omega arith, omega arith), ((omega arith, omega arith), ((omega arith, omega arith), ((omega arith, omega arith), tt)))));
  designated_rising = ((refl, tt), (tt, tt));
  designated_within = (omega arith, (omega arith, tt));
  some_designated = λ h. cc;
}

-- the two tests of membership in a group are one
pub member_has : (g : List Bool) (a : ℕ) → IsTrue (value_at g a) ↔ Has g a
member_has [] a = (λ h. cc, λ h. cc)
member_has (b ∷ g) zero = (λ h. cc, λ h. cc)
member_has (b ∷ g) (suc a) = member_has g a
