-- The four named kinds, as they are put together.
use Rattle.std.proofs.Common.{◌≡◌, ℕ, ◌≤◌, Bool, true, false, cond, List, [], ◌∷◌, map, length, refl, sym, ◌∙◌, ap, subst, arith, ◌↔◌, IsTrue, None}
use Rattle.std.specs.List.{AllByRecursion}
use Rattle.ep_logic.specs.AgentSets.{Has}
use Rattle.ep_logic.specs.declared.formula.Node.{Node}
use Rattle.ep_logic.specs.declared.formula.Node.TheVariants.{True, Not}
use Rattle.ep_event.specs.declared.parts.Assign.{Assign}
use Rattle.ep_event.specs.declared.parts.EventParts.{EventParts}
use Rattle.ep_event.specs.Built.{set_of}
use Rattle.ep_event.specs.Refusals.{repeated_atom}
use Rattle.ep_event.specs.Relations.{action_of, two_rows, IsSound}
use Rattle.ep_theory.specs.Relations.{all_pairs}
use Rattle.ep_event.proofs.RepeatLemmas.{are_distinct}
use Rattle.ep_logic.proofs.CallerLemmas.{map-table, table-same, length-table}
use Rattle.ep_logic.specs.Numbers.{table}
use Rattle.ep_theory.specs.Events.{EventModel, IsAction}
use Rattle.ep_theory.specs.FourActions.{private, sense, assign}
use Rattle.ep_logic.specs.Rows.{value_at}
use Rattle.ep_theory.proofs.CallerLemmas.{All-from_each, from_table, assign_is, private_is, sense_is, member_has}

-- the test of membership is the one of the definitions
pub has_is_member : (b : Bool) (g : List Bool) (a : ℕ) → (IsTrue b ↔ Has g a) → b ≡ value_at g a
has_is_member true g a h = sym ((member_has g a).1 (h.0 refl))
has_is_member false g a h = unset (value_at g a) (λ t. h.1 ((member_has g a).0 t))
  where
    unset : (c : Bool) → (IsTrue c → IsTrue false) → false ≡ c
    unset true f = absurd (cc (f refl))
    unset false f = refl

each_row : (events : List EventParts) (f : ℕ → List (List ℕ)) (n : ℕ) → ((a : ℕ) → length (f a) ≡ length events) → AllByRecursion (λ rows. length rows ≡ length events) (table f n)
each_row events f n h = All-from_each (λ (rows : List (List ℕ)). length rows ≡ length events) (table f n) (λ rows i. let r = from_table f n rows i in ap length r.2 ∙ h r.0)

abbrev loop_rows : ℕ → List (List ℕ)
loop_rows a = (0 ∷ []) ∷ []

loop_pairs : (n : ℕ) → map all_pairs (table loop_rows n) ≡ table (λ _. (0, 0) ∷ []) n
loop_pairs n = map-table all_pairs loop_rows n

pub assign_put_together : (n : ℕ) (f : Node) (sets : List Assign) (events : List EventParts) (relations : List (List (List ℕ))) (designated : List ℕ) →
    events ≡ record { pre = f; sets = sets } ∷ [] → relations ≡ table (λ _. (0 ∷ []) ∷ []) n → designated ≡ 0 ∷ [] → action_of events relations designated ≡ assign n f (map set_of sets)
assign_put_together n f sets events relations designated e r d = rw (e, r, d, loop_pairs n) refl

pub assign_is_sound : (n : ℕ) (f : Node) (sets : List Assign) (events : List EventParts) (relations : List (List (List ℕ))) (designated : List ℕ) →
    events ≡ record { pre = f; sets = sets } ∷ [] → relations ≡ table (λ _. (0 ∷ []) ∷ []) n → designated ≡ 0 ∷ [] → repeated_atom sets ≡ None → n ≤ 8 → IsSound events relations designated
assign_is_sound n f sets events relations designated e r d none few = record {
  action = subst IsAction (sym (assign_put_together n f sets events relations designated e r d)) (assign_is n f (map set_of sets) (are_distinct sets none));
  few_agents = omega (arith, ap length r, length-table loop_rows n, few);
  rows = rw (r, e) (each_row (record { pre = f; sets = sets } ∷ []) loop_rows n (λ a. refl));
}

abbrev both_events : Node → Node → List EventParts
both_events f g = record { pre = f; sets = [] } ∷ record { pre = g; sets = [] } ∷ []

-- the relations of two events
abbrev apart : List Bool → List ℕ → ℕ → List (List ℕ)
apart g seen a = two_rows (value_at g a) seen

length-two_rows : (b : Bool) (seen : List ℕ) → length (two_rows b seen) ≡ 2
length-two_rows true seen = refl
length-two_rows false seen = refl

two_pairs : (b : Bool) (seen : List ℕ) → all_pairs (two_rows b seen) ≡ cond b ((0, 0) ∷ (1, 1) ∷ []) (all_pairs (seen ∷ seen ∷ []))
two_pairs true seen = refl
two_pairs false seen = refl

pub apart_pairs : (g : List Bool) (seen : List ℕ) (n : ℕ) → map all_pairs (table (apart g seen) n) ≡ table (λ a. cond (value_at g a) ((0, 0) ∷ (1, 1) ∷ []) (all_pairs (seen ∷ seen ∷ []))) n
apart_pairs g seen n =
    map-table all_pairs (apart g seen) n
    ∙ table-same (λ a. all_pairs (apart g seen a)) (λ a. cond (value_at g a) ((0, 0) ∷ (1, 1) ∷ []) (all_pairs (seen ∷ seen ∷ []))) n (λ a _. two_pairs (value_at g a) seen)

two_events_are_sound : (n : ℕ) (f h : Node) (g : List Bool) (seen : List ℕ) (A : EventModel) (events : List EventParts) (relations : List (List (List ℕ))) (designated : List ℕ) →
    events ≡ both_events f h → relations ≡ table (apart g seen) n → action_of events relations designated ≡ A → IsAction A → n ≤ 8 → IsSound events relations designated
two_events_are_sound n f h g seen A events relations designated e r same valid few = record {
  action = subst IsAction (sym same) valid;
  few_agents = omega (arith, ap length r, length-table (apart g seen) n, few);
  rows = rw (r, e) (each_row (both_events f h) (apart g seen) n (λ a. length-two_rows (value_at g a) seen));
}

pub private_put_together : (n : ℕ) (f : Node) (g : List Bool) (events : List EventParts) (relations : List (List (List ℕ))) (designated : List ℕ) →
    events ≡ both_events f True → relations ≡ table (λ a. two_rows (value_at g a) (1 ∷ [])) n → designated ≡ 0 ∷ [] → action_of events relations designated ≡ private n f g
private_put_together n f g events relations designated e r d = rw (e, r, d, apart_pairs g (1 ∷ []) n) refl

pub private_is_sound : (n : ℕ) (f : Node) (g : List Bool) (events : List EventParts) (relations : List (List (List ℕ))) (designated : List ℕ) →
    events ≡ both_events f True → relations ≡ table (λ a. two_rows (value_at g a) (1 ∷ [])) n → designated ≡ 0 ∷ [] → n ≤ 8 → IsSound events relations designated
private_is_sound n f g events relations designated e r d few =
    two_events_are_sound n f True g (1 ∷ []) (private n f g) events relations designated e r (private_put_together n f g events relations designated e r d) (private_is n f g) few

pub sense_put_together : (n : ℕ) (f : Node) (g : List Bool) (events : List EventParts) (relations : List (List (List ℕ))) (designated : List ℕ) →
    events ≡ both_events f (Not f) → relations ≡ table (λ a. two_rows (value_at g a) (0 ∷ 1 ∷ [])) n → designated ≡ 0 ∷ 1 ∷ [] → action_of events relations designated ≡ sense n f g
sense_put_together n f g events relations designated e r d = rw (e, r, d, apart_pairs g (0 ∷ 1 ∷ []) n) refl

pub sense_is_sound : (n : ℕ) (f : Node) (g : List Bool) (events : List EventParts) (relations : List (List (List ℕ))) (designated : List ℕ) →
    events ≡ both_events f (Not f) → relations ≡ table (λ a. two_rows (value_at g a) (0 ∷ 1 ∷ [])) n → designated ≡ 0 ∷ 1 ∷ [] → n ≤ 8 → IsSound events relations designated
sense_is_sound n f g events relations designated e r d few =
    two_events_are_sound n f (Not f) g (0 ∷ 1 ∷ []) (sense n f g) events relations designated e r (sense_put_together n f g events relations designated e r d) (sense_is n f g) few
