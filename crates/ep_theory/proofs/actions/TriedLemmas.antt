-- Equivalences by trying every pair.
use Rattle.std.proofs.Common.{ℕ, ◌<◌, Bool, List, ◌&&◌, ◌↔◌, IsTrue, sym, subst}
use Rattle.std.specs.List.{list_all}
use Rattle.ep_logic.specs.Numbers.{has_pair, table}
use Rattle.ep_logic.proofs.CallerLemmas.{get_or-table, length-table}
use Rattle.ep_theory.specs.Rising.{IsIn}
use Rattle.ep_theory.specs.Kripke.{successors}
use Rattle.ep_theory.specs.Equivalences.{IsEquivalence, is_equivalence}
use Rattle.ep_theory.proofs.lists.Bools.{all_at, and_parts, and_whole, to_all}
use Rattle.ep_theory.proofs.lists.Filters.{IsIn-at}
use Rattle.ep_theory.proofs.lists.Lists.{IsIn-successors, from_successors}
use Rattle.ep_theory.proofs.lists.NumbersLemmas.{from_has_pair, from_table, to_has_pair}

-- each number below n stands in the table of them
in_table : (n w : ℕ) → w < n → IsIn w (table (λ w. w) n)
in_table n w l =
    subst (λ k. IsIn k (table (λ w. w) n)) (get_or-table (λ w. w) n w 0 l)
    (IsIn-at (table (λ w. w) n) w 0 (subst (λ k. w < k) (sym (length-table (λ w. w) n)) l))

module _ (n : ℕ) (pairs : List (ℕ × ℕ)) where
  abbrev loops : ℕ → Bool
  loops w = has_pair pairs w w

  abbrev turns : ℕ × ℕ → Bool
  turns p = has_pair pairs p.1 p.0

  abbrev leads : ℕ × ℕ → Bool
  leads p = list_all (λ u. has_pair pairs p.0 u) (successors pairs p.1)

  from_tried : IsTrue (list_all loops (table (λ w. w) n)) → IsTrue (list_all turns pairs) → IsTrue (list_all leads pairs) → IsEquivalence n pairs
  from_tried r s t = record {
    reflexive = λ w l. from_has_pair pairs w w (all_at loops w (table (λ w. w) n) r (in_table n w l));
    symmetric = λ w v i. from_has_pair pairs v w (all_at turns (w, v) pairs s i);
    transitive = λ w v u i j. from_has_pair pairs w u
        (all_at (λ u. has_pair pairs w u) u (successors pairs v) (all_at leads (w, v) pairs t i) (IsIn-successors v u pairs j));
  }

  module _ (e : IsEquivalence n pairs) where
    all_loop : IsTrue (list_all loops (table (λ w. w) n))
    all_loop = to_all loops (table (λ w. w) n) (λ w i.
        let r = from_table (λ w. w) n w i in
        to_has_pair pairs w w (e.reflexive w (subst (λ k. k < n) (sym r.2) r.1)))

    all_turn : IsTrue (list_all turns pairs)
    all_turn = to_all turns pairs (λ p i. to_has_pair pairs p.1 p.0 (e.symmetric p.0 p.1 i))

    all_lead : IsTrue (list_all leads pairs)
    all_lead = to_all leads pairs (λ p i. to_all (λ u. has_pair pairs p.0 u) (successors pairs p.1) (λ u j.
        to_has_pair pairs p.0 u (e.transitive p.0 p.1 u i (from_successors p.1 u pairs j))))

  pub equivalences_are_tried : IsTrue (is_equivalence n pairs) ↔ IsEquivalence n pairs
  equivalences_are_tried = (
    (λ h.
        let first = and_parts (list_all loops (table (λ w. w) n) && list_all turns pairs) (list_all leads pairs) h in
        let parts = and_parts (list_all loops (table (λ w. w) n)) (list_all turns pairs) first.0 in
        from_tried parts.0 parts.1 first.1),
    (λ e. and_whole (list_all loops (table (λ w. w) n) && list_all turns pairs) (list_all leads pairs)
        (and_whole (list_all loops (table (λ w. w) n)) (list_all turns pairs) (all_loop e) (all_turn e)) (all_lead e)),
  )
