-- The parts of a formula within the limits are within them.
use Rattle.std.proofs.Common.{◌≡◌, ℕ, zero, suc, ◌+◌, ◌<◌, ◌≤◌, Bool, true, false, ◌&&◌, nat_le, List, [], ◌∷◌, length, map, sum, get_or, IsTrue, refl, sym, ap, ◌∙◌, subst, arith}
use Rattle.std.specs.List.{list_all}
use Rattle.std.proofs.lemmas.List.Sums.{sum-map, sum_by-append}
use Rattle.std.proofs.lemmas.Bool.{false≢true}
use Rattle.std.proofs.lemmas.Bool.Decides.{nat_tests}
use Rattle.ep_logic.specs.declared.formula.Node.{Node}
use Rattle.ep_logic.specs.declared.formula.Node.TheOpen.{Node-F}
use Rattle.ep_logic.specs.declared.formula.Node.TheVariants.{And, Or}
use Rattle.ep_logic.specs.declared.formula.Node.TheFolds.{fold-roll-Node, ind-Node}
use Rattle.ep_logic.specs.Nodes.{node_count, count_step, is_formed}
use Rattle.ep_logic.proofs.CallerLemmas.{count-And, count-Or, formed-And, formed-Or}

step_some : (x : Node-F ℕ) → 1 ≤ count_step x
step_some Node-F.True = omega arith
step_some Node-F.False = omega arith
step_some (Node-F.Atom a) = omega arith
step_some (Node-F.Not n) = omega arith
step_some (Node-F.And ns) = omega arith
step_some (Node-F.Or ns) = omega arith
step_some (Node-F.Knows a n) = omega arith
step_some (Node-F.Common g n) = omega arith

some_node : (n : Node) → 1 ≤ node_count n
some_node = ind-Node (λ n. 1 ≤ node_count n) (λ x y e. subst (λ k. 1 ≤ k) (sym (fold-roll-Node ℕ count_step x)) (step_some _))

sum_more : (f : Node → ℕ) (n : Node) (ns : List Node) → sum (map f (n ∷ ns)) ≡ f n + sum (map f ns)
sum_more f n ns = omega (arith, sum-map f (n ∷ ns), sum_by-append f (n ∷ []) ns, sum-map f ns)

pub few_parts : (ns : List Node) → length ns ≤ sum (map node_count ns)
few_parts [] = omega arith
few_parts (n ∷ ns) = omega (arith, some_node n, few_parts ns, sum_more node_count n ns)

both_true : (a b : Bool) → IsTrue (a && b) → IsTrue a × IsTrue b
both_true true b h = (refl, h)
both_true false b h = absurd (false≢true h)

pub record AreWithin (ns : List Node) : Type 0 where
  pub many : 2 ≤ length ns
  pub formed : IsTrue (list_all is_formed ns)
  pub small : sum (map node_count ns) ≤ 131072

two : (n : ℕ) → IsTrue (nat_le 2 n) → 2 ≤ n
two n h = grind (arith, nat_tests)

within : (ns : List Node) (n : Node) → is_formed n ≡ (nat_le 2 (length ns) && list_all is_formed ns) → node_count n ≡ sum (map node_count ns) + 1 → IsTrue (is_formed n) → node_count n ≤ 131072 → AreWithin ns
within ns n e f formed small =
    let h = both_true (nat_le 2 (length ns)) (list_all is_formed ns) (subst IsTrue e formed) in
    record { many = two (length ns) h.0; formed = h.1; small = omega arith }

pub parts_of_And : (ns : List Node) (n : Node) → n ≡ And ns → IsTrue (is_formed n) → node_count n ≤ 131072 → AreWithin ns
parts_of_And ns n e = within ns n (ap is_formed e ∙ formed-And ns) (ap node_count e ∙ count-And ns)

pub parts_of_Or : (ns : List Node) (n : Node) → n ≡ Or ns → IsTrue (is_formed n) → node_count n ≤ 131072 → AreWithin ns
parts_of_Or ns n e = within ns n (ap is_formed e ∙ formed-Or ns) (ap node_count e ∙ count-Or ns)

pub part_formed : (ns : List Node) (i : ℕ) (d : Node) → i < length ns → IsTrue (list_all is_formed ns) → IsTrue (is_formed (get_or ns i d))
part_formed [] i d lt h = absurd (omega arith)
part_formed (n ∷ ns) zero d lt h = (both_true (is_formed n) (list_all is_formed ns) h).0
part_formed (n ∷ ns) (suc i) d lt h = part_formed ns i d (omega arith) (both_true (is_formed n) (list_all is_formed ns) h).1

pub part_small : (ns : List Node) (i : ℕ) (d : Node) → i < length ns → node_count (get_or ns i d) ≤ sum (map node_count ns)
part_small [] i d lt = absurd (omega arith)
part_small (n ∷ ns) zero d lt = omega (arith, sum_more node_count n ns)
part_small (n ∷ ns) (suc i) d lt = omega (arith, sum_more node_count n ns, part_small ns i d (omega arith))
