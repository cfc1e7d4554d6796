-- The equations of the folds over nodes, variant by variant.
use Rattle.std.proofs.Common.{◌≡◌, ℕ, ◌+◌, Bool, List, map, sum, ap, ◌∙◌, sym}
use Rattle.ep_logic.specs.declared.ids.AgentId.{AgentId}
use Rattle.ep_logic.specs.declared.ids.AtomId.{AtomId}
use Rattle.ep_logic.specs.declared.formula.Node.{Node}
use Rattle.ep_logic.specs.declared.formula.Node.TheOpen.{Node-F}
use Rattle.ep_logic.specs.declared.formula.Node.TheVariants as node
use Rattle.ep_logic.specs.declared.formula.Node.TheFolds.{fold-roll-Node}
use Rattle.ep_logic.specs.Nodes.{node_count, count_step, depth_of, depth_step}
use Rattle.ep_base.specs.Numbers.{largest}

pub count-True : node_count node.True ≡ 1
count-True = ap node_count (sym node.rolls-True) ∙ fold-roll-Node ℕ count_step Node-F.True

pub count-False : node_count node.False ≡ 1
count-False = ap node_count (sym node.rolls-False) ∙ fold-roll-Node ℕ count_step Node-F.False

pub count-Atom : (a : AtomId) → node_count (node.Atom a) ≡ 1
count-Atom a = ap node_count (sym (node.rolls-Atom a)) ∙ fold-roll-Node ℕ count_step (Node-F.Atom a)

pub count-Not : (n : Node) → node_count (node.Not n) ≡ node_count n + 1
count-Not n = ap node_count (sym (node.rolls-Not n)) ∙ fold-roll-Node ℕ count_step (Node-F.Not n)

pub count-And : (ns : List Node) → node_count (node.And ns) ≡ sum (map node_count ns) + 1
count-And ns = ap node_count (sym (node.rolls-And ns)) ∙ fold-roll-Node ℕ count_step (Node-F.And ns)

pub count-Or : (ns : List Node) → node_count (node.Or ns) ≡ sum (map node_count ns) + 1
count-Or ns = ap node_count (sym (node.rolls-Or ns)) ∙ fold-roll-Node ℕ count_step (Node-F.Or ns)

pub count-Knows : (a : AgentId) (n : Node) → node_count (node.Knows a n) ≡ node_count n + 1
count-Knows a n = ap node_count (sym (node.rolls-Knows a n)) ∙ fold-roll-Node ℕ count_step (Node-F.Knows a n)

pub count-Common : (g : List Bool) (n : Node) → node_count (node.Common g n) ≡ node_count n + 1
count-Common g n = ap node_count (sym (node.rolls-Common g n)) ∙ fold-roll-Node ℕ count_step (Node-F.Common g n)

pub depth-True : depth_of node.True ≡ 1
depth-True = ap depth_of (sym node.rolls-True) ∙ fold-roll-Node ℕ depth_step Node-F.True

pub depth-False : depth_of node.False ≡ 1
depth-False = ap depth_of (sym node.rolls-False) ∙ fold-roll-Node ℕ depth_step Node-F.False

pub depth-Atom : (a : AtomId) → depth_of (node.Atom a) ≡ 1
depth-Atom a = ap depth_of (sym (node.rolls-Atom a)) ∙ fold-roll-Node ℕ depth_step (Node-F.Atom a)

pub depth-Not : (n : Node) → depth_of (node.Not n) ≡ depth_of n + 1
depth-Not n = ap depth_of (sym (node.rolls-Not n)) ∙ fold-roll-Node ℕ depth_step (Node-F.Not n)

pub depth-And : (ns : List Node) → depth_of (node.And ns) ≡ largest (map depth_of ns) + 1
depth-And ns = ap depth_of (sym (node.rolls-And ns)) ∙ fold-roll-Node ℕ depth_step (Node-F.And ns)

pub depth-Or : (ns : List Node) → depth_of (node.Or ns) ≡ largest (map depth_of ns) + 1
depth-Or ns = ap depth_of (sym (node.rolls-Or ns)) ∙ fold-roll-Node ℕ depth_step (Node-F.Or ns)

pub depth-Knows : (a : AgentId) (n : Node) → depth_of (node.Knows a n) ≡ depth_of n + 1
depth-Knows a n = ap depth_of (sym (node.rolls-Knows a n)) ∙ fold-roll-Node ℕ depth_step (Node-F.Knows a n)

pub depth-Common : (g : List Bool) (n : Node) → depth_of (node.Common g n) ≡ depth_of n + 1
depth-Common g n = ap depth_of (sym (node.rolls-Common g n)) ∙ fold-roll-Node ℕ depth_step (Node-F.Common g n)
