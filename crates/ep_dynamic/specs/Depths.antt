-- The depth of a formula that looks ahead.
use Rattle.std.specs.Prelude.{ℕ, ◌+◌}
use Rattle.ep_base.specs.Numbers.{largest}
use Rattle.ep_dynamic.specs.declared.node.DynNode.{DynNode}
use Rattle.ep_dynamic.specs.declared.node.DynNode.TheOpen.{DynNode-F}
use Rattle.ep_dynamic.specs.declared.node.DynNode.TheFolds.{fold-DynNode}

-- one node, with the depths of its parts in their place
abbrev pub dynamic_depth_step : DynNode-F ℕ → ℕ
dynamic_depth_step DynNode-F.True = 1
dynamic_depth_step DynNode-F.False = 1
dynamic_depth_step (DynNode-F.Atom p) = 1
dynamic_depth_step (DynNode-F.Not n) = n + 1
dynamic_depth_step (DynNode-F.And ns) = largest ns + 1
dynamic_depth_step (DynNode-F.Or ns) = largest ns + 1
dynamic_depth_step (DynNode-F.Knows a n) = n + 1
dynamic_depth_step (DynNode-F.Common g n) = n + 1
dynamic_depth_step (DynNode-F.After a n) = n + 1

-- a leaf has depth 1
unfoldable pub dynamic_depth : DynNode → ℕ
dynamic_depth f = fold-DynNode ℕ dynamic_depth_step f
