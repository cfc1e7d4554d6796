use Rattle.std.proofs.Common.{◌≡◌, map, take}
use Rattle.ep_tree.specs.declared.tree.Name.{Name}
use Rattle.ep_name.proofs.CallerLemmas.{opened}
use Rattle.ep_plan_text.proofs.read.name_of.Given as goal

abbrev pub invariant-loop-place : goal.invariant-loop-place
invariant-loop-place l = l.name.items ≡ opened l.fn.call.name.text (map (λ (n : Name). n.text) (take l.place l.objects))
