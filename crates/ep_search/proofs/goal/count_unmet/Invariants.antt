use Rattle.std.proofs.Common.{◌≡◌, ◌≤◌, ◌↔◌, take}
use Rattle.std.specs.List.{AllByRecursion}
use Rattle.ep_theory.specs.Truth.{Satisfies}
use Rattle.ep_search.specs.Goal.{unmet_count}
use Rattle.ep_search.proofs.goal.count_unmet.Given as goal

abbrev pub invariant-loop-part : goal.invariant-loop-part
invariant-loop-part l = record {
  few : l.unmet ≤ l.part-index;
  number : l.unmet ≡ unmet_count l.s (take l.part-index l.parts);
  none : (l.unmet ≡ 0) ↔ AllByRecursion (Satisfies l.s) (take l.part-index l.parts);
}
