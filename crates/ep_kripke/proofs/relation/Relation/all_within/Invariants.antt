use Rattle.std.proofs.Common.{◌≡◌, ℕ, ◌<◌, [], length, get_or}
use Rattle.std.specs.List.{list_all}
use Rattle.ep_logic.specs.Rows.{value_at}
use Rattle.ep_kripke.proofs.relation.Relation.all_within.Given as goal

abbrev pub invariant-loop-w : goal.invariant-loop-w
invariant-loop-w l = record {
  long : length l.row ≡ length l.self;
  told : (k : ℕ) → k < l.w → value_at l.row k ≡ list_all (value_at l.set) (get_or l.self k []);
}
