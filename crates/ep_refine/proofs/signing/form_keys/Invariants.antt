use Rattle.std.proofs.Common.{◌≡◌, ◌≤◌, ◌+◌, length, map, take, slice_index}
use Rattle.ep_refine.specs.Signing.{HaveKeys}
use Rattle.ep_refine.proofs.signing.form_keys.Given as goal

abbrev pub invariant-loop-k : goal.invariant-loop-k
invariant-loop-k g l = record {
  worlds : map (λ x. x.world) l.keyed.items ≡ take l.k l.worlds;
  long : length l.keyed.items ≡ l.k;
  keys : HaveKeys (slice_index l.ranks) l.worlds l.columns l.keyed.items;
  few : l.steps ≤ l.initial.steps + l.k;
}
