use Rattle.std.proofs.Common.{ℕ, List, slice_index, subst}
use Rattle.ep_refine.specs.Signing.{HaveKeys}
use Rattle.ep_refine.proofs.ColumnLemmas.{keys_order}
use Rattle.ep_refine.proofs.signing.sign_these.Goals as goal

pub returns-clause-keys : goal.returns-clause-keys
returns-clause-keys g c =
    keys_order c.args.s.now c.known.ensures.valid (slice_index c.args.ranks.now) c.args.worlds.now c.in_ok-columns.columns c.in_ok-columns.ensures c.known.ensures.bounded.agents c.in_ok-keyed.keyed.items c.in_ok-keyed.ensures.worlds
    (subst (λ (cs : List (List ℕ)). HaveKeys (slice_index c.args.ranks.now) c.args.worlds.now cs c.in_ok-keyed.keyed.items) c.as_slice.ensures c.in_ok-keyed.ensures.keys)
