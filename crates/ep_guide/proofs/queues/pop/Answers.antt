use Rattle.std.proofs.Common.{◌≡◌, ◌<◌, Some, length, slice_get, IsSome, sym, ◌∙◌, arith}
use Rattle.std.specs.Ordering.{nat_cmp}
use Rattle.std.specs.Map.{set_value}
use Rattle.std.specs.BTreeMap.{is_at}
use Rattle.ep_guide.proofs.WaitingLemmas.{Leaves, leaves, pops_left, in_use_left, pops_removed, in_use_removed, empty_items, some_items, least_first}
use Rattle.ep_guide.proofs.queues.pop.Goals as goal
use Rattle.ep_guide.proofs.queues.pop.Goals.{After-is_empty}

-- the first of the first queue was taken
taken : (c : After-is_empty) → Leaves c.args.queues.now.entries c.in_ok-first.first.now c.pop_front-id.new.self c.pop_front-id.result (c.get_mut.follows.lender c.pop_front-id.new.self).entries
taken c =
    let es = c.args.queues.now.entries in
    let q = c.pop_front-id.new.self in
    let old = c.in_ok-queue.queue.now in
    let first : slice_get es 0 ≡ Some (c.in_ok-first.first.now, c.in_ok-first.field-0-1.now) = c.in_ok-first.ensures.first in
    let some : 0 < length old.items → IsSome c.pop_front-id.result = λ l. c.pop_front-id.ensures.variant.1 (omega (arith, l, old.ok.0)) in
    let set : (c.get_mut.follows.lender q).entries ≡ set_value (is_at (nat_cmp c.in_ok-first.first.now)) es q = (c.get_mut.follows.holds q).0 in
    leaves es (c.get_mut.follows.lender q).entries c.in_ok-first.first.now c.in_ok-first.field-0-1.now old q c.pop_front-id.result first c.in_ok-queue.ensures.value
    c.pop_front-id.ensures.items some c.requires set

pub returns-then-is_empty-clause-least_first : goal.returns-then-is_empty-clause-least_first
returns-then-is_empty-clause-least_first c = least_first c.args.queues.now.entries c.get_mut.ensures.ordered

pub returns-else-is_empty-clause-least_first : goal.returns-else-is_empty-clause-least_first
returns-else-is_empty-clause-least_first c = least_first c.args.queues.now.entries c.get_mut.ensures.ordered

pub returns-then-is_empty-clause-pops : goal.returns-then-is_empty-clause-pops
returns-then-is_empty-clause-pops c =
    let h = taken (goal.at.returns-then-is_empty-clause-pops c).After-is_empty in
    pops_removed _ _ _ _ _ h c.remove.new.self.entries c.remove.ensures.entries (empty_items c.pop_front-id.new.self (sym c.is_empty.ensures ∙ c.if-is_empty.true))

pub returns-then-is_empty-clause-in_use : goal.returns-then-is_empty-clause-in_use
returns-then-is_empty-clause-in_use c =
    let h = taken (goal.at.returns-then-is_empty-clause-in_use c).After-is_empty in
    in_use_removed _ _ _ _ _ h c.remove.new.self.entries c.remove.ensures.entries

pub returns-else-is_empty-clause-pops : goal.returns-else-is_empty-clause-pops
returns-else-is_empty-clause-pops c = pops_left _ _ _ _ _ (taken (goal.at.returns-else-is_empty-clause-pops c).After-is_empty)

pub returns-else-is_empty-clause-in_use : goal.returns-else-is_empty-clause-in_use
returns-else-is_empty-clause-in_use c =
    let h = taken (goal.at.returns-else-is_empty-clause-in_use c).After-is_empty in
    in_use_left _ _ _ _ _ h (some_items c.pop_front-id.new.self (sym c.is_empty.ensures ∙ c.if-is_empty.false))
