use Rattle.std.proofs.Common.{◌≡◌, ◌≢◌, ◌<◌, ◌≤◌, ◌+◌, ℕ, length, slice_index, sym, subst, arith}
use Rattle.ep_refine.specs.Blocks.{AreBlocks, rank_of}
use Rattle.ep_refine.specs.Touching.{is_listed}
use Rattle.ep_refine.specs.Groups.{Suits, Refined}
use Rattle.ep_refine.proofs.Sides.{one_class, turned_first, refined_first, turned_next, refined_last, group_together}
use Rattle.ep_refine.proofs.split.split.Goals as goal

pub loop-i-init : goal.loop-i-init
loop-i-init c = record {
  valid = c.requires.valid;
  from = λ u l. omega arith;
  to = λ u l. omega arith;
  refined = λ g suits agrees. (
    0,
    turned_first (length c.args.b.now.order.items) (rank_of c.args.b.now) g (is_listed c.args.left.now) c.args.worlds.now suits,
    refined_first (length c.args.b.now.order.items) (rank_of c.args.b.now) g (is_listed c.args.left.now) c.args.worlds.now suits,
  );
}

pub split_group-requires-clause-group : goal.split_group-requires-clause-group
split_group-requires-clause-group c = λ k f t.
    let n = length c.args.b.now.order.items in
    let ws = c.args.worlds.now in
    let i = c.loop-i.i in
    let j = c.group_end-j.result in
    let e = c.group_end-j.ensures in
    let some = c.requires.some in
    let g = some.0 in
    let suits = some.1 in
    let inv = c.loop-i.invariant.refined g suits some.2 in
    let inside = c.loop-i-test.true in
    let to = e.to in
    let one = c.requires.one_each in
    let b : k < length ws = omega (arith, t, to, one) in
    let same = (some.2 k i b inside).0 (e.these k f t) in
    group_together n (rank_of c.args.b.now) g (rank_of c.loop-i.b) inv.0 (slice_index ws k) (slice_index ws i) inv.2 (suits.within k b) (suits.within i inside)
    (one_class n (rank_of c.args.b.now) g (is_listed c.args.left.now) ws suits (slice_index ws k) (slice_index ws i) (suits.within k b) (suits.within i inside) same) same

pub loop-i-preserved : goal.loop-i-preserved
loop-i-preserved c =
    let n = length c.args.b.now.order.items in
    let ws = c.args.worlds.now in
    let i = c.loop-i.i in
    let j = c.group_end-j.result in
    let e = c.group_end-j.ensures in
    let inside = c.loop-i-test.true in
    let long = c.loop-i.invariant.valid.orders in
    record {
      valid = subst (λ m. AreBlocks m c.split_group.new.b) long c.split_group.ensures.valid;
      from = λ u l. let a = c.loop-i.invariant.from u l in let d = c.split_group.ensures.from u (omega (arith, l, long)) in omega (arith, a, d);
      to = λ u l. let a = c.loop-i.invariant.to u l in let d = c.split_group.ensures.to u (omega (arith, l, long)) in omega (arith, a, d);
      refined = λ g suits agrees.
          let inv = c.loop-i.invariant.refined g suits agrees in
          let to = e.to in
          let one = c.requires.one_each in
          let j_in : j ≤ length ws = omega (arith, to, one) in
          let group : (k : ℕ) → i ≤ k → k < j → g (slice_index ws k) ≡ g (slice_index ws i) = (λ k f t. (agrees k i (omega (arith, t, j_in)) inside).0 (e.these k f t)) in
          let next : j < length ws → g (slice_index ws j) ≢ g (slice_index ws i) = (λ b q. e.next (omega (arith, b, one)) ((agrees j i b inside).1 q)) in (
            g (slice_index ws i) + 1,
            turned_next n (rank_of c.args.b.now) g (is_listed c.args.left.now) ws suits inv.0 i inv.1 inside j (let f = e.from in omega (arith, f)) j_in group next,
            subst (λ m. Refined m (rank_of c.args.b.now) g (rank_of c.split_group.new.b) (g (slice_index ws i) + 1)) long
                (c.split_group.ensures.split (rank_of c.args.b.now) g inv.0 (subst (λ m. Suits m (rank_of c.args.b.now) g (is_listed c.args.left.now) ws) (sym long) suits) inv.1 group next
                (subst (λ m. Refined m (rank_of c.args.b.now) g (rank_of c.loop-i.b) inv.0) (sym long) inv.2)),
          );
    }

pub returns-clause-ordered : goal.returns-clause-ordered
returns-clause-ordered c = λ g suits agrees u v a b.
    let inv = c.loop-i.invariant.refined g suits agrees in
    refined_last (length c.args.b.now.order.items) (rank_of c.args.b.now) g (is_listed c.args.left.now) c.args.worlds.now suits (rank_of c.loop-i.b) inv.0 c.loop-i.i c.loop-i-test.false inv.1 inv.2 u v a b
