use Rattle.std.proofs.Common.{subst}
use Rattle.ep_truth.specs.Common.{HaveSameWalks}
use Rattle.ep_truth.proofs.SweepLemmas.{closed_walks, walks_after, walks_are_greatest}
use Rattle.ep_truth.proofs.common.label_common.Goals as goal

pub returns-then-branch-clause-each : goal.returns-then-branch-clause-each
returns-then-branch-clause-each c =
    let s = c.args.s.now in
    let g = c.args.group.now in
    let row = c.sweep.new.row in
    let same : HaveSameWalks s g c.args.inner.now row = subst (λ r. HaveSameWalks s g r row) c.in_ok-row.ensures c.in_ok-sweep.ensures.same in
    λ w l. closed_walks s g c.args.inner.now row same (c.in_ok-sweep.ensures.closed c.if-branch.true) w

pub returns-then-branch-2-clause-each : goal.returns-then-branch-2-clause-each
returns-then-branch-2-clause-each c =
    let s = c.args.s.now in
    let g = c.args.group.now in
    let row = c.sweep.new.row in
    let new = c.sweep-2.new.row in
    let same : HaveSameWalks s g c.args.inner.now row = subst (λ r. HaveSameWalks s g r row) c.in_ok-row.ensures c.in_ok-sweep.ensures.same in
    λ w l. closed_walks s g c.args.inner.now new (walks_after s g c.args.inner.now row new same c.in_ok-sweep-2.ensures.same) (c.in_ok-sweep-2.ensures.closed c.if-branch-2.true) w

pub returns-clause-each : goal.returns-clause-each
returns-clause-each c =
    let s = c.args.s.now in
    let g = c.args.group.now in
    let row = c.sweep.new.row in
    let new = c.sweep-2.new.row in
    let same : HaveSameWalks s g c.args.inner.now row = subst (λ r. HaveSameWalks s g r row) c.in_ok-row.ensures c.in_ok-sweep.ensures.same in
    let all = walks_after s g c.args.inner.now row new same c.in_ok-sweep-2.ensures.same in
    λ w l. (λ h. (all w).0 ((c.in_ok-common.ensures.each w l).0 h), λ h. (c.in_ok-common.ensures.each w l).1 ((all w).1 h))

pub returns-then-branch-clause-greatest : goal.returns-then-branch-clause-greatest
returns-then-branch-clause-greatest c =
    walks_are_greatest c.args.s.now c.args.group.now c.in_ok-sweep.ensures.valid c.args.inner.now c.sweep.new.row c.requires.long c.in_ok-sweep.ensures.long
    (returns-then-branch-clause-each c)

pub returns-then-branch-2-clause-greatest : goal.returns-then-branch-2-clause-greatest
returns-then-branch-2-clause-greatest c =
    walks_are_greatest c.args.s.now c.args.group.now c.in_ok-sweep.ensures.valid c.args.inner.now c.sweep-2.new.row c.requires.long c.in_ok-sweep-2.ensures.long
    (returns-then-branch-2-clause-each c)

pub returns-clause-greatest : goal.returns-clause-greatest
returns-clause-greatest c =
    walks_are_greatest c.args.s.now c.args.group.now c.in_ok-sweep.ensures.valid c.args.inner.now c.in_ok-common.common c.requires.long c.in_ok-common.ensures.long
    (returns-clause-each c)
