use Rattle.std.proofs.Common.{get_or, refl}
use Rattle.ep_refine.proofs.BackwardLemmas.{held_members, held_room, held_more, held_all}
use Rattle.ep_refine.proofs.backward.holders_of.Goals as goal

pub hold-requires-clause-members : goal.hold-requires-clause-members
hold-requires-clause-members c = held_members c.args.names.now c.args.rows.now c.loop-name.name-index c.loop-name.left c.loop-name.holders c.loop-name.invariant c.loop-name-test.true (get_or c.args.names.now c.loop-name.name-index 0) refl c.requires.fit

pub hold-requires-clause-room : goal.hold-requires-clause-room
hold-requires-clause-room c = held_room c.args.names.now c.args.rows.now c.loop-name.name-index c.loop-name.left c.loop-name.holders c.loop-name.invariant c.loop-name-test.true (get_or c.args.names.now c.loop-name.name-index 0) refl 4294967296 c.requires.links

pub loop-name-preserved : goal.loop-name-preserved
loop-name-preserved c = held_more c.args.names.now c.args.rows.now c.loop-name.name-index c.loop-name.left c.loop-name.holders c.loop-name.invariant c.loop-name-test.true (get_or c.args.names.now c.loop-name.name-index 0) c.hold.new.left c.hold.new.holders refl c.in_ok-hold.ensures

pub returns : goal.returns
returns c = held_all c.args.names.now c.args.rows.now c.loop-name.name-index c.loop-name.left c.loop-name.holders c.requires.within c.loop-name-test.false c.loop-name.invariant
