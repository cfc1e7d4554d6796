use Rattle.std.proofs.Common.{◌≡◌, filter, take}
use Rattle.ep_initial.specs.Meeting.{meets}
use Rattle.ep_initial.proofs.meeting.keep_meeting.Given as goal

abbrev pub invariant-loop-place : goal.invariant-loop-place
invariant-loop-place l = l.kept ≡ filter (meets l.universe.names l.formula) (take l.place l.rows)
