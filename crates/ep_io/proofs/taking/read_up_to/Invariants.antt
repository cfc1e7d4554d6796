use Rattle.std.proofs.Common.{◌-◌, ◌≡◌, ◌+◌, ◌≤◌, min, take, drop, vec_len}
use Rattle.std.specs.Io.KnownBytes.{Consumes}
use Rattle.ep_base.specs.Counts.{last_count}
use Rattle.ep_io.proofs.taking.read_up_to.Given as goal

abbrev pub invariant-loop-got : goal.invariant-loop-got
invariant-loop-got g l =
    (l.got ≤ l.most)
    × (vec_len l.into ≡ vec_len l.initial.into + l.got)
    × (take (vec_len l.initial.into) l.into.items ≡ l.initial.into.items)
    × (l.tally.taken ≡ min (l.initial.tally.taken + l.got) last_count)
    × (l.initial.tally.taken ≤ l.tally.taken)
    × (l.tally.faults ≡ l.initial.tally.faults)
    × Consumes (g.R.Read.remaining l.initial.reader) (g.R.Read.remaining l.reader) (drop (vec_len l.initial.into) l.into.items)

abbrev pub decreases-loop-got : goal.decreases-loop-got
decreases-loop-got g l = l.most - l.got
