use Rattle.std.proofs.Common.{length, ap, arith}
use Rattle.ep_base.proofs.CallerLemmas.{told_none}
use Rattle.ep_event.specs.Refusals.{refusal_of}
use Rattle.ep_event.proofs.BuiltLemmas.{are_fine, put_together, built_is_sound}
use Rattle.ep_event.proofs.action.Action.build.Goals as goal

pub relations-requires-clause-few : goal.relations-requires-clause-few
relations-requires-clause-few c = omega (arith, (are_fine c.args.parts (told_none (refusal_of c.args.parts) tt c.in_ok-check.ensures)).few_events, ap length c.as_slice.ensures)

pub relations-requires-clause-within : goal.relations-requires-clause-within
relations-requires-clause-within c = rw (c.as_slice.ensures, c.as_slice-2.ensures) (are_fine c.args.parts (told_none (refusal_of c.args.parts) tt c.in_ok-check.ensures)).links

pub invariant_of-result : goal.invariant_of-result
invariant_of-result c =
    built_is_sound c.args.parts c.in_ok-relations.relations c.in_ok-designated.designated
    (rw (c.as_slice.ensures, c.as_slice-2.ensures) at c.in_ok-relations.ensures) (rw (c.as_slice.ensures, c.as_slice-3.ensures) at c.in_ok-designated.ensures)
    (are_fine c.args.parts (told_none (refusal_of c.args.parts) tt c.in_ok-check.ensures)) c.requires.agents

pub returns : goal.returns
returns c =
    rw (told_none (refusal_of c.args.parts) tt c.in_ok-check.ensures)
    (put_together c.args.parts c.in_ok-relations.relations c.in_ok-designated.designated
    (rw (c.as_slice.ensures, c.as_slice-2.ensures) at c.in_ok-relations.ensures) (rw (c.as_slice.ensures, c.as_slice-3.ensures) at c.in_ok-designated.ensures))
