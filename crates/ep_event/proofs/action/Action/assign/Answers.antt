use Rattle.std.proofs.Common.{◌∙◌, ◌≡◌, None, sym, ap}
use Rattle.ep_event.specs.Refusals.{repeated_atom}
use Rattle.ep_event.proofs.KindLemmas.{assign_put_together, assign_is_sound}
use Rattle.ep_event.proofs.action.Action.assign.Goals as goal

pub invariant_of-result : goal.invariant_of-result
invariant_of-result c =
    let none : repeated_atom c.args.sets ≡ None = ap repeated_atom (sym c.as_slice.ensures) ∙ sym c.in_default.ensures in
    assign_is_sound c.args.agents c.args.f c.args.sets c.in_ok-one_event.field-0 c.in_ok-loops.field-0 c.in_ok-from_slice.field-0 c.in_ok-one_event.ensures c.in_ok-loops.ensures c.in_ok-from_slice.ensures none c.requires

pub returns : goal.returns
returns c =
    let none : repeated_atom c.args.sets ≡ None = ap repeated_atom (sym c.as_slice.ensures) ∙ sym c.in_default.ensures in
    rw none (assign_put_together c.args.agents c.args.f c.args.sets c.in_ok-one_event.field-0 c.in_ok-loops.field-0 c.in_ok-from_slice.field-0 c.in_ok-one_event.ensures c.in_ok-loops.ensures c.in_ok-from_slice.ensures)
