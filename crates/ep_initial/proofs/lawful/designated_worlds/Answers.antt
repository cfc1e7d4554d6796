use Rattle.std.proofs.Common.{◌≡◌, inr, ap, sym, ◌∙◌, length}
use Rattle.ep_theory.proofs.CallerLemmas.{equal_from_test}
use Rattle.ep_initial.specs.Faults.{fault_by}
use Rattle.ep_initial.specs.Meeting.{meets}
use Rattle.ep_initial.proofs.FaultLemmas.{no_designated}
use Rattle.ep_initial.proofs.MeetingLemmas.{chosen}
use Rattle.ep_initial.proofs.lawful.designated_worlds.Goals as goal

pub returns-then-is_empty-2-clause-refused : goal.returns-then-is_empty-2-clause-refused
returns-then-is_empty-2-clause-refused c =
    let places = c.in_ok-places.ensures ∙ chosen (meets c.args.universe.now.names c.args.designated.now) c.args.worlds.now c.in_ok-meets.meets c.in_ok-meets.ensures in
    let none : length c.in_ok-places.places ≡ 0 = ap length (sym c.as_slice.ensures) ∙ equal_from_test (length c.as_slice.result.now) 0 (sym c.if-is_empty-2.ensures) in
    λ v h. inr (ap (fault_by v (length c.args.worlds.now)) (sym (ap length places) ∙ none) ∙ no_designated v (length c.args.worlds.now) h c.requires.few)

pub returns-clause-places : goal.returns-clause-places
returns-clause-places c =
    c.in_ok-places.ensures ∙ chosen (meets c.args.universe.now.names c.args.designated.now) c.args.worlds.now c.in_ok-meets.meets c.in_ok-meets.ensures
