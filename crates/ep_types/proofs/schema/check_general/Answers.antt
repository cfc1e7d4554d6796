use Rattle.std.proofs.Common.{subst, ◌++◌, List}
use Rattle.ep_types.specs.Faults.{IsJudged}
use Rattle.ep_types.specs.Names.{Text, names_of}
use Rattle.ep_types.specs.Places.{scope, both}
use Rattle.ep_types.specs.Tasks.{event_uses, event_names, ends_uses}
use Rattle.ep_types.proofs.schema.check_general.Goals as goal

pub returns : goal.returns
returns c =
    let s = scope c.args.names.now c.args.frame.now in
    let list = c.args.list.now in
    let P : List (Text × Unit {0}) → Type 0 =
    λ before. IsJudged (both (event_uses (names_of before) list s) (ends_uses (names_of before ++ event_names list) c.args.chosen.now c.args.links.now s)) c.check_events_and_links.result
    in
    subst P c.new-before.ensures c.check_events_and_links.ensures
