use Rattle.std.proofs.Common.{sym, ap, ◌∙◌, length}
use Rattle.ep_types.specs.Names.{is_below}
use Rattle.ep_types.specs.Links.{typings}
use Rattle.ep_types.proofs.Grown.{below_nowhere, below_unknown, found_at, names_typed}
use Rattle.ep_types.specs.Names.{is_among}
use Rattle.ep_types.proofs.types.is_name_below.Goals as goal

pub returns-in-None : goal.returns-in-None
returns-in-None c =
    let rows = c.args.rows.now in
    let kind = c.args.kind.now in
    let above = c.args.above.now in
    let none = ap (is_among kind) (names_typed rows) ∙ sym c.in-None.ensures.found in
    c.eq.ensures ∙ sym (below_unknown (typings rows) kind above (length (typings rows)) none)

pub returns-in-None-index : goal.returns-in-None-index
returns-in-None-index c =
    let rows = c.args.rows.now in
    let kind = c.args.kind.now in
    let above = c.args.above.now in
    let low = found_at kind rows c.in-Some.low (sym c.in-Some.ensures.place) in
    let none = sym c.in-None-index.ensures.found in
    sym (below_nowhere rows c.requires above (length (typings rows)) c.in-Some.low none low.0)
    ∙ ap (λ x. is_below (typings rows) x above) (sym low.1)

pub returns-in-Some-index : goal.returns-in-Some-index
returns-in-Some-index c =
    let rows = c.args.rows.now in
    let kind = c.args.kind.now in
    let above = c.args.above.now in
    let low = found_at kind rows c.in-Some.low (sym c.in-Some.ensures.place) in
    let high = found_at above rows c.in-Some-index.high (sym c.in-Some-index.ensures.place) in
    c.climbs_to.ensures ∙ (λ i. is_below (typings rows) (sym low.1 i) (sym high.1 i))
