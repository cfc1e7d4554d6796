use Rattle.std.proofs.Common.{ap, ◌∙◌, unwrap_or, position}
use Rattle.ep_types.specs.Names.{is_text}
use Rattle.ep_universe.proofs.LinkLemmas.{same_place}
use Rattle.ep_universe.proofs.links.place_of.Goals as goal

pub returns : goal.returns
returns c =
    let p = c.place.ensures in
    c.unwrap_or.ensures
    ∙ same_place c.args.names.now c.as_slice.result.now c.place.result p.apart p.found p.none
    ∙ ap (λ x. unwrap_or (position (is_text x) c.args.names.now) 0) c.as_slice.ensures.value
