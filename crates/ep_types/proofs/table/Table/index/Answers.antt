use Rattle.std.proofs.Common.{ap, ◌∙◌, position, is_some}
use Rattle.ep_types.specs.Names.{declared, is_text, names_of}
use Rattle.ep_types.proofs.NamesLemmas.{position-seen, lookup-seen, declared-among}
use Rattle.ep_types.proofs.table.Table.index.Goals as goal

pub returns-clause-place : goal.returns-clause-place
returns-clause-place g c =
    let name = c.args.name.now in
    c.get_index_of.ensures.index ∙ position-seen name c.self.inside.map.entries ∙ ap (λ es. position (is_text name) (names_of es)) c.self.view_is

pub returns-clause-found : goal.returns-clause-found
returns-clause-found g c =
    let name = c.args.name.now in
    c.get_index_of.ensures.found ∙ ap is_some (lookup-seen name c.self.inside.map.entries ∙ ap (declared name) c.self.view_is) ∙ declared-among name c.args.self.now
