use Rattle.std.proofs.Common.{ap, ◌∙◌, is_some}
use Rattle.ep_types.specs.Names.{declared}
use Rattle.ep_types.proofs.NamesLemmas.{lookup-seen, declared-among}
use Rattle.ep_types.proofs.table.Table.has.Goals as goal

pub returns : goal.returns
returns g c =
    let name = c.args.name.now in
    c.contains_key.ensures ∙ ap is_some (lookup-seen name c.self.inside.map.entries ∙ ap (declared name) c.self.view_is) ∙ declared-among name c.args.self.now
