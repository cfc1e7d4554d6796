use Rattle.std.proofs.Common.{ap, sym, ◌∙◌, slice_get}
use Rattle.std.specs.Option.{option_map}
use Rattle.std.specs.Map.Iter.{deref_pair}
use Rattle.ep_types.specs.Names.{values_of}
use Rattle.ep_types.proofs.NamesLemmas.{values-seen}
use Rattle.ep_types.proofs.table.Table.value.Goals as goal

pub returns : goal.returns
returns g c =
    let found = sym c.get_index.ensures.entry ∙ ap (option_map deref_pair) c.unwrap.ensures in
    sym (ap (λ es. slice_get (values_of es) c.args.number) c.self.view_is) ∙ values-seen c.self.inside.map.entries c.args.number
    ∙ ap (option_map (λ e. e.1)) found
