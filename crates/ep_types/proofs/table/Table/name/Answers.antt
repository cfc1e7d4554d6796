use Rattle.std.proofs.Common.{ap, sym, ◌∙◌, slice_get, Some}
use Rattle.std.specs.Option.{option_map}
use Rattle.std.specs.Map.Iter.{deref_pair}
use Rattle.ep_types.specs.Names.{names_of}
use Rattle.ep_types.proofs.NamesLemmas.{names-seen}
use Rattle.ep_types.proofs.table.Table.name.Goals as goal

pub returns : goal.returns
returns g c =
    let found = sym c.get_index.ensures.entry ∙ ap (option_map deref_pair) c.unwrap.ensures in
    sym (ap (λ es. slice_get (names_of es) c.args.number) c.self.view_is) ∙ names-seen c.self.inside.map.entries c.args.number
    ∙ ap (option_map (λ e. e.0.items)) found ∙ ap Some (sym c.as_slice.ensures.value)
