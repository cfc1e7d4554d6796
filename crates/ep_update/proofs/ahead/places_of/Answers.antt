use Rattle.std.proofs.Common.{◌∙◌}
use Rattle.ep_update.proofs.LabelLemmas.{labels_long}
use Rattle.ep_update.proofs.RowLemmas.{are_places}
use Rattle.ep_update.proofs.ahead.places_of.Goals as goal

pub find_places-requires-clause-rows : goal.find_places-requires-clause-rows
find_places-requires-clause-rows c = labels_long c.args.s.now c.args.a.now c.worlds.result c.rows.result.now c.worlds.ensures.value (c.rows.ensures ∙ c.requires.rows)

pub returns : goal.returns
returns c = (are_places c.args.s.now c.args.a.now c.worlds.result c.rows.result.now c.in_ok-found.found c.worlds.ensures.value (c.rows.ensures ∙ c.requires.rows) c.in_ok-found.ensures.places).list
