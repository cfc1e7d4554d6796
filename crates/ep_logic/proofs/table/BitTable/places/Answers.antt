use Rattle.std.proofs.Common.{◌∙◌, ap}
use Rattle.std.proofs.lemmas.Result.{IfOk-weaker}
use Rattle.ep_logic.specs.Rows.{true_places}
use Rattle.ep_logic.proofs.PlaceLemmas.{places_of_packed}
use Rattle.ep_logic.proofs.table.BitTable.places.Goals as goal

pub returns : goal.returns
returns c = IfOk-weaker c.places_of.result _ _ (λ places e. e ∙ places_of_packed c.row.result.now c.args.self.now.width c.row.ensures.packed ∙ ap true_places c.row.ensures.value) c.places_of.ensures
