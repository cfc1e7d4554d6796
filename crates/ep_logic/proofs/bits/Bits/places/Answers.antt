use Rattle.std.proofs.Common.{◌∙◌, ap, length}
use Rattle.std.proofs.lemmas.Result.{IfOk-weaker}
use Rattle.ep_logic.specs.Rows.{true_places}
use Rattle.ep_logic.proofs.PlaceLemmas.{places_of_packed}
use Rattle.ep_logic.proofs.bits.Bits.places.Goals as goal

pub returns : goal.returns
returns c = IfOk-weaker c.places_of.result _ _ (λ places e. e ∙ places_of_packed c.words.result.now (length c.args.self.now) c.words.ensures.packed ∙ ap true_places c.words.ensures.value) c.places_of.ensures
