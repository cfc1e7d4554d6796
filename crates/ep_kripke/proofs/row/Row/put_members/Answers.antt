use Rattle.std.proofs.Common.{◌≡◌, ◌*◌, length, ap, ◌∙◌}
use Rattle.ep_logic.specs.Packed.{bit_in}
use Rattle.ep_logic.specs.Numbers.{numbers_where}
use Rattle.ep_kripke.specs.Relations.{members}
use Rattle.ep_kripke.proofs.RelationLemmas.{places_are, few_places}
use Rattle.ep_kripke.proofs.row.Row.put_members.Goals as goal

pub put_places-requires : goal.put_places-requires
put_places-requires c = few_places c.words.result.now (length c.args.self.now) c.words.ensures.packed

pub returns : goal.returns
returns c =
    let e : numbers_where (bit_in c.words.result.now) (length c.words.result.now * 64) ≡ members c.args.self.now =
    places_are c.words.result.now (length c.args.self.now) c.words.ensures.packed ∙ ap members c.words.ensures.value in
    rw (← e) c.put_places.ensures
