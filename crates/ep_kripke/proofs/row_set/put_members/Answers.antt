use Rattle.std.proofs.Common.{◌≡◌, [], get_or, ap, ◌∙◌}
use Rattle.ep_logic.specs.Packed.{bit_in}
use Rattle.ep_logic.specs.Numbers.{numbers_where}
use Rattle.std.proofs.Common.{length, ◌*◌}
use Rattle.ep_kripke.specs.Relations.{members}
use Rattle.ep_kripke.proofs.RelationLemmas.{places_are, few_places}
use Rattle.ep_kripke.proofs.row_set.put_members.Goals as goal

pub put_places-requires : goal.put_places-requires
put_places-requires c = few_places c.row.result.now c.args.table.now.width c.row.ensures.packed

pub returns : goal.returns
returns c =
    let e : numbers_where (bit_in c.row.result.now) (length c.row.result.now * 64) ≡ members (get_or c.args.table.now.rows c.args.r []) =
    places_are c.row.result.now c.args.table.now.width c.row.ensures.packed ∙ ap members c.row.ensures.value in
    rw (← e) c.put_places.ensures
