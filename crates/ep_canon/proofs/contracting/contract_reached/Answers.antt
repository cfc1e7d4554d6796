use Rattle.std.proofs.Common.{sym, ◌∙◌, arith}
use Rattle.ep_refine.proofs.CallerLemmas.{kept_few}
use Rattle.ep_canon.proofs.QuotientLemmas.{keeps_designated, from_row, to_row, part_is_reached, contracts_part}
use Rattle.ep_canon.proofs.MapLemmas.{kept_all, whole_part, part_maps}
use Rattle.ep_canon.proofs.contracting.contract_reached.Goals as goal

pub returns-then-all_reached-clause-classes : goal.returns-then-all_reached-clause-classes
returns-then-all_reached-clause-classes c =
    c.in_ok-whole.ensures.one_each
    ∙ sym (kept_all c.args.reached.now c.args.s.now.worlds (c.all_reached.ensures.value.0 c.if-all_reached.true) c.args.s.now.worlds (omega arith))

pub returns-then-all_reached-clause-maps : goal.returns-then-all_reached-clause-maps
returns-then-all_reached-clause-maps c = part_maps c.args.s.now c.all_reached.ensures.valid c.args.reached.now c.in_ok-whole.whole.classes c.requires.one_each c.requires.reached
    c.args.s.now c.in_ok-whole.whole.state c.all_reached.ensures.valid (whole_part c.args.s.now c.all_reached.ensures.valid c.args.reached.now (c.all_reached.ensures.value.0 c.if-all_reached.true))
    c.in_ok-whole.ensures.ordered c.in_ok-whole.ensures.image

pub restrict-requires-clause-designated : goal.restrict-requires-clause-designated
restrict-requires-clause-designated c = keeps_designated c.args.s.now c.all_reached.ensures.valid c.args.reached.now
    (to_row c.args.s.now c.all_reached.ensures.valid c.args.reached.now c.requires.reached)

pub contract_whole-requires-2 : goal.contract_whole-requires-2
contract_whole-requires-2 c = part_is_reached c.args.s.now c.in_ok-part.part c.all_reached.ensures.valid c.in_ok-part.ensures.valid c.args.reached.now
    (from_row c.args.s.now c.args.reached.now c.requires.reached)
    (to_row c.args.s.now c.all_reached.ensures.valid c.args.reached.now c.requires.reached) c.in_ok-part.ensures.restriction

pub returns-clause-contraction : goal.returns-clause-contraction
returns-clause-contraction c = contracts_part c.args.s.now c.in_ok-part.part c.all_reached.ensures.valid c.in_ok-part.ensures.valid c.args.reached.now
    (from_row c.args.s.now c.args.reached.now c.requires.reached)
    (to_row c.args.s.now c.all_reached.ensures.valid c.args.reached.now c.requires.reached) c.in_ok-part.ensures.restriction
    c.in_ok-whole-2.whole.state c.in_ok-whole-2.ensures.contraction

pub returns-clause-fewer : goal.returns-clause-fewer
returns-clause-fewer c =
    let few = kept_few c.args.reached.now c.args.s.now.worlds in
    let p = c.in_ok-part.ensures.worlds in
    let q = c.in_ok-whole-2.ensures.fewer in
    omega (arith, few, p, q)

pub returns-clause-maps : goal.returns-clause-maps
returns-clause-maps c = part_maps c.args.s.now c.all_reached.ensures.valid c.args.reached.now c.in_ok-whole-2.whole.classes c.requires.one_each c.requires.reached
    c.in_ok-part.part c.in_ok-whole-2.whole.state c.in_ok-part.ensures.valid c.in_ok-part.ensures.restriction c.in_ok-whole-2.ensures.ordered c.in_ok-whole-2.ensures.image
