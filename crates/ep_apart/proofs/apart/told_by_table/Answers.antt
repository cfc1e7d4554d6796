use Rattle.std.proofs.Common.{◌<◌, [], List, length, get_or, ap, sym, subst, ◌∙◌, arith}
use Rattle.std.proofs.lemmas.List.{get_or_default}
use Rattle.ep_theory.specs.Rising.{IsIn}
use Rattle.ep_apart.specs.Lines.{AreLines}
use Rattle.ep_apart.specs.Tables.{ArePartsOf, IsCut, AreTold}
use Rattle.ep_apart.proofs.Results.{if_ok, in_all}
use Rattle.ep_apart.proofs.TableLemmas.{parts_known}
use Rattle.ep_apart.proofs.ApartLemmas.{none_left, whole_grid, same_grid, square, told_all}
use Rattle.ep_apart.proofs.PruneLemmas.{names_earlier}
use Rattle.ep_apart.proofs.apart.told_by_table.Goals as goal

pub bounds-rows-best : goal.bounds-rows-best
bounds-rows-best c =
    let q = c.args.q.now in
    let grid = whole_grid q c.tell_worlds.ensures.valid c.tell_worlds.new.lines c.in_ok-table.table c.in_ok-table.ensures.told in
    let l = grid.long in
    let w = in_all (λ x. x < q.worlds) c.args.xs.now c.requires.worlds c.nearest-best.result c.nearest-best.ensures.0 in
    let e = ap length c.as_slice-rows.ensures in
    omega (arith, l, w, e)

pub parts_of-requires : goal.parts_of-requires
parts_of-requires c =
    let q = c.args.q.now in
    let table = c.in_ok-table.table in
    let grid = whole_grid q c.tell_worlds.ensures.valid c.tell_worlds.new.lines table c.in_ok-table.ensures.told in
    let l = grid.long in
    let w = in_all (λ x. x < q.worlds) c.args.xs.now c.requires.worlds c.nearest-best.result c.nearest-best.ensures.0 in
    let b : c.nearest-best.result < length table = omega (arith, l, w) in
    let row = c.as_slice-row.ensures ∙ c.index-rows-best.is ∙ ap (λ (rs : List _). get_or rs c.nearest-best.result c.index-rows-best.result) c.as_slice-rows.ensures ∙ get_or_default table c.nearest-best.result c.index-rows-best.result [] b in
    let r = grid.rows c.nearest-best.result w in
    let e = ap length row in
    λ k d m. let o = c.requires.others k d m in omega (arith, o, r, e)

pub conjunction-requires-clause-within : goal.conjunction-requires-clause-within
conjunction-requires-clause-within c =
    let q = c.args.q.now in
    let table = c.in_ok-table.table in
    let grid = whole_grid q c.tell_worlds.ensures.valid c.tell_worlds.new.lines table c.in_ok-table.ensures.told in
    let b : c.nearest-best.result < length table = let l = grid.long in let w = (in_all (λ x. x < q.worlds) c.args.xs.now c.requires.worlds c.nearest-best.result c.nearest-best.ensures.0) in omega (arith, l, w) in
    let row = c.as_slice-row.ensures ∙ c.index-rows-best.is ∙ ap (λ (rs : List _). get_or rs c.nearest-best.result c.index-rows-best.result) c.as_slice-rows.ensures ∙ get_or_default table c.nearest-best.result c.index-rows-best.result [] b in
    parts_known c.tell_worlds.new.lines table c.nearest-best.result c.as_slice-row.result.now c.args.others.now c.in-Some.parts
    (same_grid q.worlds c.tell_worlds.new.lines table grid) b row
    (λ y i. let m = in_all (λ y. y < q.worlds) c.args.others.now c.requires.others y i in let l = grid.long in omega (arith, m, l))
    (subst (ArePartsOf c.as_slice-row.result.now c.args.others.now) c.in-Some.is c.in_ok-parts.ensures)

pub unreachable-requires : goal.unreachable-requires
unreachable-requires c =
    let q = c.args.q.now in
    let table = c.in_ok-table.table in
    let grid = whole_grid q c.tell_worlds.ensures.valid c.tell_worlds.new.lines table c.in_ok-table.ensures.told in
    let b : c.nearest-best.result < length table = let l = grid.long in let w = (in_all (λ x. x < q.worlds) c.args.xs.now c.requires.worlds c.nearest-best.result c.nearest-best.ensures.0) in omega (arith, l, w) in
    let row = c.as_slice-row.ensures ∙ c.index-rows-best.is ∙ ap (λ (rs : List _). get_or rs c.nearest-best.result c.index-rows-best.result) c.as_slice-rows.ensures ∙ get_or_default table c.nearest-best.result c.index-rows-best.result [] b in
    let n = subst (ArePartsOf c.as_slice-row.result.now c.args.others.now) c.in-None.is c.in_ok-parts.ensures in
    c.nearest-best.ensures.1 (subst (λ z. IsIn z c.args.others.now)
    (sym (none_left q c.tell_worlds.ensures.valid c.requires.apart c.tell_worlds.new.lines table c.as_slice-row.result.now c.nearest-best.result n.0 c.in_ok-table.ensures.told (in_all (λ x. x < q.worlds) c.args.xs.now c.requires.worlds c.nearest-best.result c.nearest-best.ensures.0)
    (in_all (λ y. y < q.worlds) c.args.others.now c.requires.others n.0 n.1) row n.2)) n.1)

pub pruned-requires-clause-root : goal.pruned-requires-clause-root
pruned-requires-clause-root c = let w = c.in_ok-root-in-Some.ensures.formula.within in let l = ap length c.as_slice.ensures in omega (arith, w, l)

pub pruned-requires-clause-earlier : goal.pruned-requires-clause-earlier
pruned-requires-clause-earlier c =
    let q = c.args.q.now in
    let start : AreLines q.agents q.atoms 0 c.new-lines.result = subst (AreLines q.agents q.atoms 0) (sym c.new-lines.ensures) tt in
    let proper = (c.in_ok-root-in-Some.ensures.grows q.agents q.atoms).proper (c.in_ok-table.ensures.grows.proper start) in
    names_earlier q.agents q.atoms c.as_slice.result.now (subst (AreLines q.agents q.atoms 0) (sym c.as_slice.ensures) proper)

pub pruned-requires-clause-few : goal.pruned-requires-clause-few
pruned-requires-clause-few c =
    let l = ap length c.as_slice.ensures in
    let f = c.in_ok-table.ensures.few in
    let g = c.in_ok-root-in-Some.ensures.few in
    let h = square c.args.q.now.worlds c.requires.small in
    omega (arith, l, f, g, h)

pub returns : goal.returns
returns c =
    let q = c.args.q.now in
    let table = c.in_ok-table.table in
    let grid = whole_grid q c.tell_worlds.ensures.valid c.tell_worlds.new.lines table c.in_ok-table.ensures.told in
    let b : c.nearest-best.result < length table = let l = grid.long in let w = (in_all (λ x. x < q.worlds) c.args.xs.now c.requires.worlds c.nearest-best.result c.nearest-best.ensures.0) in omega (arith, l, w) in
    let row = c.as_slice-row.ensures ∙ c.index-rows-best.is ∙ ap (λ (rs : List _). get_or rs c.nearest-best.result c.index-rows-best.result) c.as_slice-rows.ensures ∙ get_or_default table c.nearest-best.result c.index-rows-best.result [] b in
    let start : AreLines q.agents q.atoms 0 c.new-lines.result = subst (AreLines q.agents q.atoms 0) (sym c.new-lines.ensures) tt in
    let proper = (c.in_ok-root-in-Some.ensures.grows q.agents q.atoms).proper (c.in_ok-table.ensures.grows.proper start) in
    if_ok c.pruned.result (IsCut c.as_slice.result.now c.in_ok-root-in-Some.root) (AreTold q c.args.xs.now c.args.others.now)
    (λ new u. record {
      world = c.nearest-best.result;
      missing = c.nearest-best.ensures;
      told = told_all q c.tell_worlds.ensures.valid c.tell_worlds.new.lines c.conjunction.new.lines new table c.as_slice-row.result.now c.nearest-best.result c.in_ok-root-in-Some.root c.args.others.now c.in-Some.parts
          proper c.in_ok-table.ensures.few c.in_ok-root-in-Some.ensures.few c.in_ok-table.ensures.told (in_all (λ x. x < q.worlds) c.args.xs.now c.requires.worlds c.nearest-best.result c.nearest-best.ensures.0)
          (in_all (λ y. y < q.worlds) c.args.others.now c.requires.others) row
          (subst (ArePartsOf c.as_slice-row.result.now c.args.others.now) c.in-Some.is c.in_ok-parts.ensures)
          c.in_ok-root-in-Some.ensures.formula (subst (λ ls. IsCut ls c.in_ok-root-in-Some.root new) c.as_slice.ensures u);
    }) c.pruned.ensures
