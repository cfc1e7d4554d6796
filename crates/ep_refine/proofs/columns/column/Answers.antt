use Rattle.std.proofs.Common.{ℕ, List, map, slice_index, get_or, subst, ap, ap₂, ◌∙◌, refl}
use Rattle.std.specs.Ordering.{nat_cmp}
use Rattle.std.specs.Cmp.Lexicographic.{slice_cmp}
use Rattle.std.specs.declared.alloc.Global.{Global}
use Rattle.std.specs.declared.vec.Vec.{Vec}
use Rattle.ep_theory.specs.Kripke.{links_of}
use Rattle.ep_refine.specs.Groups.{IsWithin}
use Rattle.ep_refine.specs.Columns.{ranks_of}
use Rattle.ep_refine.proofs.BackwardLemmas.{row_of, names_long}
use Rattle.ep_refine.proofs.ColumnLemmas.{spread_orders}
use Rattle.ep_refine.proofs.columns.column.Goals as goal

pub returns : goal.returns
returns c =
    let S = c.args.s.now in
    let a = c.args.a.n in
    let names = c.names.result.0.now in
    let rows = c.names.result.1.now in
    let long = names_long S c.relation.ensures.valid a names rows c.relation.result.now c.names.ensures.rows c.relation.ensures.rows c.relation.ensures.each in
    let row = row_of S c.relation.ensures.valid a names rows c.relation.result.now c.names.ensures.rows c.relation.ensures.rows c.relation.ensures.each in
    let slots = c.first_worlds.new.slots.items in
    let firsts = c.in_ok-firsts.firsts.items in
    spread_orders (λ (l m : Vec ℕ Global). slice_cmp nat_cmp l.items m.items) (λ l. l.items) (λ x y. refl) (links_of S a) (slice_index c.args.ranks.now) names rows S.worlds row
    c.args.worlds.now slots firsts c.requires.within (subst (λ n. IsWithin n firsts) long c.in_ok-firsts.ensures.firsts) c.in_ok-firsts.ensures.slots
    c.in_ok-lists.lists.items (c.in_ok-lists.ensures ∙ ap (map (ranks_of (links_of S a) (slice_index c.args.ranks.now))) c.deref.ensures.value)
    c.in_ok-numbers.field-0.numbers.items c.in_ok-numbers.ensures.ordered c.in_ok-column.column
    (c.in_ok-column.ensures ∙ ap₂ (λ (ss ns : List ℕ). map (λ w. get_or ns (get_or ss (get_or names w 0) 0) 0) c.args.worlds.now) c.deref-2.ensures.value c.deref-3.ensures.value)
