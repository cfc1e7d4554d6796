use Rattle.std.proofs.Common.{◌≡◌, length, map, get_or, take, sym, ap, ap₂, ◌∙◌, arith}
use Rattle.std.proofs.lemmas.Result.{IfOk-weaker}
use Rattle.ep_logic.specs.Numbers.{table}
use Rattle.ep_logic.proofs.CallerLemmas.{length-table}
use Rattle.ep_dynamic.specs.Sizes.{more, join, joined, size_at, known_size, reduced_size, reduced_sizes}
use Rattle.ep_dynamic.proofs.SizeLemmas.{sizes-True, sizes-False, sizes-Atom, sizes-Not, sizes-And, sizes-Or, sizes-Knows, sizes-Common, part_sizes-more}
use Rattle.ep_dynamic.proofs.sizes.+sizes.Goals as goal

pub sizes_at_all-returns-in-Atom : goal.sizes_at_all-returns-in-Atom
sizes_at_all-returns-in-Atom t c = IfOk-weaker c.value_row.result _ _ (λ row h. h ∙ sizes-Atom c.args.a.now c.in-Atom.p ∙ ap (reduced_sizes c.args.a.now) (sym c.in-Atom.is)) c.value_row.ensures

pub sizes_at_all-returns-in_ok-row-in-Not : goal.sizes_at_all-returns-in_ok-row-in-Not
sizes_at_all-returns-in_ok-row-in-Not t c = IfOk-weaker c.above_row.result _ _ (λ row h.
    h ∙ ap (map more) (c.as_slice.ensures ∙ c.in_ok-row-in-Not.ensures ∙ ap (reduced_sizes c.args.a.now) c.get.ensures)
    ∙ sizes-Not c.args.a.now c.in-Not.inner ∙ ap (reduced_sizes c.args.a.now) (sym c.in-Not.is)) c.above_row.ensures

pub sizes_at_all-returns-in_ok-row-in-And : goal.sizes_at_all-returns-in_ok-row-in-And
sizes_at_all-returns-in_ok-row-in-And t c = IfOk-weaker c.above_row-in-And.result _ _ (λ row h.
    h ∙ ap (map more) (c.as_slice-in-And.ensures ∙ c.in_ok-row-in-And.ensures)
    ∙ sizes-And c.args.a.now c.in-And.parts ∙ ap (reduced_sizes c.args.a.now) (sym c.in-And.is)) c.above_row-in-And.ensures

pub sizes_at_all-returns-in_ok-row-in-Or : goal.sizes_at_all-returns-in_ok-row-in-Or
sizes_at_all-returns-in_ok-row-in-Or t c = IfOk-weaker c.above_row-in-Or.result _ _ (λ row h.
    h ∙ ap (map more) (c.as_slice-in-Or.ensures ∙ c.in_ok-row-in-Or.ensures)
    ∙ sizes-Or c.args.a.now c.in-Or.parts ∙ ap (reduced_sizes c.args.a.now) (sym c.in-Or.is)) c.above_row-in-Or.ensures

pub sizes_at_all-known_row-requires : goal.sizes_at_all-known_row-requires
sizes_at_all-known_row-requires t c =
    ap length (c.as_slice-in-Knows.ensures ∙ c.in_ok-row-in-Knows.ensures) ∙ length-table (reduced_size c.args.a.now c.get-in-Knows.result.now) (length c.args.a.now.events)

pub sizes_at_all-returns-in_ok-row-in-Knows : goal.sizes_at_all-returns-in_ok-row-in-Knows
sizes_at_all-returns-in_ok-row-in-Knows t c = IfOk-weaker c.known_row.result _ _ (λ row h.
    h ∙ ap (λ r. table (known_size c.args.a.now c.in-Knows.g.n r) (length c.args.a.now.events)) (c.as_slice-in-Knows.ensures ∙ c.in_ok-row-in-Knows.ensures ∙ ap (reduced_sizes c.args.a.now) c.get-in-Knows.ensures)
    ∙ sizes-Knows c.args.a.now c.agents-agents.ensures.valid c.in-Knows.g c.in-Knows.inner ∙ ap (reduced_sizes c.args.a.now) (sym c.in-Knows.is)) c.known_row.ensures

pub sizes_at_all-returns-in_ok-row-in-Common : goal.sizes_at_all-returns-in_ok-row-in-Common
sizes_at_all-returns-in_ok-row-in-Common t c = IfOk-weaker c.above_row-in-Common.result _ _ (λ row h.
    h ∙ ap (map more) (c.as_slice-in-Common.ensures ∙ c.in_ok-row-in-Common.ensures ∙ ap (reduced_sizes c.args.a.now) c.get-in-Common.ensures)
    ∙ sizes-Common c.args.a.now c.in-Common.field-0 c.in-Common.inner ∙ ap (reduced_sizes c.args.a.now) (sym c.in-Common.is)) c.above_row-in-Common.ensures

pub sizes_of_parts-joined_row-requires : goal.sizes_of_parts-joined_row-requires
sizes_of_parts-joined_row-requires t c =
    let A = c.args.a.now in
    ap length (c.as_slice.ensures ∙ c.loop-part.invariant) ∙ length-table (λ e. joined (map (λ f. reduced_size A f e) (take c.loop-part.part-index c.args.parts.now))) (length A.events)
    ∙ sym (ap length (c.as_slice-in-loop-part.ensures ∙ c.in_ok-next.ensures) ∙ length-table (reduced_size A c.part-item.result) (length A.events))

pub sizes_of_parts-loop-part-preserved : goal.sizes_of_parts-loop-part-preserved
sizes_of_parts-loop-part-preserved t c =
    let A = c.args.a.now in
    let fs = c.args.parts.now in
    let i = c.loop-part.part-index in
    let d = c.part-item.result in
    let items = c.as_slice-part-items.ensures in
    let part : c.part-item.result ≡ get_or c.args.parts.now c.loop-part.part-index c.part-item.result = c.part-item.is ∙ ap (λ xs. get_or xs i d) items in
    let first = c.as_slice.ensures ∙ c.loop-part.invariant in
    let second = c.as_slice-in-loop-part.ensures ∙ c.in_ok-next.ensures ∙ ap (reduced_sizes A) part in
    c.in_ok-row-2.ensures
    ∙ ap₂ (λ xs ys. table (λ e. join (size_at xs e) (size_at ys e)) (length xs)) first second
    ∙ part_sizes-more A fs i d (omega (arith, ap length items, c.loop-part-test.true))

pub sizes_at_all-returns-in-True : goal.sizes_at_all-returns-in-True
sizes_at_all-returns-in-True t c = IfOk-weaker c.same_everywhere.result _ _ (λ row h. h ∙ sizes-True c.args.a.now ∙ ap (reduced_sizes c.args.a.now) (sym c.in-True.is)) c.same_everywhere.ensures

pub sizes_at_all-returns-in-False : goal.sizes_at_all-returns-in-False
sizes_at_all-returns-in-False t c = IfOk-weaker c.same_everywhere-in-False.result _ _ (λ row h. h ∙ sizes-False c.args.a.now ∙ ap (reduced_sizes c.args.a.now) (sym c.in-False.is)) c.same_everywhere-in-False.ensures
