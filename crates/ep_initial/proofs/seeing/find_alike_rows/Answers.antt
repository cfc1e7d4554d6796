use Rattle.std.proofs.Common.{◌≡◌, ◌++◌, ◌∷◌, [], length, get_or, ap, sym, ◌∙◌}
use Rattle.std.proofs.lemmas.List.{get_or_default}
use Rattle.ep_logic.specs.Numbers.{numbers_where}
use Rattle.ep_initial.specs.Seeing.{agree, alike}
use Rattle.ep_initial.proofs.SeeingLemmas.{table-more}
use Rattle.ep_initial.proofs.seeing.find_alike_rows.Goals as goal

pub loop-row-preserved : goal.loop-row-preserved
loop-row-preserved c =
    let rows = c.args.rows.now in
    let i = c.loop-row.row-index in
    let v = c.row-item.result in
    let item : v ≡ get_or rows i [] = c.row-item.is ∙ get_or_default rows i v [] c.loop-row-test.true in
    let row = c.deref.ensures.value ∙ c.in_ok-find_alike.ensures ∙ ap (λ u. numbers_where (λ w. agree c.args.atoms.now u (get_or rows w [])) (length rows)) item in
    c.in_ok-push.ensures.ok
    ∙ (λ j. c.loop-row.invariant j ++ row j ∷ [])
    ∙ sym (table-more (λ u. numbers_where (alike rows c.args.atoms.now u) (length rows)) i)
