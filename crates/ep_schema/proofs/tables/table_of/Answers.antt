use Rattle.std.proofs.Common.{◌≢◌, All, sym, subst}
use Rattle.ep_types.specs.Names.{Text}
use Rattle.ep_schema.proofs.DifferLemmas.{new_text}
use Rattle.ep_schema.proofs.tables.table_of.Goals as goal

pub push-requires-clause-new : goal.push-requires-clause-new
push-requires-clause-new c =
    let x = c.text-item.result in
    let new = new_text c.args.texts.now c.loop-text.text-index x c.requires.apart c.loop-text-test.true c.text-item.is in
    let P : Text → Type 0 = λ t. All (λ known. known ≢ t) c.loop-text.table in
    subst P (sym c.in_ok-copy_text.ensures) (subst (All (λ known. known ≢ x)) (sym c.loop-text.invariant) new)
