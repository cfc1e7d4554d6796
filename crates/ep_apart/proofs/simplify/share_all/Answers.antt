use Rattle.std.proofs.Common.{length, slice_index, ap, ap₂, subst, ◌∙◌, arith}
use Rattle.std.proofs.lemmas.List.{get_or_default}
use Rattle.ep_apart.specs.declared.lines.Line.{Line}
use Rattle.ep_apart.specs.Pruning.{Names, renumber}
use Rattle.ep_apart.specs.Simplifying.{IsShare}
use Rattle.ep_apart.proofs.SimplifyLemmas.{shared_names, shared_more}
use Rattle.ep_apart.proofs.simplify.share_all.Goals as goal

pub renumbered-requires : goal.renumbered-requires
renumbered-requires c = λ i n.
    let k = c.loop-line.line-index in
    let b = c.loop-line-test.true in
    let e = c.line-item.is ∙ get_or_default c.args.lines.now k c.line-item.result Line.True b in
    let x = c.requires.earlier k i b (subst (λ l. Names l i) e n) in
    let l = c.loop-line.invariant.long in
    let d = ap length c.deref.ensures.value in
    omega (arith, x, l, d)

pub share-requires-clause-names : goal.share-requires-clause-names
share-requires-clause-names c = λ i n.
    let k = c.loop-line.line-index in
    let b = c.loop-line-test.true in
    let e = c.line-item.is ∙ get_or_default c.args.lines.now k c.line-item.result Line.True b in
    let r = c.in_ok-renumbered.ensures ∙ ap₂ (λ ns l. renumber (slice_index ns) l) c.deref.ensures.value e in
    shared_names c.args.lines.now c.loop-line.numbers.items c.loop-line.shared k c.loop-line.invariant c.requires.earlier b i (subst (λ l. Names l i) r n)

pub loop-line-preserved : goal.loop-line-preserved
loop-line-preserved c =
    let k = c.loop-line.line-index in
    let b = c.loop-line-test.true in
    let e = c.line-item.is ∙ get_or_default c.args.lines.now k c.line-item.result Line.True b in
    let r = c.in_ok-renumbered.ensures ∙ ap₂ (λ ns l. renumber (slice_index ns) l) c.deref.ensures.value e in
    shared_more c.args.lines.now c.loop-line.numbers.items c.push.new.self.items c.loop-line.shared c.share.new.shared k c.in_ok-number.number c.loop-line.invariant c.requires.earlier b
    (subst (λ l. IsShare c.loop-line.shared l c.share.new.shared c.in_ok-number.number) r c.in_ok-number.ensures) c.in_ok-push.ensures.items
