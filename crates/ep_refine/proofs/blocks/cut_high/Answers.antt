use Rattle.std.proofs.Common.{◌≡◌, ◌+◌, ◌-◌, ◌/◌, ℕ, List, length, set, ap, ap₂, ◌∙◌, arith, refl}
use Rattle.ep_refine.specs.Blocks.{start_of, end_of, rank_of}
use Rattle.ep_refine.proofs.CutLemmas.{cut_high_is}
use Rattle.ep_refine.proofs.blocks.cut_high.Goals as goal

pub returns : goal.returns
returns c = λ side sides.
    let middle = c.args.middle in
    let to = end_of c.args.b.now c.args.w in
    let label = middle + (c.end-to.result - middle) / 2 in
    let e = c.end-to.ensures in
    let r : c.rank-rank.result ≡ rank_of c.args.b.now c.args.w = c.rank-rank.ensures in
    let h = c.requires.high in
    cut_high_is (length c.args.b.now.order.items) c.args.b.now _ c.args.w (start_of c.args.b.now c.args.w) to middle label c.requires.valid c.requires.world refl refl c.requires.low c.requires.high
    c.relabel.ensures.order c.relabel.ensures.place c.relabel.ensures.long side sides c.requires.rank (omega arith) (omega (arith, e, h))
    c.relabel.ensures.starts
    (ap₂ (λ (l : List ℕ) k. set l k middle) (c.relabel.ensures.ends ∙ ap (set c.args.b.now.ends.items label) e) r)
    (λ p f t. c.relabel.ensures.ranked p f (omega (arith, e, t)))
    (λ u f. c.relabel.ensures.others u (λ p g t. f p g (omega (arith, e, t))))
