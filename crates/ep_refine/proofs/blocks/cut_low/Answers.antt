use Rattle.std.proofs.Common.{◌≡◌, ◌+◌, ◌-◌, ◌/◌, ℕ, List, length, set, ap, ap₂, ◌∙◌, arith, refl}
use Rattle.ep_refine.specs.Blocks.{start_of, end_of, rank_of}
use Rattle.ep_refine.proofs.CutLemmas.{cut_low_is}
use Rattle.ep_refine.proofs.blocks.cut_low.Goals as goal

pub returns : goal.returns
returns c = λ side sides.
    let middle = c.args.middle in
    let from = start_of c.args.b.now c.args.w in
    let label = c.start-from.result + (middle - c.start-from.result) / 2 in
    let e = c.start-from.ensures in
    let r : c.rank-rank.result ≡ rank_of c.args.b.now c.args.w = c.rank-rank.ensures in
    let h = c.requires.low in
    cut_low_is (length c.args.b.now.order.items) c.args.b.now _ c.args.w from (end_of c.args.b.now c.args.w) middle label c.requires.valid c.requires.world refl refl c.requires.low c.requires.high
    c.relabel.ensures.order c.relabel.ensures.place c.relabel.ensures.long side sides c.requires.rank (omega (arith, e)) (omega (arith, e, h))
    (ap₂ (λ (l : List ℕ) k. set l k middle) (c.relabel.ensures.starts ∙ ap (set c.args.b.now.starts.items label) e) r)
    c.relabel.ensures.ends
    (λ p f t. c.relabel.ensures.ranked p (omega (arith, e, f)) t)
    (λ u f. c.relabel.ensures.others u (λ p g t. f p (omega (arith, e, g)) t))
