use Rattle.std.proofs.Common.{◌≡◌, arith, length, subst, ◌∙◌, MatchBool}
use Rattle.std.specs.Cmp.{IsTotalOrder}
use Rattle.std.proofs.lemmas.Cmp.{on_total}
use Rattle.ep_refine.specs.declared.numbering.Keyed.{Keyed}
use Rattle.ep_refine.specs.Numbering.{IsAbove, IsLevel}
use Rattle.ep_refine.proofs.NumberingLemmas.{turn_above, turn_level}
use Rattle.ep_refine.proofs.numbering.number_places.Goals as goal
use Rattle.ep_refine.proofs.numbering.number_places.Goals.{then-is_new, else-is_new}

pub loop-i-preserved : goal.loop-i-preserved
loop-i-preserved g c =
    let C = λ (x y : Keyed g.row.K.Denot). g.K.Ord.cmp x.key y.key in
    let total : IsTotalOrder C = on_total (λ (x : Keyed g.row.K.Denot). x.key) g.met.K.Ord.total in
    let xs = c.args.sorted.now in
    let i = c.loop-i.i in
    elim c.if-is_new.branch [
      | then-is_new w ↦ turn_above C total xs c.loop-i.numbers.items c.push.new.self.items c.loop-i.count c.if-is_new.count i c.loop-i.invariant
          (subst (λ b. MatchBool b (IsAbove C xs i) (IsLevel C xs i)) w.if-is_new.true c.is_new.ensures) w.count-is c.in_ok-push.ensures.items
      | else-is_new w ↦ turn_level C total xs c.loop-i.numbers.items c.push.new.self.items c.loop-i.count c.if-is_new.count i c.loop-i.invariant
          (subst (λ b. MatchBool b (IsAbove C xs i) (IsLevel C xs i)) w.if-is_new.false c.is_new.ensures) w.count-is c.in_ok-push.ensures.items
    ]

pub returns-clause-ordered : goal.returns-clause-ordered
returns-clause-ordered g c =
    let all : c.loop-i.i ≡ length c.args.sorted.now = omega arith in
    record {
      one_each = c.loop-i.invariant.one_each ∙ all;
      ordered = λ i j d a b. c.loop-i.invariant.ordered i j d (omega arith) (omega arith);
    }
