use Rattle.std.proofs.Common.{◌≡◌, codes, sym, ◌∙◌, arith}
use Rattle.ep_audit.proofs.OneLemmas.{same_number}
use Rattle.ep_audit.proofs.take.take_count.Goals as goal

pub returns-then-count-eq0 : goal.returns-then-count-eq0
returns-then-count-eq0 c = λ next h.
    let same : h.count ≡ c.in-Some.count = same_number (codes "states ") h.count c.in-Some.count h.most c.in-Some.ensures.1 (sym h.is_line ∙ c.in-Some.ensures.0) in
    absurd (omega (arith, same, h.least, c.if-count-eq0.true))

pub returns-in-None : goal.returns-in-None
returns-in-None c = λ next h. c.in-None.ensures h.count h.most h.is_line
