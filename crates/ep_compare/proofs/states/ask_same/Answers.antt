-- Whether the states are bisimilar.
use Rattle.std.proofs.Common.{◌≡◌, true, false, sym, ◌∙◌}
use Rattle.ep_compare.proofs.CompareLemmas.{compares_apart, compares_same}
use Rattle.ep_compare.proofs.states.ask_same.Goals as goal

pub returns-then-branch : goal.returns-then-branch
returns-then-branch c = compares_same c.args.first.now c.args.second.now (c.in_ok-same.ensures.0 c.if-branch.true)

pub returns-else-branch : goal.returns-else-branch
returns-else-branch c = compares_apart c.args.first.now c.args.second.now (λ h. let e : true ≡ false = sym (c.in_ok-same.ensures.1 h) ∙ c.if-branch.false in cc)
