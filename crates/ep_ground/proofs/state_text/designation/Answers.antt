use Rattle.std.proofs.Common.{[], sym, ap, ◌∙◌, cond, codes}
use Rattle.ep_ground.proofs.TextLemmas.{same_test}
use Rattle.ep_ground.proofs.state_text.designation.Goals as goal

pub returns-in-true-clause-value : goal.returns-in-true-clause-value
returns-in-true-clause-value c =
    let same = same_test c.is_designated.result c.args.state.now.designated c.args.world.n c.is_designated.ensures.value in
    ap (λ b. cond b (codes " designated") []) (sym (same ∙ c.in-true.is))

pub returns-in-false-clause-value : goal.returns-in-false-clause-value
returns-in-false-clause-value c =
    let same = same_test c.is_designated.result c.args.state.now.designated c.args.world.n c.is_designated.ensures.value in
    ap (λ b. cond b (codes " designated") []) (sym (same ∙ c.in-false.is))
