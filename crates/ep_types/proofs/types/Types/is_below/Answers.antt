use Rattle.std.proofs.Common.{ap, sym, subst, ◌∙◌, IsTrue, ◌↔◌, Bool}
use Rattle.ep_types.specs.Names.{Typings, is_below, Reaches}
use Rattle.ep_types.proofs.Reaching.{below_reaches}
use Rattle.ep_types.proofs.types.Types.is_below.Goals as goal

pub returns-clause-value : goal.returns-clause-value
returns-clause-value c = c.is_name_below.ensures ∙ ap (λ types. is_below types c.args.kind.now c.args.above.now) c.self.view_is

pub returns-clause-reaches : goal.returns-clause-reaches
returns-clause-reaches c =
    let kind = c.args.kind.now in
    let above = c.args.above.now in
    let At : Typings → Type 0 = λ types. IsTrue (is_below types kind above) ↔ Reaches types kind above in
    let Test : Bool → Type 0 = λ b. IsTrue b ↔ Reaches c.args.self.now kind above in
    subst Test (sym (c.is_name_below.ensures ∙ ap (λ types. is_below types kind above) c.self.view_is)) (subst At c.self.view_is (below_reaches c.self.inside.rows c.self.invariant kind above))
