use Rattle.std.proofs.Common.{◌≡◌, IfSome, subst}
use Rattle.ep_apart.specs.declared.lines.Line.{Line}
use Rattle.ep_apart.specs.Pruning.{line_at}
use Rattle.ep_apart.proofs.SimplifyLemmas.{share_double}
use Rattle.ep_apart.proofs.simplify.share_negation.Goals as goal

pub returns-in-Some : goal.returns-in-Some
returns-in-Some c =
    share_double c.args.shared.now c.args.i c.in-Some.j c.requires.earlier c.requires.within
    (subst (λ ls. line_at ls c.args.i ≡ Line.Not c.in-Some.j) c.as_slice.ensures
    (subst (λ o. IfSome o (λ j. line_at c.as_slice.result.now c.args.i ≡ Line.Not j)) c.in-Some.is c.negated.ensures))
