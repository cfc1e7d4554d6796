use Rattle.std.proofs.Common.{length, subst, sym, ◌∙◌}
use Rattle.ep_theory.specs.Rising.{IsIn}
use Rattle.ep_kripke.specs.Relations.{members}
use Rattle.ep_kripke.proofs.RelationLemmas.{member_is}
use Rattle.ep_kripke.proofs.row.Row.has_member.Goals as goal

pub returns : goal.returns
returns c =
    let h = member_is c.words.result.now (length c.args.self.now) c.args.v c.words.ensures.packed in
    let e = c.words.ensures.value in
    (λ t. subst (λ row. IsIn c.args.v (members row)) e (h.0 (sym c.bit_of.ensures ∙ t)), λ i. c.bit_of.ensures ∙ h.1 (subst (λ row. IsIn c.args.v (members row)) (sym e) i))
