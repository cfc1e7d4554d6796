use Rattle.std.proofs.Common.{length, sym, subst}
use Rattle.ep_theory.specs.Kripke.{links_of}
use Rattle.ep_theory.specs.Equivalences.{IsEquivalence}
use Rattle.ep_kripke.proofs.EquivalenceLemmas.{relation_fits}
use Rattle.ep_kripke.proofs.state.State.is_equivalence.Goals as goal

pub is_equivalence-requires-clause-rows : goal.is_equivalence-requires-clause-rows
is_equivalence-requires-clause-rows c = relation_fits c.args.self.now c.relation.ensures.valid c.args.a.n c.relation.result.now c.relation.ensures.rows c.relation.ensures.each

pub returns-clause-value : goal.returns-clause-value
returns-clause-value c =
    let s = c.args.self.now in (
      λ t. subst (λ n. IsEquivalence n (links_of s c.args.a.n)) c.relation.ensures.rows (subst (IsEquivalence (length c.relation.result.now)) c.relation.ensures.pairs (c.is_equivalence.ensures.0 t)),
      λ e. c.is_equivalence.ensures.1 (subst (IsEquivalence (length c.relation.result.now)) (sym c.relation.ensures.pairs) (subst (λ n. IsEquivalence n (links_of s c.args.a.n)) (sym c.relation.ensures.rows) e)),
    )
