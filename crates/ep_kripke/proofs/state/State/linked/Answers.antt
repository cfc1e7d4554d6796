use Rattle.std.proofs.Common.{◌≡◌, subst, sym, [], get_or}
use Rattle.std.specs.Ordering.{nat_cmp}
use Rattle.ep_theory.specs.Rising.{IsIn, IsRising}
use Rattle.ep_theory.specs.Kripke.{links_of, successors}
use Rattle.ep_theory.proofs.CallerLemmas.{from_successors, IsIn-successors, rising_successors, links_rising}
use Rattle.ep_kripke.proofs.state.State.linked.Goals as goal

row : (c : goal.After-relation) → get_or c.relation.result.now c.args.w.n [] ≡ successors (links_of c.args.self.now c.args.a.n) c.args.w.n
row c = c.relation.ensures.each c.args.w.n c.requires.world

pub has-requires-clause-rising : goal.has-requires-clause-rising
has-requires-clause-rising c = subst (IsRising nat_cmp) (sym (row c)) (rising_successors (links_of c.args.self.now c.args.a.n) c.args.w.n (links_rising c.args.self.now c.relation.ensures.valid c.args.a.n))

pub returns-clause-value : goal.returns-clause-value
returns-clause-value c =
    let e = c.relation.ensures.each c.args.w.n c.requires.world in (
      λ t. from_successors c.args.w.n c.args.v.n (links_of c.args.self.now c.args.a.n) (subst (IsIn c.args.v.n) e (c.has.ensures.0 t)),
      λ i. c.has.ensures.1 (subst (IsIn c.args.v.n) (sym e) (IsIn-successors c.args.w.n c.args.v.n (links_of c.args.self.now c.args.a.n) i)),
    )
