use Rattle.std.proofs.Common.{◌≡◌, ◌++◌, ◌∷◌, [], slice_get, Some, sym, ap, ◌∙◌, subst, arith}
use Rattle.std.proofs.lemmas.Grind.{common_steps}
use Rattle.ep_store.specs.Stored.{Stored, IsPath}
use Rattle.ep_store.specs.Inside.{IsTree}
use Rattle.ep_store.proofs.PathLemmas.{IsPart, part_more, part_end, part_light}
use Rattle.ep_store.proofs.store.Store.path.Goals as goal

pub loop-step-preserved : goal.loop-step-preserved
loop-step-preserved c =
    let es = ap (λ (s : Stored). s.entries) c.self.view_is in
    let tree : IsTree c.args.self.now.entries = subst IsTree es c.self.invariant.tree in
    let at : slice_get c.args.self.now.entries c.loop-step.at.n ≡ Some c.index.result.now = ap (λ xs. slice_get xs c.loop-step.at.n) (sym es) ∙ c.index.ensures in
    let items : c.push.new.self.items ≡ c.loop-step.path.items ++ c.in-Some.step ∷ [] = grind (arith, common_steps) in
    subst (IsPart c.args.self.now.entries c.args.id.n c.in-Some.step.parent.n) (sym items)
    (part_more c.args.self.now.entries c.args.id.n c.loop-step.at.n c.loop-step.path.items c.index.result.now c.in-Some.step tree c.loop-step.invariant at c.in-Some.is)

pub returns-clause-path : goal.returns-clause-path
returns-clause-path c =
    let es = ap (λ (s : Stored). s.entries) c.self.view_is in
    let at : slice_get c.args.self.now.entries c.loop-step.at.n ≡ Some c.index.result.now = ap (λ xs. slice_get xs c.loop-step.at.n) (sym es) ∙ c.index.ensures in
    subst (IsPath c.args.self.now.entries c.args.id.n) (sym (c.from_vec.ensures ∙ c.reverse.ensures.items))
    (part_end c.args.self.now.entries c.args.id.n c.loop-step.at.n c.loop-step.path.items c.index.result.now c.loop-step.invariant at c.in_default.is)

pub returns-clause-tolls : goal.returns-clause-tolls
returns-clause-tolls c =
    part_light c.args.self.now.entries c.args.id.n c.loop-step.at.n c.loop-step.path.items c.from_vec.result c.requires c.loop-step.invariant
    (c.from_vec.ensures ∙ c.reverse.ensures.items)
