use Rattle.std.proofs.Common.{◌≡◌, List, ℕ, Bool, false, not, length, set, subst, sym, ap, ◌∙◌}
use Rattle.ep_refine.specs.Touching.{Listed, Adds}
use Rattle.ep_refine.proofs.TouchLemmas.{listed_new, adds_new}
use Rattle.ep_refine.proofs.touching.note.Goals as goal

pub returns-in_ok-push-clause-listed : goal.returns-in_ok-push-clause-listed
returns-in_ok-push-clause-listed c =
    subst (λ (row : List Bool). Listed (length c.args.left.now) row c.push.new.self.items) (sym c.set.ensures)
    (subst (λ (l : List ℕ). Listed (length c.args.left.now) (set c.args.left.now c.args.w false) l) (sym c.in_ok-push.ensures.items)
    (listed_new (length c.args.left.now) c.args.left.now c.args.list.now.items c.args.w c.requires.listed c.requires.within (ap not (sym c.get.ensures ∙ c.if-get.true))))

pub returns-in_ok-push-clause-adds : goal.returns-in_ok-push-clause-adds
returns-in_ok-push-clause-adds c =
    subst (λ (l : List ℕ). Adds (λ u. u ≡ c.args.w) c.args.list.now.items l) (sym c.in_ok-push.ensures.items)
    (adds_new (length c.args.left.now) c.args.left.now c.args.list.now.items c.args.w c.requires.listed c.requires.within (ap not (sym c.get.ensures ∙ c.if-get.true)))
