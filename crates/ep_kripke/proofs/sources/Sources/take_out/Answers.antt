use Rattle.std.proofs.Common.{◌≡◌, ◌∷◌, [], ◌++◌, set, false, true, refl, sym, ◌∙◌, subst, rules}
use Rattle.ep_kripke.specs.Sources.{row_at}
use Rattle.ep_logic.specs.Rows.{value_at}
use Rattle.ep_kripke.proofs.TakingLemmas.{IsTaking, taking_none, taking_all, from_within, taking_skip, taking_take}
use Rattle.ep_kripke.proofs.sources.Sources.take_out.Goals as goal

pub loop-place-init : goal.loop-place-init
loop-place-init c = taking_none c.self.inside.links.items c.self.inside.last.items c.args.v c.index-place.result.now c.args.self.now c.args.row.now c.args.waiting.now.items
    c.self.invariant c.self.view_is c.requires.world c.requires.within c.index-place.ensures

pub get-requires : goal.get-requires
get-requires c = from_within c.self.inside.links.items c.self.invariant.back _ _ _ _ _ _ c.loop-place.invariant _ refl c.loop-place-test.true c.index-link.result.now c.index-link.ensures

pub loop-place-preserved-in_ok-map_err : goal.loop-place-preserved-in_ok-map_err
loop-place-preserved-in_ok-map_err c =
    let x = c.index-link.result.now in
    let links = c.self.inside.links.items in
    let all = row_at c.args.self.now c.args.v in
    let old = c.args.row.now in
    let waited = c.args.waiting.now.items in
    let pushed : c.push.new.self.items ≡ c.loop-place.waiting.items ++ x.from ∷ [] = search rules in
    let was : value_at c.loop-place.row x.from ≡ true = sym c.get.ensures ∙ c.if-get.true in
    subst (λ row. IsTaking links all old waited x.before row c.push.new.self.items) (sym c.set.ensures)
    (subst (λ waiting. IsTaking links all old waited x.before (set c.loop-place.row x.from false) waiting) (sym pushed)
    (taking_take links c.self.invariant.back all old waited _ _ _ c.loop-place.invariant _ refl c.loop-place-test.true x c.index-link.ensures was))

pub loop-place-preserved : goal.loop-place-preserved
loop-place-preserved c =
    taking_skip c.self.inside.links.items c.self.invariant.back _ _ _ _ _ _ c.loop-place.invariant _ refl c.loop-place-test.true c.index-link.result.now c.index-link.ensures
    (sym c.get.ensures ∙ c.if-get.false)

pub returns-clause-row : goal.returns-clause-row
returns-clause-row c = (taking_all c.self.inside.links.items c.self.invariant.back _ _ _ _ _ _ c.loop-place.invariant c.loop-place-test.false).0

pub returns-clause-waiting : goal.returns-clause-waiting
returns-clause-waiting c = (taking_all c.self.inside.links.items c.self.invariant.back _ _ _ _ _ _ c.loop-place.invariant c.loop-place-test.false).1
