use Rattle.std.proofs.Common.{◌≡◌, inl, [], ◌∷◌, ◌++◌, refl, sym, ap, ◌∙◌, subst, arith}
use Rattle.std.proofs.lemmas.Grind.{common_steps}
use Rattle.std.proofs.lemmas.Option.{same_Some}
use Rattle.ep_guide.specs.Waitings.{placed}
use Rattle.ep_store.specs.declared.entry.Entry.{Entry}
use Rattle.ep_search.specs.Sound.{IsBest}
use Rattle.ep_search.proofs.TriedLemmas.{Trial, new_at, better_at, better_within, known_at, many_by, found_by, grows_placed, grows_same}
use Rattle.ep_search.proofs.child.store_child.Goals as goal
use Rattle.ep_search.proofs.child.store_child.Goals.{then-weight-setting+in_ok-enqueue-in-Ok-New, else-weight-setting}

pub returns-in-Ok-New-clause-tried : goal.returns-in-Ok-New-clause-tried
returns-in-Ok-New-clause-tried g c =
    let l = c.requires.leads in
    let t : Trial c.args.problem.now c.args.setting.now.bounds c.args.p.now c.args.step l.entry = record { keeps = c.requires.keeps; covers = c.requires.covers; at = l.at; may = l.holds.0 } in
    let weight : c.weight.result ≡ l.entry.weight = c.weight.ensures.holds ∙ ap (λ (e : Entry). e.weight) (same_Some c.weight.ensures.entry l.entry (sym c.weight.ensures.at ∙ l.at)) in
    let items : c.push.new.self.items ≡ c.args.p.now.expanded.items ++ c.args.setting.now.bounds.bound ∷ [] = grind (arith, common_steps) in
    let new = new_at _ _ _ _ _ t c.args.canon l.holds.1 c.requires.canonical c.requires.unmet c.requires.narrow _ weight c.add.new.self c.if-weight-setting.p c.in-Ok-New.child
    (rw c.in-Ok-New.field-0-is at c.in-Ok-New.ensures.added) c.push.new.self items in
    elim c.if-weight-setting.branch [
      | then-weight-setting+in_ok-enqueue-in-Ok-New w ↦
          let pushed = w.in_ok-enqueue-in-Ok-New.ensures.pushed in
          new (placed (record { score = pushed.0; id = c.in-Ok-New.child }) c.args.p.now.frontier) (grows_placed _ _ _ (omega (arith, w.if-weight-setting.true))) (w.p-is ∙ pushed.1)
      | else-weight-setting w ↦ new c.args.p.now.frontier (grows_same _ _ _ (λ h. omega (arith, w.if-weight-setting.false, h))) w.p-is
    ]

pub returns-in-Ok-Better-clause-tried : goal.returns-in-Ok-Better-clause-tried
returns-in-Ok-Better-clause-tried g c =
    let l = c.requires.leads in
    let t : Trial c.args.problem.now c.args.setting.now.bounds c.args.p.now c.args.step l.entry = record { keeps = c.requires.keeps; covers = c.requires.covers; at = l.at; may = l.holds.0 } in
    let weight : c.weight.result ≡ l.entry.weight = c.weight.ensures.holds ∙ ap (λ (e : Entry). e.weight) (same_Some c.weight.ensures.entry l.entry (sym c.weight.ensures.at ∙ l.at)) in
    let adds = rw c.in-Ok-Better.field-0-is at c.in-Ok-Better.ensures.added in
    let pushed = c.in_ok-enqueue-in-Ok-Better.ensures.pushed in
    better_at _ _ _ _ _ t c.args.canon l.holds.1 c.requires.canonical c.requires.unmet c.requires.narrow _ weight c.add.new.self _ c.in-Ok-Better.child
    adds (placed (record { score = pushed.0; id = c.in-Ok-Better.child }) c.args.p.now.frontier)
    (grows_placed _ _ _ (omega (arith, weight, adds.greater.holds, (c.requires.keeps.sound.each _ _ adds.greater.at).within))) pushed.1

pub returns-in-Ok-Known-clause-tried : goal.returns-in-Ok-Known-clause-tried
returns-in-Ok-Known-clause-tried g c =
    let l = c.requires.leads in
    let t : Trial c.args.problem.now c.args.setting.now.bounds c.args.p.now c.args.step l.entry = record { keeps = c.requires.keeps; covers = c.requires.covers; at = l.at; may = l.holds.0 } in
    let weight : c.weight.result ≡ l.entry.weight = c.weight.ensures.holds ∙ ap (λ (e : Entry). e.weight) (same_Some c.weight.ensures.entry l.entry (sym c.weight.ensures.at ∙ l.at)) in
    known_at _ _ _ _ _ t c.args.canon l.holds.1 c.requires.canonical c.requires.unmet c.requires.narrow _ weight c.add.new.self _ c.in-Ok-Known.field-0-0
    (rw c.in-Ok-Known.field-0-is at c.in-Ok-Known.ensures.added) refl

pub returns-in-Some-clause-tried : goal.returns-in-Some-clause-tried
returns-in-Some-clause-tried g c =
    let l = c.requires.leads in
    let k = c.requires.keeps in
    let adds = rw c.in-Err-Full.field-0-is at c.in-Err-Full.ensures.refused in
    found_by _ _ _ _ _ (subst (IsBest c.args.problem.now c.args.setting.now.bounds c.args.p.now.least) (sym c.take.ensures.value ∙ c.in-Some.is) k.best)
    (inl (many_by _ _ c.args.p.now c.args.step _ c.args.canon k l.at l.holds.0 l.holds.1 c.requires.canonical c.requires.unmet adds.1.absent adds.1.full))

pub returns-in-Err-Full-clause-tried : goal.returns-in-Err-Full-clause-tried
returns-in-Err-Full-clause-tried g c =
    let l = c.requires.leads in
    let k = c.requires.keeps in
    let adds = rw c.in-Err-Full.field-0-is at c.in-Err-Full.ensures.refused in
    many_by _ _ c.args.p.now c.args.step _ c.args.canon k l.at l.holds.0 l.holds.1 c.requires.canonical c.requires.unmet adds.1.absent adds.1.full

pub enqueue-requires-in-Ok-Better : goal.enqueue-requires-in-Ok-Better
enqueue-requires-in-Ok-Better g c = better_within _ _ _ _ (rw c.in-Ok-Better.field-0-is at c.in-Ok-Better.ensures.added)
