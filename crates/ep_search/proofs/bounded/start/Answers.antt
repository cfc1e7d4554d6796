use Rattle.std.proofs.Common.{◌≡◌, [], ◌∷◌, refl, ◌∙◌, arith}
use Rattle.std.proofs.lemmas.Grind.{common_steps}
use Rattle.ep_search.proofs.StartLemmas.{start_pushed, start_empty}
use Rattle.ep_search.proofs.bounded.start.Goals as goal
use Rattle.ep_search.proofs.bounded.start.Goals.{then-setting-gt0+in_ok-enqueue, else-setting-gt0}

pub returns-clause-keeps : goal.returns-clause-keeps
returns-clause-keeps g c =
    let items : c.push.new.self.items ≡ c.args.setting.now.bounds.bound ∷ [] = grind (arith, common_steps) in
    let r = c.requires in
    elim c.if-setting-gt0.branch [
      | then-setting-gt0+in_ok-enqueue w ↦
          let pushed = w.in_ok-enqueue.ensures.pushed in
          (start_pushed c.args.problem.now c.args.setting.now.bounds c.args.canon r.setting.bounds r.canonical r.alike r.unmet r.narrow c.push.new.self items c.in-Ok._added c.new-store.result c.add.new.self c.new-store.ensures
          c.in-Ok.ensures.added c.new.result (record { score = pushed.0; id = record { n = 0 } }) c.new.ensures refl (omega (arith, w.if-setting-gt0.true)) c.if-setting-gt0.p (w.p-is ∙ pushed.1)).0
      | else-setting-gt0 w ↦
          (start_empty c.args.problem.now c.args.setting.now.bounds c.args.canon r.setting.bounds r.canonical r.alike r.unmet r.narrow c.push.new.self items c.in-Ok._added c.new-store.result c.add.new.self c.new-store.ensures
          c.in-Ok.ensures.added c.new.result c.new.ensures (omega (arith, w.if-setting-gt0.false)) c.if-setting-gt0.p w.p-is).0
    ]

pub returns-clause-covers : goal.returns-clause-covers
returns-clause-covers g c =
    let items : c.push.new.self.items ≡ c.args.setting.now.bounds.bound ∷ [] = grind (arith, common_steps) in
    let r = c.requires in
    elim c.if-setting-gt0.branch [
      | then-setting-gt0+in_ok-enqueue w ↦
          let pushed = w.in_ok-enqueue.ensures.pushed in
          (start_pushed c.args.problem.now c.args.setting.now.bounds c.args.canon r.setting.bounds r.canonical r.alike r.unmet r.narrow c.push.new.self items c.in-Ok._added c.new-store.result c.add.new.self c.new-store.ensures
          c.in-Ok.ensures.added c.new.result (record { score = pushed.0; id = record { n = 0 } }) c.new.ensures refl (omega (arith, w.if-setting-gt0.true)) c.if-setting-gt0.p (w.p-is ∙ pushed.1)).1
      | else-setting-gt0 w ↦
          (start_empty c.args.problem.now c.args.setting.now.bounds c.args.canon r.setting.bounds r.canonical r.alike r.unmet r.narrow c.push.new.self items c.in-Ok._added c.new-store.result c.add.new.self c.new-store.ensures
          c.in-Ok.ensures.added c.new.result c.new.ensures (omega (arith, w.if-setting-gt0.false)) c.if-setting-gt0.p w.p-is).1
    ]
