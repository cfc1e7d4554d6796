use Rattle.std.proofs.Common.{◌≡◌, ◌+◌, [], ap, sym, ◌∙◌, unwrap_or, drop, cond}
use Rattle.std.specs.Option.{option_copied}
use Rattle.ep_logic.specs.Rows.{value_at}
use Rattle.ep_universe.specs.Objects.{group_of}
use Rattle.ep_initial.specs.Seeing.{last_seen}
use Rattle.ep_universe.proofs.CallerLemmas.{has_is_member}
use Rattle.ep_initial.proofs.SeeingLemmas.{last_more}
use Rattle.ep_initial.proofs.seeing.find_last_seen.Goals as goal
use Rattle.ep_initial.proofs.seeing.find_last_seen.Goals.{then-has, else-has}

pub loop-item-preserved : goal.loop-item-preserved
loop-item-preserved c =
    let d = c.args.universe.now.names in
    let a = c.args.agent.n in
    let i = c.loop-item.item-index in
    let s = c.item-item.result in
    let before = unwrap_or (option_copied c.loop-item.last) [] in
    let member : c.has.result ≡ value_at (group_of d [] s.group) a = has_is_member c.has.result c.group_of.result a c.has.ensures ∙ ap (λ g. value_at g a) c.group_of.ensures.value in
    let step = c.loop-item.invariant ∙ last_more d a before c.args.sees.now i s c.loop-item-test.true c.item-item.is
    ∙ ap (λ t. last_seen d a (cond t s.atoms before) (drop (i + 1) c.args.sees.now)) (sym member) in
    elim c.if-has.branch [
      | then-has w ↦ step ∙ (λ j. last_seen d a (cond (w.if-has.true j) s.atoms before) (drop (i + 1) c.args.sees.now))
          ∙ ap (λ o. last_seen d a (unwrap_or (option_copied o) []) (drop (i + 1) c.args.sees.now)) (sym w.last-is)
      | else-has w ↦ step ∙ (λ j. last_seen d a (cond (w.if-has.false j) s.atoms before) (drop (i + 1) c.args.sees.now))
          ∙ ap (λ o. last_seen d a (unwrap_or (option_copied o) []) (drop (i + 1) c.args.sees.now)) (sym w.last-is)
    ]
