use Rattle.std.proofs.Common.{◌≡◌, ◌+◌, ap, sym, ◌∙◌, unwrap_or, drop, cond}
use Rattle.std.specs.Option.{option_copied}
use Rattle.ep_logic.specs.Rows.{value_at}
use Rattle.ep_tree.specs.declared.tree.PairsTree.TheVariants.{Same}
use Rattle.ep_universe.specs.Objects.{group_of}
use Rattle.ep_universe.specs.Links.{last_pairs}
use Rattle.ep_universe.proofs.LinkLemmas.{has_is_member, last_more}
use Rattle.ep_universe.proofs.links.find_last_pairs.Goals as goal
use Rattle.ep_universe.proofs.links.find_last_pairs.Goals.{then-has, else-has}

pub loop-link-preserved : goal.loop-link-preserved
loop-link-preserved c =
    let d = c.args.universe.now.names in
    let b = c.args.binding.now in
    let a = c.args.agent.n in
    let i = c.loop-link.link-index in
    let l = c.link-item.result in
    let member : c.has.result ≡ value_at (group_of d b l.group) a = has_is_member c.has.result c.group_of.result a c.has.ensures ∙ ap (λ g. value_at g a) c.group_of.ensures.value in
    let step = c.loop-link.invariant ∙ last_more d b a (unwrap_or (option_copied c.loop-link.last) Same) c.args.links.now i l c.loop-link-test.true c.link-item.is
    ∙ ap (λ t. last_pairs d b a (cond t l.pairs (unwrap_or (option_copied c.loop-link.last) Same)) (drop (i + 1) c.args.links.now)) (sym member) in
    elim c.if-has.branch [
      | then-has w ↦ step ∙ (λ j. last_pairs d b a (cond (w.if-has.true j) l.pairs (unwrap_or (option_copied c.loop-link.last) Same)) (drop (i + 1) c.args.links.now))
          ∙ ap (λ o. last_pairs d b a (unwrap_or (option_copied o) Same) (drop (i + 1) c.args.links.now)) (sym w.last-is)
      | else-has w ↦ step ∙ (λ j. last_pairs d b a (cond (w.if-has.false j) l.pairs (unwrap_or (option_copied c.loop-link.last) Same)) (drop (i + 1) c.args.links.now))
          ∙ ap (λ o. last_pairs d b a (unwrap_or (option_copied o) Same) (drop (i + 1) c.args.links.now)) (sym w.last-is)
    ]
