use Rattle.std.proofs.Common.{◌≡◌, ◌∙◌, ◌+◌, ◌<◌, max, get_or, sym, ap, subst}
use Rattle.ep_logic.specs.Nodes.{node_count, depth_of}
use Rattle.ep_theory.specs.Events.{event_at}
use Rattle.ep_dynamic.specs.Reduction.{reduce}
use Rattle.ep_dynamic.specs.Sizes.{capped, size_of}
use Rattle.ep_dynamic.proofs.GreatestLemmas.{size_both, size_in_row, row_long}
use Rattle.ep_dynamic.proofs.greatest.pre_size.Goals as goal

pub bounds-as_slice-at : goal.bounds-as_slice-at
bounds-as_slice-at c = subst (λ n. c.args.at.0 < n) (sym (row_long c.args.a.now c.node.result.now c.as_slice.result.now (c.as_slice.ensures ∙ c.in_ok-row.ensures))) c.requires.first

pub returns : goal.returns
returns c =
    let nodes : c.nodes.result ≡ node_count (event_at c.args.a.now c.args.at.0).pre = c.nodes.ensures.value ∙ ap node_count c.pre-pre.ensures.value in
    let depth : c.depth.result ≡ depth_of (event_at c.args.a.now c.args.at.0).pre = c.depth.ensures.value ∙ ap depth_of c.pre-pre.ensures.value in
    let said : get_or c.as_slice.result.now c.args.at.0 (record { nodes = 0; depth = 0 }) ≡ size_of (reduce c.args.a.now c.args.at.0 (event_at c.args.b.now c.args.at.1).pre) =
    size_in_row c.args.a.now c.node.result.now c.args.at.0 c.as_slice.result.now (c.as_slice.ensures ∙ c.in_ok-row.ensures) c.requires.first
    ∙ ap (λ f. size_of (reduce c.args.a.now c.args.at.0 f)) (c.node.ensures.value ∙ c.pre.ensures.value) in
    c.conjoined.ensures ∙ (λ i. capped (nodes i + (said i).nodes + 1) (max (depth i) (said i).depth + 1))
    ∙ size_both (event_at c.args.a.now c.args.at.0).pre (reduce c.args.a.now c.args.at.0 (event_at c.args.b.now c.args.at.1).pre)
