use Rattle.std.proofs.Common.{◌<◌, ◌+◌, All, length, sym, ap, ◌∙◌, subst, arith}
use Rattle.ep_kripke.specs.Sources.{with_sources}
use Rattle.ep_truth.proofs.LabelLemmas.{successors_within}
use Rattle.ep_truth.proofs.CommonLemmas.{IsAdding, adding_skip, adding_more, adding_room, adding_all, adding_counted}
use Rattle.ep_truth.proofs.common.add_links.Goals as goal
use Rattle.ep_truth.proofs.common.add_links.Goals.{then-get+in_ok-read_targets+in_ok-add_all, else-get}

pub add_all-requires-clause-worlds : goal.add_all-requires-clause-worlds
add_all-requires-clause-worlds c =
    let s = c.args.s.now in
    subst (λ n. All (λ v. v < n) c.deref.result.now) (sym c.loop-w.invariant.long)
    (subst (λ vs. All (λ v. v < s.worlds) vs) (sym (c.deref.ensures.value ∙ c.in_ok-read_targets.ensures.value)) (successors_within s c.in_ok-read_targets.ensures.valid c.args.a.n c.loop-w.w))

pub add_all-requires-clause-room : goal.add_all-requires-clause-room
add_all-requires-clause-room c =
    let s = c.args.s.now in
    omega (arith, adding_room s c.in_ok-read_targets.ensures.valid c.args.a.n c.args.row.now c.args.sources.now c.loop-w.w c.loop-w.sources c.loop-w.invariant, ap length (c.deref.ensures.value ∙ c.in_ok-read_targets.ensures.value), c.requires.room)

pub loop-w-preserved : goal.loop-w-preserved
loop-w-preserved c =
    let s = c.args.s.now in
    let a = c.args.a.n in
    let row = c.args.row.now in
    let old = c.args.sources.now in
    let valid = c.worlds-w-end.ensures.valid in
    elim c.if-get.branch [
      | then-get+in_ok-read_targets+in_ok-add_all w ↦ subst (IsAdding s a row old (c.loop-w.w + 1)) (sym w.sources-is)
          (adding_more s valid a row old c.loop-w.w c.loop-w.sources w.add_all.new.self (sym c.get.ensures ∙ w.if-get.true) c.loop-w.invariant
          (w.in_ok-add_all.ensures ∙ ap (with_sources c.loop-w.sources c.loop-w.w) (w.deref.ensures.value ∙ w.in_ok-read_targets.ensures.value)))
      | else-get w ↦ subst (IsAdding s a row old (c.loop-w.w + 1)) (sym w.sources-is)
          (adding_skip s valid a row old c.loop-w.w c.loop-w.sources (sym c.get.ensures ∙ w.if-get.false) c.loop-w.invariant)
    ]

pub returns-clause-counted : goal.returns-clause-counted
returns-clause-counted c = adding_counted c.args.s.now c.worlds-w-end.ensures.valid c.args.a.n c.args.row.now c.args.sources.now c.loop-w.w c.loop-w.sources c.loop-w.invariant

pub returns-clause-gains : goal.returns-clause-gains
returns-clause-gains c =
    adding_all c.args.s.now c.worlds-w-end.ensures.valid c.args.a.n c.args.row.now c.args.sources.now c.loop-w.w c.loop-w.sources
    (omega (arith, c.worlds-w-end.ensures.value)) c.loop-w.invariant
