use Rattle.std.proofs.Common.{[], length, get_or, ◌∙◌, sym, refl, ap, subst}
use Rattle.ep_apart.specs.Missed.{bit}
use Rattle.ep_apart.specs.Tables.{IsLone, IsLoneLink}
use Rattle.ep_apart.proofs.Results.{if_ok}
use Rattle.ep_apart.proofs.TableLemmas.{lone_link, successors_below}
use Rattle.ep_apart.proofs.table.lone_link.Goals as goal

pub returns-then-not-may_miss-clause-found : goal.returns-then-not-may_miss-clause-found
returns-then-not-may_miss-clause-found c = (
  refl,
  (c.requires.missed.each c.args.agent.n c.requires.agent).answered c.args.c.n c.args.d.n c.requires.first c.requires.second
      (ap (λ m. bit (get_or m c.args.agent.n []) c.args.c.n c.args.d.n) (sym c.as_slice.ensures) ∙ sym c.may_miss.ensures ∙ c.if-not-may_miss.true),
)

pub lone-requires-clause-from : goal.lone-requires-clause-from
lone-requires-clause-from c = successors_below c.args.q.now c.in_ok-read_targets.ensures.valid c.args.agent.n c.args.c.n (length c.as_slice-2.result.now) c.deref.result.now (c.deref.ensures.value ∙ c.in_ok-read_targets.ensures.value) (sym c.requires.grid.long ∙ ap length (sym c.as_slice-2.ensures))

pub lone-requires-clause-to : goal.lone-requires-clause-to
lone-requires-clause-to c = successors_below c.args.q.now c.in_ok-read_targets.ensures.valid c.args.agent.n c.args.d.n (length c.as_slice-2.result.now) c.deref-2.result.now (c.deref-2.ensures.value ∙ c.in_ok-read_targets-2.ensures.value) (sym c.requires.grid.long ∙ ap length (sym c.as_slice-2.ensures))

pub returns-clause-found : goal.returns-clause-found
returns-clause-found c =
    let q = c.args.q.now in
    let t = c.args.before.now.table in
    let xs = c.deref.result.now in
    let ys = c.deref-2.result.now in
    let old = c.args.lines.now in
    let new = c.lone.new.lines in
    if_ok c.lone.result (IsLone c.as_slice-2.result.now xs ys old new) (IsLoneLink q t c.args.agent.n c.args.c.n c.args.d.n old new)
    (λ o h. lone_link q t c.args.agent.n c.args.c.n c.args.d.n old new xs ys o (c.deref.ensures.value ∙ c.in_ok-read_targets.ensures.value) (c.deref-2.ensures.value ∙ c.in_ok-read_targets-2.ensures.value)
    (subst (λ u. IsLone u xs ys old new o) c.as_slice-2.ensures h)) c.lone.ensures.found
