use Rattle.std.proofs.Common.{◌<◌, ◌∙◌, ap, take, get_or, length, arith, eq-eqb}
use Rattle.std.proofs.lemmas.Bool.{ne_eqb}
use Rattle.std.proofs.lemmas.List.{take_more}
use Rattle.ep_logic.specs.Tables.{Table}
use Rattle.ep_event.proofs.MarkLemmas.{no_marks, marks_skip, marks_add, no_link, at_link, square_long}
use Rattle.ep_event.proofs.marks.marks.Goals as goal
use Rattle.ep_event.proofs.marks.marks.Goals.{then-link-agent, else-link-agent}

pub loop-link-init : goal.loop-link-init
loop-link-init c = c.in_ok-square.ensures ∙ ap (λ rows. record { width = c.args.events; rows = rows }) (no_marks c.args.events c.args.agent)

pub loop-link-preserved : goal.loop-link-preserved
loop-link-preserved c =
    let links = c.args.links.now in
    let n = c.args.events in
    let i = c.loop-link.link-index in
    let here : c.loop-link.link-index < length c.args.links.now = omega arith in
    let within = at_link n links i here c.requires.within in
    rw (take_more links i no_link here) (elim c.if-link-agent.branch [
      | then-link-agent w ↦ rw (w.square-is, w.set.ensures, c.loop-link.invariant)
          (ap (λ rows. record { width = n; rows = rows }) (marks_add (take i links) (get_or links i no_link) n c.args.agent (eq-eqb (get_or links i no_link).agent.n c.args.agent w.if-link-agent.true) within.0 within.1))
      | else-link-agent w ↦ rw (w.square-is, c.loop-link.invariant)
          (ap (λ rows. record { width = n; rows = rows }) (marks_skip (take i links) (get_or links i no_link) n c.args.agent (ne_eqb (get_or links i no_link).agent.n c.args.agent w.if-link-agent.false)))
    ])

pub set-requires-clause-row : goal.set-requires-clause-row
set-requires-clause-row c =
    let links = c.args.links.now in
    let i = c.loop-link.link-index in
    let here : c.loop-link.link-index < length c.args.links.now = omega arith in
    omega (arith, (at_link c.args.events links i here c.requires.within).0, ap (λ (t : Table). length t.rows) c.loop-link.invariant, square_long (take i links) c.args.events c.args.agent)
