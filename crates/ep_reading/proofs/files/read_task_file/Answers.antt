-- The task of a file, or where it stops.
use Rattle.std.proofs.Common.{sym, subst}
use Rattle.std.proofs.lemmas.Result.{err_from_is_err_and, MatchResult-weaker}
use Rattle.ep_reading.specs.Steps.{IsFetched}
use Rattle.ep_reading.proofs.FetchLemmas.{on_ok}
use Rattle.ep_reading.proofs.GuideLemmas.{MatchResult-err}
use Rattle.ep_reading.proofs.Lift.{read_needs_none, stops_at_fetch, stops_at_read}
use Rattle.ep_reading.proofs.files.read_task_file.Goals as goal

pub returns-in_err-bytes-clause-task : goal.returns-in_err-bytes-clause-task
returns-in_err-bytes-clause-task g c =
    let p = err_from_is_err_and c.from_residual.result c.from_residual.ensures.1 in
    rw (p.1, p.2) (stops_at_fetch _ _ c.args.name.now _ c.in_err-bytes.ensures.fetched)

pub returns-in_err-bytes-clause-needs : goal.returns-in_err-bytes-clause-needs
returns-in_err-bytes-clause-needs g c =
    let p = err_from_is_err_and c.from_residual.result c.from_residual.ensures.1 in
    rw (p.1, p.2) c.in_err-bytes.ensures.needs

pub returns-clause-needs : goal.returns-clause-needs
returns-clause-needs g c = MatchResult-err _ _ _ c.read_task.result c.read_task.ensures (λ stop h. read_needs_none c.deref.result.now stop h)

pub returns-clause-task : goal.returns-clause-task
returns-clause-task g c =
    let fetched = subst (IsFetched (g.L.Library.library c.args.files.now) c.args.name.now) (sym c.deref.ensures.value) c.in_ok-bytes.ensures.fetched in
    MatchResult-weaker c.read_task.result c.read_task.ensures
    (λ task h. record { bytes = c.deref.result.now; fetched = fetched; is_task = h })
    (λ stop h. stops_at_read _ _ c.args.name.now c.deref.result.now stop fetched h)

pub returns-clause-whole : goal.returns-clause-whole
returns-clause-whole g c = on_ok _ c.read_task.result c.in_ok-bytes.ensures.whole
