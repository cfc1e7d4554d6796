-- The plan of a word, or where it stops.
use Rattle.std.proofs.Common.{inr, sym, subst}
use Rattle.std.proofs.lemmas.Result.{err_from_is_err_and, MatchResult-weaker}
use Rattle.ep_reading.specs.Steps.{IsFetched}
use Rattle.ep_reading.proofs.FetchLemmas.{dash_files, no_plan_fetched, fetches_all, fetches_whole_word, fetches_word, on_ok}
use Rattle.ep_reading.proofs.PlanFileLemmas.{no_dash, stops_at_plan_fetch, stops_at_plan_read}
use Rattle.ep_reading.proofs.plans.read_plan_file.Goals as goal

pub returns-in_err-bytes-clause-plan : goal.returns-in_err-bytes-clause-plan
returns-in_err-bytes-clause-plan g c =
    let p = err_from_is_err_and c.from_residual.result c.from_residual.ensures.1 in
    rw (p.1, p.2) (stops_at_plan_fetch _ _ c.args.subject c.args.word.now c.args.task.now _ (no_dash c.args.word.now c.eq.result c.eq.ensures c.if-eq.false) c.in_err-bytes.ensures.fetched)

pub returns-clause-plan : goal.returns-clause-plan
returns-clause-plan g c =
    let fetched = subst (IsFetched (g.L.Library.library c.args.files.now) c.args.word.now) (sym c.deref.ensures.value) c.in_ok-bytes.ensures.fetched in
    MatchResult-weaker c.read_plan.result c.read_plan.ensures
    (λ plan h. record { is_plan = inr ((no_dash c.args.word.now c.eq.result c.eq.ensures c.if-eq.false), record { bytes = c.deref.result.now; fetched = fetched; is_plan = h.is_plan }); its_actions = h.its_actions; few = h.few })
    (λ stop h. stops_at_plan_read _ _ c.args.subject c.args.word.now c.deref.result.now c.args.task.now stop (no_dash c.args.word.now c.eq.result c.eq.ensures c.if-eq.false) fetched h)

pub returns-then-eq-clause-fetches : goal.returns-then-eq-clause-fetches
returns-then-eq-clause-fetches g c = fetches_all _ _ _ (no_plan_fetched c.args.word.now (g.L.Library.library c.args.files.now) (dash_files c.args.word.now c.eq.result c.eq.ensures c.if-eq.true))

pub returns-then-eq-clause-whole : goal.returns-then-eq-clause-whole
returns-then-eq-clause-whole g c = no_plan_fetched c.args.word.now (g.L.Library.library c.args.files.now) (dash_files c.args.word.now c.eq.result c.eq.ensures c.if-eq.true)

pub returns-in_err-bytes-clause-fetches : goal.returns-in_err-bytes-clause-fetches
returns-in_err-bytes-clause-fetches g c = fetches_word c.args.word.now c.eq.result _ _ c.eq.ensures c.if-eq.false c.fetch_file.ensures.fetches

pub returns-clause-fetches : goal.returns-clause-fetches
returns-clause-fetches g c = fetches_word c.args.word.now c.eq.result _ _ c.eq.ensures c.if-eq.false c.fetch_file.ensures.fetches

pub returns-clause-whole : goal.returns-clause-whole
returns-clause-whole g c = on_ok _ c.read_plan.result (fetches_whole_word c.args.word.now c.eq.result (g.L.Library.library c.args.files.now) (g.L.Library.library c.fetch_file.new.files) c.eq.ensures c.if-eq.false c.in_ok-bytes.ensures.whole)
