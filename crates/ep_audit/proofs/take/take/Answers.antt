use Rattle.ep_audit.specs.Certificates.{ShowsStart, ShowsStep, GoesOn}
use Rattle.ep_audit.specs.declared.progress.DueLine.TheVariants.{Version, Task, Bound, Count, Entry, Start, Step, End, Nothing}
use Rattle.std.proofs.Common.{◌≡◌, ◌+◌, codes, ◌++◌, [], false}
use Rattle.ep_audit.proofs.VerdictLemmas.{at_due, ok_at_due, first_fails, first_not, end_not, place_at}
use Rattle.ep_audit.proofs.take.take.Goals as goal

pub take_entry-requires-clause-room : goal.take_entry-requires-clause-room
take_entry-requires-clause-room c = place_at c.args.task.now c.args.told.now Entry c.requires c.in-Entry.is

pub take_start-requires-clause-listed : goal.take_start-requires-clause-listed
take_start-requires-clause-listed c = place_at c.args.task.now c.args.told.now Start c.requires c.in-Start.is

pub take_step-requires-clause-at : goal.take_step-requires-clause-at
take_step-requires-clause-at c = place_at c.args.task.now c.args.told.now (Step c.in-Step.pair) c.requires c.in-Step.is

pub returns-in-Version : goal.returns-in-Version
returns-in-Version c = at_due c.args.task.now c.args.told.now c.take_version.new.told c.args.line.now c.args.behind.now Version c.take_version.result c.in-Version.is
    (first_not (c.args.line.now ≡ codes "cert 1") (λ n. n ≡ record c.args.told.now { due = Task }) c.take_version.new.told c.take_version.result c.take_version.ensures)

pub returns-in-Task : goal.returns-in-Task
returns-in-Task c = at_due c.args.task.now c.args.told.now c.take_task.new.told c.args.line.now c.args.behind.now Task c.take_task.result c.in-Task.is
    (first_not (c.args.line.now ≡ codes "task " ++ c.args.task.now.name) (λ n. n ≡ record c.args.told.now { due = Bound }) c.take_task.new.told c.take_task.result c.take_task.ensures)

pub returns-in-Bound : goal.returns-in-Bound
returns-in-Bound c = at_due c.args.task.now c.args.told.now c.take_bound.new.told c.args.line.now c.args.behind.now Bound c.take_bound.result c.in-Bound.is c.take_bound.ensures

pub returns-in-Count : goal.returns-in-Count
returns-in-Count c = at_due c.args.task.now c.args.told.now c.take_count.new.told c.args.line.now c.args.behind.now Count c.take_count.result c.in-Count.is c.take_count.ensures

pub returns-in-Entry : goal.returns-in-Entry
returns-in-Entry c = ok_at_due c.args.task.now c.args.told.now c.take_entry.new.told c.args.line.now c.args.behind.now Entry c.take_entry.result c.in-Entry.is c.take_entry.ensures

pub returns-in-Start : goal.returns-in-Start
returns-in-Start c = ok_at_due c.args.task.now c.args.told.now c.take_start.new.told c.args.line.now c.args.behind.now Start c.take_start.result c.in-Start.is
    (first_fails (ShowsStart c.args.task.now c.args.told.now c.args.line.now) (λ n. GoesOn c.args.task.now c.args.told.now 0 n) c.take_start.new.told c.take_start.result c.take_start.ensures)

pub returns-in-Step : goal.returns-in-Step
returns-in-Step c = ok_at_due c.args.task.now c.args.told.now c.take_step.new.told c.args.line.now c.args.behind.now (Step c.in-Step.pair) c.take_step.result c.in-Step.is
    (first_fails (ShowsStep c.args.task.now c.args.told.now c.in-Step.pair c.args.line.now) (λ n. GoesOn c.args.task.now c.args.told.now (c.in-Step.pair + 1) n) c.take_step.new.told c.take_step.result c.take_step.ensures)

pub returns-in-End : goal.returns-in-End
returns-in-End c = at_due c.args.task.now c.args.told.now c.take_end.new.told c.args.line.now c.args.behind.now End c.take_end.result c.in-End.is
    (end_not (c.args.line.now ≡ codes "end") (c.args.behind.now ≡ []) (λ n. n ≡ record c.args.told.now { due = Nothing }) c.take_end.new.told c.take_end.result c.take_end.ensures)

pub returns-in-Nothing : goal.returns-in-Nothing
returns-in-Nothing c = at_due c.args.task.now c.args.told.now c.args.told.now c.args.line.now c.args.behind.now Nothing false c.in-Nothing.is (λ other t. t)
