use Rattle.std.proofs.Common.{refl, sym, subst}
use Rattle.ep_tree.specs.Grammar.{tasks, spelling_of, Reads}
use Rattle.ep_syntax.specs.TaskReading.{task}
use Rattle.ep_layout.proofs.LayoutTokens.{some-laid_out, spellings-laid_out}
use Rattle.ep_layout.proofs.SpelledTasks.{spellings-task}
use Rattle.ep_layout.proofs.layout.layout_is_read_again.Goals as goal
use Rattle.ep_reader.proofs.CallerLemmas.{found, found_reads, only_same}
use Rattle.ep_syntax.proofs.CallerLemmas.{task_outcome}

pub returns-clause-some : goal.returns-clause-some
returns-clause-some c = λ tree f s.
    let ts = spelling_of tasks tree in
    let t = some-laid_out ts (spellings-task tree f) in
    let same = spellings-laid_out ts t.0 (spellings-task tree f) t.1 in
    let other = found tasks ts task (task_outcome ts) tree f s refl in
    let r = found_reads tasks ts task (task_outcome ts) tree f s refl in
    (other, record { tokens = t.0; are_tokens = t.1; reads = subst (λ z. Reads tasks z other) (sym same) r })

pub returns-clause-same : goal.returns-clause-same
returns-clause-same c = λ tree other f s r.
    let ts = spelling_of tasks tree in
    let same = spellings-laid_out ts r.tokens (spellings-task tree f) r.are_tokens in
    only_same tasks ts task (task_outcome ts) tree f s refl other (subst (λ z. Reads tasks z other) same r.reads)
