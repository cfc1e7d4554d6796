use Rattle.ep_tree.specs.Grammar.{tasks, spelling_of}
use Rattle.ep_layout.proofs.LayoutTokens.{some-laid_out, spellings-laid_out}
use Rattle.ep_layout.proofs.SpelledTasks.{spellings-task}
use Rattle.ep_layout.proofs.layout.layout_has_the_tokens.Goals as goal

pub returns-clause-some : goal.returns-clause-some
returns-clause-some c = λ tree f. some-laid_out (spelling_of tasks tree) (spellings-task tree f)

pub returns-clause-same : goal.returns-clause-same
returns-clause-same c = λ tree f ts t. spellings-laid_out (spelling_of tasks tree) ts (spellings-task tree f) t
