use Rattle.ep_lex.specs.Tokens.{spellings}
use Rattle.ep_tree.specs.Grammar.{plans}
use Rattle.ep_reader.proofs.CallerLemmas.{said_deep, said_read_by}
use Rattle.ep_syntax.specs.PlanReading.{plan}
use Rattle.ep_syntax.proofs.PlanLaws.{plan_outcome, none_deep}
use Rattle.ep_syntax.proofs.read.read_plan_lines.Goals as goal

pub returns-clause-read_by : goal.returns-clause-read_by
returns-clause-read_by c = let ts = spellings c.args.bytes.now c.args.tokens.now.tokens in said_read_by plans ts plan (plan_outcome ts) c.parse_whole.result c.parse_whole.ensures

pub returns-clause-never_deep : goal.returns-clause-never_deep
returns-clause-never_deep c = λ t e.
    let ts = spellings c.args.bytes.now c.args.tokens.now.tokens in
    none_deep ts t (said_deep plans ts plan (plan_outcome ts) c.parse_whole.result c.parse_whole.ensures t e).deep

pub returns-clause-none_deep : goal.returns-clause-none_deep
returns-clause-none_deep c = λ t d. none_deep (spellings c.args.bytes.now c.args.tokens.now.tokens) t d.deep
