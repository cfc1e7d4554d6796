use Rattle.ep_tree.specs.Grammar.{plans}
use Rattle.ep_reader.proofs.CallerLemmas.{parsed_by}
use Rattle.ep_syntax.specs.PlanReading.{plan}
use Rattle.ep_syntax.proofs.PlanLaws.{plan_outcome, no_depth_fault}
use Rattle.ep_syntax.proofs.read.read_plan_text.Goals as goal

pub returns-clause-parsed_by : goal.returns-clause-parsed_by
returns-clause-parsed_by c = parsed_by plans c.args.bytes.now plan plan_outcome c.parse_text.result c.parse_text.ensures

pub returns-clause-never_deep : goal.returns-clause-never_deep
returns-clause-never_deep c = λ token line e.
    no_depth_fault c.args.bytes.now token line c.parse_text.result (parsed_by plans c.args.bytes.now plan plan_outcome c.parse_text.result c.parse_text.ensures).fault e
