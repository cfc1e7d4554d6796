use Rattle.std.proofs.Common.{ap₂, ◌∙◌, length}
use Rattle.std.specs.List.{list_all}
use Rattle.ep_logic.specs.Rows.{value_at}
use Rattle.ep_kripke.specs.Relations.{members}
use Rattle.ep_kripke.proofs.RelationLemmas.{within_is}
use Rattle.ep_kripke.proofs.row.Row.is_within.Goals as goal

pub returns : goal.returns
returns c =
    within_is c.words_within.result c.words.result.now (length c.args.self.now) c.words-2.result.now (length c.args.set.now) c.words.ensures.packed c.words-2.ensures.packed c.words_within.ensures
    ∙ ap₂ (λ s ms. list_all (value_at s) (members ms)) c.words-2.ensures.value c.words.ensures.value
