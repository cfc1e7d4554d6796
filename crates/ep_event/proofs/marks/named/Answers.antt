use Rattle.std.proofs.Common.{◌∙◌, ap, map}
use Rattle.std.proofs.lemmas.Result.{IfOk-weaker}
use Rattle.ep_logic.specs.Numbers.{has_number, table}
use Rattle.ep_logic.specs.Rows.{true_places}
use Rattle.ep_logic.proofs.CallerLemmas.{numbers_where-same, true_places-table}
use Rattle.ep_logic.specs.declared.ids.EventId.{EventId}
use Rattle.ep_event.specs.Built.{has_event}
use Rattle.ep_event.proofs.MarkLemmas.{names-numbers}
use Rattle.ep_event.proofs.marks.named.Goals as goal

pub returns : goal.returns
returns c =
    let ids = c.args.ids.now in
    let n = c.args.events in
    let listed = has_number (map (λ (d : EventId). d.n) c.args.ids.now) in
    IfOk-weaker c.from_slice.result _ _ (λ numbers e. e ∙ c.as_slice-2.ensures ∙ c.in_ok-places.ensures
    ∙ ap true_places (c.in_ok-row.ensures ∙ ap (λ xs. table (has_number xs) n) (c.as_slice.ensures ∙ c.in_ok-numbers.ensures))
    ∙ true_places-table listed n ∙ numbers_where-same listed (has_event ids) n (λ i l. names-numbers ids i)) c.from_slice.ensures
