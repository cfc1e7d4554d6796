-- Where the reading of a task ends.
use Rattle.std.proofs.lemmas.Result.{err_from_is_err_and, MatchResult-weaker}
use Rattle.ep_reading.proofs.Steps.{stops_at_text, stops_at_types, stops_at_ground, tree_of, text_is_read}
use Rattle.ep_reading.proofs.read.read_task.Goals as goal

pub typed_task-requires : goal.typed_task-requires
typed_task-requires c = let text = c.in_ok-text.text in text_is_read c.args.bytes.now text.tokens text.tree c.in_ok-text.ensures

pub returns-in_err-text : goal.returns-in_err-text
returns-in_err-text c =
    let p = err_from_is_err_and c.from_residual.result c.from_residual.ensures.1 in
    rw (p.1, p.2) (stops_at_text c.args.bytes.now _ c.in_err-text.ensures)

pub returns-in_err-typed : goal.returns-in_err-typed
returns-in_err-typed c =
    let p = err_from_is_err_and c.from_residual-in_err-typed.result c.from_residual-in_err-typed.ensures.1 in
    let text = c.in_ok-text.text in
    rw (p.1, p.2) (stops_at_types c.args.bytes.now text.tokens text.tree _ c.in_ok-text.ensures c.in_err-typed.ensures)

pub returns : goal.returns
returns c =
    let text = c.in_ok-text.text in
    let is_tree = tree_of c.args.bytes.now text.tokens text.tree c.in_ok-typed.typed c.in_ok-text.ensures c.in_ok-typed.ensures in
    MatchResult-weaker c.ground_task.result c.ground_task.ensures
    (λ g h. record { found = text.tokens; tree = c.in_ok-typed.typed; is_tree = is_tree; is_ground = h })
    (λ stop h. stops_at_ground c.args.bytes.now text.tokens c.in_ok-typed.typed stop is_tree h)
