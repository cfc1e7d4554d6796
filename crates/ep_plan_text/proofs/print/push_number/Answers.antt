use Rattle.std.proofs.Common.{◌<◌, sym, ◌∙◌, subst, arith}
use Rattle.std.specs.Str.{IsAscii}
use Rattle.std.proofs.lemmas.Fmt.{IsAscii-decimal}
use Rattle.std.proofs.lemmas.List.Elements.{All-from_get_or}
use Rattle.ep_plan_text.proofs.print.push_number.Goals as goal

pub push_line-requires-clause-rest : goal.push_line-requires-clause-rest
push_line-requires-clause-rest c =
    let ascii : IsAscii c.as_bytes.result.now = subst IsAscii (sym (c.as_bytes.ensures.value ∙ c.in_ok-digits.ensures.ok)) (IsAscii-decimal c.args.number (omega arith)) in
    All-from_get_or (λ b. b < 128) c.as_bytes.result.now 0 (λ i _. ascii i)
