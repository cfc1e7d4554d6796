use Rattle.std.proofs.Common.{◌<◌, sym, ◌∙◌, subst, arith}
use Rattle.std.specs.Str.{IsAscii}
use Rattle.std.proofs.lemmas.Fmt.{IsAscii-decimal}
use Rattle.std.proofs.lemmas.List.Elements.{All-from_get_or}
use Rattle.ep_layout.proofs.printer.Printer.write_count.Goals as goal

pub write_token-requires : goal.write_token-requires
write_token-requires c =
    let ascii : IsAscii c.as_bytes.result.now = subst IsAscii (sym (c.as_bytes.ensures.value ∙ c.in_ok-digits.ensures.ok)) (IsAscii-decimal c.args.count (omega arith)) in
    All-from_get_or (λ b. b < 128) c.as_bytes.result.now 0 (λ i _. ascii i)
