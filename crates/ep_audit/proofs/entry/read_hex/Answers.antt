use Rattle.std.proofs.Common.{◌≡◌, sym, ap, ◌∙◌}
use Rattle.hex.specs.Hex.{encode_lower}
use Rattle.ep_audit.proofs.AnswerLemmas.{hex_is, hex_refused, differ}
use Rattle.ep_audit.proofs.entry.read_hex.Goals as goal

pub returns-else-eq : goal.returns-else-eq
returns-else-eq c = λ b k e.
    let same = hex_is c.args.text.now c.in-Ok.bytes.items b c.in-Ok.ensures.ok k e in
    let again : c.as_bytes.result.now ≡ encode_lower c.in-Ok.bytes.items = c.as_bytes.ensures.value ∙ c.in_ok-again-in-Ok.ensures ∙ ap encode_lower c.as_slice.ensures.value in
    differ c.as_bytes.result.now c.args.text.now c.if-eq.ensures (again ∙ ap encode_lower same ∙ sym e)

pub returns-in-Err-InvalidHexCharacter : goal.returns-in-Err-InvalidHexCharacter
returns-in-Err-InvalidHexCharacter c = λ b k e. hex_refused c.args.text.now b c.in-Err-InvalidHexCharacter.field-0 (λ o. (let is = c.in-Err-InvalidHexCharacter.field-0-is in cc)) c.in-Err-InvalidHexCharacter.ensures.err k e

pub returns-in-Err-OddLength : goal.returns-in-Err-OddLength
returns-in-Err-OddLength c = λ b k e. hex_refused c.args.text.now b c.in-Err-OddLength.field-0 (λ o. (let is = c.in-Err-OddLength.field-0-is in cc)) c.in-Err-OddLength.ensures.err k e

pub returns-in-Err-InvalidStringLength : goal.returns-in-Err-InvalidStringLength
returns-in-Err-InvalidStringLength c = λ b k e. hex_refused c.args.text.now b c.in-Err-InvalidStringLength.field-0 (λ o. (let is = c.in-Err-InvalidStringLength.field-0-is in cc)) c.in-Err-InvalidStringLength.ensures.err k e
