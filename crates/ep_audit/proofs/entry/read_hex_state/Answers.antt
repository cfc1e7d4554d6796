use Rattle.std.proofs.Common.{sym, ◌∙◌}
use Rattle.ep_bytes.specs.Bytes.{bytes_of}
use Rattle.ep_audit.proofs.ByteLemmas.{small_bytes}
use Rattle.ep_audit.proofs.AnswerLemmas.{hex_is}
use Rattle.ep_audit.proofs.entry.read_hex_state.Goals as goal

pub returns-in_default : goal.returns-in_default
returns-in_default c = λ S s k e. let h = rw c.in_default.is at c.in_ok-bytes.ensures in h (bytes_of S) (small_bytes S k) e

pub returns-in-Err-NoState : goal.returns-in-Err-NoState
returns-in-Err-NoState c = λ S s k e.
    let h = rw c.in-Some.is at c.in_ok-bytes.ensures in
    let never = rw c.in-Err-NoState.field-0-is at c.in-Err-NoState.ensures.refused in
    let same = hex_is c.args.text.now c.in-Some.bytes.items (bytes_of S) h.1 (small_bytes S k) e in
    never S (record { valid = s; small = k; own = sym same ∙ sym c.deref.ensures.value })
