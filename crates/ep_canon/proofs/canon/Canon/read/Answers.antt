use Rattle.std.proofs.Common.{sym, ◌∙◌}
use Rattle.ep_bytes.proofs.CallerLemmas.{bytes_agree, bytes_differ}
use Rattle.ep_canon.proofs.CanonLemmas.{other_bytes, one_state}
use Rattle.ep_canon.proofs.canon.Canon.read.Goals as goal

pub returns-then-ne-clause-refused : goal.returns-then-ne-clause-refused
returns-then-ne-clause-refused c =
    let apart = bytes_differ c.as_slice-2.result.now c.args.bytes.now c.if-ne.ensures in
    let own = c.as_slice-2.ensures ∙ c.in_ok-bytes.ensures.value in
    other_bytes c.args.bytes.now c.in_ok-state.state c.in_ok-canon.canon c.in_ok-state.ensures.only c.in_ok-canon.ensures.idempotent (λ e. apart (own ∙ e))

pub returns-clause-ok : goal.returns-clause-ok
returns-clause-ok c = record {
  valid = c.in_ok-bytes.ensures.valid;
  canonical = c.in_ok-bytes.ensures.canonical;
  small = c.in_ok-bytes.ensures.small;
  own = sym (c.as_slice-2.ensures ∙ c.in_ok-bytes.ensures.value) ∙ bytes_agree c.as_slice-2.result.now c.args.bytes.now c.if-ne.ensures;
}

pub returns-clause-only : goal.returns-clause-only
returns-clause-only c = λ D. one_state c.args.bytes.now c.in_ok-canon.canon D c.in_ok-bytes.ensures.valid
    (sym (c.as_slice-2.ensures ∙ c.in_ok-bytes.ensures.value) ∙ bytes_agree c.as_slice-2.result.now c.args.bytes.now c.if-ne.ensures)
