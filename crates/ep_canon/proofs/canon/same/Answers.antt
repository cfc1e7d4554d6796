use Rattle.std.proofs.Common.{◌≡◌, sym, ◌∙◌}
use Rattle.std.proofs.lemmas.Slice.Eq.{bytes_eq-Decides}
use Rattle.ep_bytes.specs.Bytes.{bytes_of}
use Rattle.ep_canon.proofs.CanonLemmas.{bytes_of_contractions_decide}
use Rattle.ep_canon.proofs.canon.same.Goals as goal

pub returns : goal.returns
returns c =
    let left : c.as_slice.result.now ≡ bytes_of c.in_ok-first.first = c.as_slice.ensures ∙ c.in_ok-first_bytes.ensures.value in
    let right : c.as_slice-2.result.now ≡ bytes_of c.in_ok-second.second = c.as_slice-2.ensures ∙ c.in_ok-second_bytes.ensures.value in
    let equal = bytes_eq-Decides c.as_slice.result.now c.as_slice-2.result.now in
    let decide = bytes_of_contractions_decide c.args.s.now c.args.t.now c.in_ok-first.first c.in_ok-second.second
    c.in_ok-first.ensures.contraction c.in_ok-second.ensures.contraction in
    (λ r. decide.0 (sym left ∙ equal.0 (sym c.eq.ensures ∙ r) ∙ right), λ b. c.eq.ensures ∙ equal.1 (left ∙ decide.1 b ∙ sym right))
