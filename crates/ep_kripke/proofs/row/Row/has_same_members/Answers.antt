use Rattle.std.proofs.Common.{◌∙◌, length, ap, sym}
use Rattle.ep_kripke.specs.Relations.{members}
use Rattle.ep_kripke.proofs.EquivalenceLemmas.{same_members, same_bits_from}
use Rattle.ep_kripke.proofs.row.Row.has_same_members.Goals as goal

pub returns-then-words_within : goal.returns-then-words_within
returns-then-words_within c =
    let a = c.words-a.result.now in
    let b = c.words-b.result.now in
    let n = length c.args.self.now in
    let m = length c.args.other.now in (
      λ t. ap members (sym c.words-a.ensures.value)
          ∙ same_members a b n m c.words-a.ensures.packed c.words-b.ensures.packed (c.words_within.ensures.0 c.if-words_within.true) (c.words_within-then-words_within.ensures.0 t)
          ∙ ap members c.words-b.ensures.value,
      λ e. c.words_within-then-words_within.ensures.1
          (same_bits_from b a m n c.words-b.ensures.packed c.words-a.ensures.packed (ap members c.words-b.ensures.value ∙ sym e ∙ ap members (sym c.words-a.ensures.value))),
    )

pub returns-else-words_within : goal.returns-else-words_within
returns-else-words_within c =
    let a = c.words-a.result.now in
    let b = c.words-b.result.now in
    let n = length c.args.self.now in
    let m = length c.args.other.now in (
      λ t. absurd (cc (t, c.if-words_within.false)),
      λ e. c.words_within.ensures.1
          (same_bits_from a b n m c.words-a.ensures.packed c.words-b.ensures.packed (ap members c.words-a.ensures.value ∙ e ∙ ap members (sym c.words-b.ensures.value))),
    )
