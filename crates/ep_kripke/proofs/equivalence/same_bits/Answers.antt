use Rattle.std.proofs.Common.{◌∙◌, ap, sym}
use Rattle.ep_kripke.specs.Relations.{members}
use Rattle.ep_kripke.proofs.EquivalenceLemmas.{same_members, same_bits_from}
use Rattle.ep_kripke.proofs.equivalence.same_bits.Goals as goal

pub returns-then-words_within : goal.returns-then-words_within
returns-then-words_within c =
    let a = c.row-a.result.now in
    let b = c.row-b.result.now in
    let n = c.args.table.now.width in (
      λ t. ap members (sym c.row-a.ensures.value)
          ∙ same_members a b n n c.row-a.ensures.packed c.row-b.ensures.packed (c.words_within.ensures.0 c.if-words_within.true) (c.words_within-then-words_within.ensures.0 t)
          ∙ ap members c.row-b.ensures.value,
      λ e. c.words_within-then-words_within.ensures.1
          (same_bits_from b a n n c.row-b.ensures.packed c.row-a.ensures.packed (ap members c.row-b.ensures.value ∙ sym e ∙ ap members (sym c.row-a.ensures.value))),
    )

pub returns-else-words_within : goal.returns-else-words_within
returns-else-words_within c =
    let a = c.row-a.result.now in
    let b = c.row-b.result.now in
    let n = c.args.table.now.width in (
      λ t. absurd (cc (t, c.if-words_within.false)),
      λ e. c.words_within.ensures.1
          (same_bits_from a b n n c.row-a.ensures.packed c.row-b.ensures.packed (ap members c.row-a.ensures.value ∙ e ∙ ap members (sym c.row-b.ensures.value))),
    )
