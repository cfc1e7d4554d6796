use Rattle.std.proofs.Common.{◌≡◌, ◌<◌, ◌*◌, ℕ, not, map, length, ap, ◌∙◌, arith}
use Rattle.ep_logic.specs.Packed.{bit_in, unpacked}
use Rattle.ep_logic.proofs.PackedLemmas.{written_back}
use Rattle.ep_logic.proofs.WordLemmas.{unpacked-not}
use Rattle.ep_logic.proofs.bits.Bits.flip.Goals as goal

pub returns : goal.returns
returns c =
    let s = c.self.inside in
    let new = c.flip_row.new.words in
    let kept : length new ≡ length s.words.items = c.flip_row.ensures.long ∙ ap length c.deref_mut.ensures.value in
    ap (λ l. unpacked l s.len) (written_back s.words.items new s.words.len s.words.ok.0 kept)
    ∙ unpacked-not s.words.items new s.len (λ k l. c.flip_row.ensures.each k l ∙ ap (λ ws. not (bit_in ws k)) c.deref_mut.ensures.value)
    ∙ ap (map not) c.self.view_is
