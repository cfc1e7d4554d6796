use Rattle.std.proofs.Common.{◌≡◌, ◌||◌, ℕ, length, ap, sym, ◌∙◌, subst, arith}
use Rattle.ep_logic.specs.Rows.{either}
use Rattle.ep_logic.specs.Packed.{bit_in, unpacked, IsPacked}
use Rattle.ep_logic.proofs.PackedLemmas.{length-unpacked, written_back}
use Rattle.ep_logic.proofs.WordLemmas.{unpacked-either, packed_or}
use Rattle.ep_logic.proofs.bits.Bits.or_with.Goals as goal
use Rattle.ep_logic.proofs.bits.Bits.or_with.Goals.{After-self-1}

pub or_words-requires : goal.or_words-requires
or_words-requires c =
    let s = c.self.inside in
    let o = c.other.inside in
    let n : s.len ≡ o.len = omega (arith, c.requires, length-unpacked s.words.items s.len, length-unpacked o.words.items o.len, ap length c.self.view_is, ap length c.other.view_is) in
    omega (arith, ap length c.deref_mut.ensures.value, ap length c.deref.ensures.value, c.self.invariant.long, c.other.invariant.long, n)

each : (c : After-self-1) (k : ℕ) → bit_in c.or_words.new.a k ≡ (bit_in c.self.inside.words.items k || bit_in c.other.inside.words.items k)
each c k = c.or_words.ensures.each k ∙ (λ i. bit_in (c.deref_mut.ensures.value i) k || bit_in (c.deref.ensures.value i) k)

kept : (c : After-self-1) → length c.or_words.new.a ≡ length c.self.inside.words.items
kept c = c.or_words.ensures.long ∙ ap length c.deref_mut.ensures.value

pub invariant_of-self : goal.invariant_of-self
invariant_of-self c =
    let s = c.self.inside in
    let o = c.other.inside in
    let n : s.len ≡ o.len = omega (arith, c.requires, length-unpacked s.words.items s.len, length-unpacked o.words.items o.len, ap length c.self.view_is, ap length c.other.view_is) in
    subst (λ l. IsPacked l s.len) (sym (written_back s.words.items c.or_words.new.a s.words.len s.words.ok.0 (kept c)))
    (packed_or s.words.items o.words.items c.or_words.new.a s.len c.self.invariant (subst (IsPacked o.words.items) (sym n) c.other.invariant) (kept c) (each c))

pub returns : goal.returns
returns c =
    let s = c.self.inside in
    let o = c.other.inside in
    let n : s.len ≡ o.len = omega (arith, c.requires, length-unpacked s.words.items s.len, length-unpacked o.words.items o.len, ap length c.self.view_is, ap length c.other.view_is) in
    ap (λ l. unpacked l s.len) (written_back s.words.items c.or_words.new.a s.words.len s.words.ok.0 (kept c))
    ∙ unpacked-either s.words.items o.words.items c.or_words.new.a s.len (each c)
    ∙ (λ i. either (c.self.view_is i) ((ap (λ n. unpacked o.words.items n) n ∙ c.other.view_is) i))
