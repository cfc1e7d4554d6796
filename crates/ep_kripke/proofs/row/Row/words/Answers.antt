use Rattle.std.proofs.Common.{◌≡◌, length, sym, ap, ap₂, subst, ◌∙◌}
use Rattle.ep_logic.specs.Packed.{unpacked, IsPacked}
use Rattle.ep_kripke.specs.declared.row.Words.{Words}
use Rattle.ep_kripke.proofs.WordLemmas.{length-unpacked}
use Rattle.ep_kripke.proofs.row.Row.words.Goals as goal

pub returns-clause-value : goal.returns-clause-value
returns-clause-value c =
    let w = c.self.inside.words.value in
    let long : length c.args.self.now ≡ w.len = sym (ap length c.self.view_is) ∙ length-unpacked w.items.items w.len in
    ap₂ unpacked (c.deref-2.ensures.value ∙ ap (λ (x : Words). x.items.items) c.deref.ensures) long ∙ c.self.view_is

pub returns-clause-packed : goal.returns-clause-packed
returns-clause-packed c =
    let w = c.self.inside.words.value in
    let long : length c.args.self.now ≡ w.len = sym (ap length c.self.view_is) ∙ length-unpacked w.items.items w.len in
    subst (λ ws. IsPacked ws (length c.args.self.now)) (sym (c.deref-2.ensures.value ∙ ap (λ (x : Words). x.items.items) c.deref.ensures))
    (subst (IsPacked w.items.items) (sym long) c.self.invariant.packed)
