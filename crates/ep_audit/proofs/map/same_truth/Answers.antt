use Rattle.std.proofs.Common.{◌≡◌, false, length, refl, sym, ◌∙◌, arith}
use Rattle.ep_theory.proofs.CallerLemmas.{same_places}
use Rattle.ep_theory.specs.Kripke.{truth_of}
use Rattle.ep_audit.proofs.MapLemmas.{truth_length}
use Rattle.ep_audit.proofs.map.same_truth.Goals as goal

pub returns : goal.returns
returns c =
    let s = c.args.s.now in
    let r = c.args.r.now in
    let one : length (truth_of s c.args.w.n) ≡ s.atoms = truth_length s c.atoms-count.ensures.valid c.args.w.n c.requires.world in
    let other : length (truth_of r c.args.v.n) ≡ r.atoms = truth_length r c.atoms-same.ensures.valid c.args.v.n c.requires.target in
    (λ _. same_places false (truth_of s c.args.w.n) (truth_of r c.args.v.n) (one ∙ c.requires.atoms ∙ sym other) (λ k l. c.loop-n.invariant k (omega (arith, l, one, c.loop-n-test.false, c.atoms-count.ensures.value))), λ _. refl)
