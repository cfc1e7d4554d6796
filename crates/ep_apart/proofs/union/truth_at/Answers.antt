use Rattle.std.proofs.Common.{◌≡◌, false, length, sym, ◌∙◌, arith}
use Rattle.ep_theory.specs.Kripke.{truth_of}
use Rattle.ep_theory.proofs.CallerLemmas.{All-at, same_places}
use Rattle.ep_apart.proofs.union.truth_at.Goals as goal

pub returns : goal.returns
returns c =
    let s = c.atoms.ensures.valid in
    let wide : length (truth_of c.args.s.now c.args.w.n) ≡ c.args.s.now.atoms = All-at (λ t. length t ≡ c.args.s.now.atoms) c.args.s.now.truth c.args.w.n _ (let q = s.truths in let b = c.requires in omega (arith, q, b)) s.each_truth in
    same_places false c.loop-p.row (truth_of c.args.s.now c.args.w.n) (c.loop-p.invariant.long ∙ sym wide) (λ i l. c.loop-p.invariant.same i (let t = c.loop-p-test.false in let v = c.atoms-p-end.ensures.value in let n = c.loop-p.invariant.long in omega (arith, l, t, v, n)))
