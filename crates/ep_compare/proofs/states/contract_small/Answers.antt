-- The contraction has too many worlds.
use Rattle.std.proofs.Common.{◌≡◌, ◌∙◌, ap, arith}
use Rattle.ep_theory.specs.Kripke.{Kripke}
use Rattle.ep_compare.proofs.CompareLemmas.{wide_stops}
use Rattle.ep_compare.proofs.states.contract_small.Goals as goal

pub returns-then-worlds-gt-MOST_TOLD : goal.returns-then-worlds-gt-MOST_TOLD
returns-then-worlds-gt-MOST_TOLD c =
    let C = c.in_ok-canon.canon in
    let e : c.worlds-worlds.result ≡ C.worlds = c.worlds-worlds.ensures.value ∙ ap (λ (X : Kripke). X.worlds) c.state.ensures.value in
    wide_stops c.args.whose c.args.state.now C c.worlds-worlds.result c.in_ok-canon.ensures.contraction e (omega arith)
