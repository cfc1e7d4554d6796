use Rattle.std.proofs.Common.{rules}
use Rattle.ep_theory.specs.Fits.{Fits}
use Rattle.ep_state_tests.proofs.tables.added.Goals as goal

pub returns : goal.returns
returns c = λ w.
    let s = w.args.s.now in
    let fit : Fits s w.args.f.now = search rules in
    w.in_ok-n.ensures.fit s.agents s.atoms w.requires fit
