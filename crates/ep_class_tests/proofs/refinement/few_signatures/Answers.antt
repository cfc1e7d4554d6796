use Rattle.std.proofs.Common.{◌≡◌, ◌<◌, ◌≤◌, ◌+◌, ◌*◌, ◌^◌, arith}
use Rattle.ep_class_tests.proofs.refinement.few_signatures.Goals as goal

pub returns : goal.returns
returns g c =
    let w = c.requires.worlds in
    let l = c.requires.links in
    let f = c.classes_counted.ensures.few 10 (omega (arith, w), omega (arith, w)) in
    omega (arith, w, l, f)
