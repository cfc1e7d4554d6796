use Rattle.std.proofs.Common.{◌*◌, ◌≤◌, ◌^◌, arith}
use Rattle.std.proofs.lemmas.Nat.{mul-le}
use Rattle.ep_update.proofs.update.most_links.Goals as goal

pub overflow_mul-events : goal.overflow_mul-events
overflow_mul-events c =
    let a : c.args.events * c.args.events ≤ 16 * 16 = mul-le c.args.events c.args.events 16 16 (omega (arith, c.requires.events)) (omega (arith, c.requires.events)) in
    omega (arith, a)

pub overflow_mul-result : goal.overflow_mul-result
overflow_mul-result c =
    let a : c.args.events * c.args.events ≤ 16 * 16 = mul-le c.args.events c.args.events 16 16 (omega (arith, c.requires.events)) (omega (arith, c.requires.events)) in
    let l : c.args.links * c.from.result ≤ 2 ^ 32 * (16 * 16) = mul-le c.args.links c.from.result (2 ^ 32) (16 * 16) (omega (arith, c.requires.links)) (omega (arith, a, c.from.ensures)) in
    omega (arith, l)
