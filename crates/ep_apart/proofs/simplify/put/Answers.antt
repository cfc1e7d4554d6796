use Rattle.std.proofs.Common.{◌≡◌, ◌<◌, length, IfSome, ap, subst, arith}
use Rattle.ep_apart.specs.Pruning.{line_at}
use Rattle.ep_apart.specs.Simplifying.{IsShare}
use Rattle.ep_apart.specs.Tables.{IsAdded}
use Rattle.ep_apart.proofs.Results.{if_ok}
use Rattle.ep_apart.proofs.SimplifyLemmas.{share_added, share_found}
use Rattle.ep_apart.proofs.simplify.put.Goals as goal

pub returns-in-Some : goal.returns-in-Some
returns-in-Some c =
    let ls = c.as_slice.result.now in
    let f = subst (λ o. IfSome o (λ k. (k < length ls) × (line_at ls k ≡ c.args.line))) c.in-Some.is c.find.ensures in
    let e = ap length c.as_slice.ensures in
    let b = f.0 in
    share_found c.args.shared.now c.args.line c.in-Some.number c.requires.earlier (omega (arith, b, e)) (subst (λ l. line_at l c.in-Some.number ≡ c.args.line) c.as_slice.ensures f.1)

pub returns : goal.returns
returns c =
    if_ok c.add-2.result (IsAdded c.args.shared.now c.args.line c.add-2.new.lines) (IsShare c.args.shared.now c.args.line c.add-2.new.lines)
    (λ n a. share_added c.args.shared.now c.args.line c.add-2.new.lines n c.requires.earlier c.requires.names a) c.add-2.ensures
