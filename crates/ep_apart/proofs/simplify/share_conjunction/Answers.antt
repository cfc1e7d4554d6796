use Rattle.std.proofs.Common.{◌≡◌, length, slice_index, ap, ◌∙◌, arith}
use Rattle.ep_apart.specs.declared.lines.Line.{Line}
use Rattle.ep_apart.specs.Simplifying.{IsShare}
use Rattle.ep_apart.proofs.Results.{if_ok}
use Rattle.ep_apart.proofs.SimplifyLemmas.{distinct_names, only_one, share_one, share_many}
use Rattle.ep_apart.proofs.simplify.share_conjunction.Goals as goal

pub returns-then-as_slice-eq1 : goal.returns-then-as_slice-eq1
returns-then-as_slice-eq1 c =
    let zs = c.as_slice-then-as_slice-eq1.result.now in
    let e = c.as_slice-then-as_slice-eq1.ensures ∙ c.distinct-distinct.ensures in
    let one : length zs ≡ 1 = (let t = c.if-as_slice-eq1.true in let a = ap length c.as_slice.ensures in let b = ap length c.as_slice-then-as_slice-eq1.ensures in omega (arith, t, a, b)) in
    share_one c.args.shared.now c.args.parts zs (slice_index zs 0) c.requires.earlier c.requires.within e (only_one zs one)

pub put-requires-clause-names : goal.put-requires-clause-names
put-requires-clause-names c = distinct_names c.args.parts c.distinct-distinct.result (length c.args.shared.now) c.distinct-distinct.ensures c.requires.within

pub returns : goal.returns
returns c =
    if_ok c.put.result (IsShare c.args.shared.now (Line.And c.distinct-distinct.result) c.put.new.shared) (IsShare c.args.shared.now (Line.And c.args.parts) c.put.new.shared)
    (λ n s. share_many c.args.shared.now c.args.parts c.distinct-distinct.result c.put.new.shared n c.requires.within c.distinct-distinct.ensures
    (λ q. let t = c.if-as_slice-eq1.false in let a = ap length c.as_slice.ensures in omega (arith, q, t, a)) s) c.put.ensures
