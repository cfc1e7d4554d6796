use Rattle.std.proofs.Common.{◌≡◌, ◌<◌, ◌^◌, ◌+◌, ◌++◌, ◌∷◌, [], w64, refl, sym, ap, ◌∙◌, append-nil, arith, rules}
use Rattle.std.specs.Int.{trailing_zeros}
use Rattle.ep_logic.proofs.PlaceLemmas.{none_below, all_below, put_step, agrees_next, without_low_less}
use Rattle.ep_logic.proofs.places.put_word.Goals as goal

pub loop-rest-init : goal.loop-rest-init
loop-rest-init c = record {
  put = sym (ap (λ x. c.args.out.now.items ++ x) (none_below c.args.from c.args.word c.ranges.word.fits) ∙ append-nil c.args.out.now.items);
  agrees = λ j m n. refl;
}

pub loop-rest-smaller : goal.loop-rest-smaller
loop-rest-smaller c = without_low_less c.loop-rest.rest c.loop-rest-test.true (omega (arith, c.loop-rest.auto.rest-fits))

pub loop-rest-preserved : goal.loop-rest-preserved
loop-rest-preserved c =
    let word = c.args.word in
    let rest = c.loop-rest.rest in
    let some = c.loop-rest-test.true in
    let small : rest < 2 ^ 64 = omega (arith, c.loop-rest.auto.rest-fits) in
    let agrees = c.loop-rest.invariant.agrees in
    let pushed : c.push.new.self.items ≡ c.loop-rest.out.items ++ (c.args.from + trailing_zeros w64 rest) ∷ [] = search rules in
    record {
      put = put_step c.args.from word rest c.args.out.now.items c.loop-rest.out.items c.push.new.self.items some small agrees c.loop-rest.invariant.put pushed;
      agrees = agrees_next word rest some small agrees;
    }

pub returns : goal.returns
returns c = c.loop-rest.invariant.put ∙ ap (λ x. c.args.out.now.items ++ x) (all_below c.args.from c.args.word c.loop-rest.rest c.loop-rest-test.false)
