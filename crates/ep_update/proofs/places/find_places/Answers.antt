use Rattle.std.proofs.Common.{◌≡◌, ◌∙◌, ◌+◌, ap, arith, length}
use Rattle.ep_logic.specs.Numbers.{table}
use Rattle.ep_update.specs.Places.{labelled_pairs}
use Rattle.ep_update.proofs.NumbersWhere.{table_push}
use Rattle.ep_update.proofs.places.find_places.Goals as goal

pub returns-clause-places : goal.returns-clause-places
returns-clause-places c =
    let all : c.loop-w.w ≡ c.args.worlds = omega (arith, c.loop-w-test.false, c.loop-w.auto.w-end) in
    record {
      list = c.loop-w.invariant.list ∙ ap (labelled_pairs c.args.rows.now) all;
      firsts =
          table_push (λ w. length (labelled_pairs c.args.rows.now w)) c.loop-w.w c.loop-w.firsts.items c.push-2.new.self.items c.len-2.result c.loop-w.invariant.firsts
          (omega (arith, c.len-2.ensures, c.loop-w.list.ok.0, ap length c.loop-w.invariant.list)) c.in_ok-push-2.ensures.items
          ∙ ap (λ k. table (λ w. length (labelled_pairs c.args.rows.now w)) (k + 1)) all;
    }
