use Rattle.std.proofs.Common.{◌≡◌, ◌∙◌, [], get_or, refl, sym, ap, subst, arith}
use Rattle.std.proofs.lemmas.List.{get_or_default}
use Rattle.ep_theory.specs.Rising.{IsIn}
use Rattle.ep_theory.proofs.CallerLemmas.{IsIn-at, Contains-from_in}
use Rattle.ep_kripke.proofs.equivalence.list_is_shared.Goals as goal

pub returns-then-not-same_list : goal.returns-then-not-same_list
returns-then-not-same_list c =
    let rows = c.args.rows.now in
    let k = c.loop-v.v-index in (
      λ t. absurd (cc t),
      λ s.
          let i : IsIn (get_or c.row-v-items.result.now k 0) (get_or c.args.rows.now c.args.at []) = subst (IsIn (get_or c.row-v-items.result.now k 0)) c.row-v-items.ensures (IsIn-at c.row-v-items.result.now k 0 c.loop-v-test.true) in
          absurd (cc (c.same_list.ensures.1 (s (get_or c.row-v-items.result.now k 0) i), c.if-not-same_list.true)),
    )

pub returns : goal.returns
returns c = (
  λ t v i.
      let row = c.row-v-items.result.now in
      let j : IsIn v c.row-v-items.result.now = subst (IsIn v) (sym c.row-v-items.ensures) i in
      let k = Contains-from_in v row j in
      let e : get_or c.row-v-items.result.now k.0 0 ≡ v = get_or_default row k.0 0 v k.1 ∙ k.2 in
      ap (λ x. get_or c.args.rows.now (get_or c.args.names.now x 0) []) (sym e) ∙ c.loop-v.invariant k.0 (omega (arith, k.1, c.loop-v-test.false)),
  λ s. refl,
)
