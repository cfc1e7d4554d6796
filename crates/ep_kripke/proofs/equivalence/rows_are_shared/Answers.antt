use Rattle.std.proofs.Common.{◌≡◌, ◌<◌, ◌∙◌, [], get_or, length, map, refl, sym, subst, arith}
use Rattle.ep_theory.specs.Rising.{IsIn}
use Rattle.ep_theory.proofs.CallerLemmas.{All-at, at_All}
use Rattle.ep_kripke.specs.Relations.{members}
use Rattle.ep_kripke.proofs.NamingLemmas.{members_at}
use Rattle.ep_kripke.proofs.equivalence.rows_are_shared.Goals as goal

pub returns : goal.returns
returns c =
    let rows = c.args.rows.now in
    let names = c.args.names.now in (
      λ t v i.
          let here : get_or (map members c.args.rows.now) c.args.at [] ≡ members (get_or c.args.rows.now c.args.at []) = members_at rows c.args.at c.requires.row in
          let j : IsIn v (members (get_or c.args.rows.now c.args.at [])) = subst (IsIn v) here i in
          let m : v < length c.args.names.now = at_All (λ v. v < length c.args.names.now) v (members (get_or c.args.rows.now c.args.at [])) c.requires.within j in
          let name : get_or c.args.names.now v 0 < length c.args.rows.now = All-at (λ i. i < length c.args.rows.now) names v 0 m c.requires.names in
          members_at rows (get_or names v 0) name ∙ c.loop-v.invariant v (omega (arith, m, c.loop-v-test.false)) j ∙ sym here,
      λ s. refl,
    )
