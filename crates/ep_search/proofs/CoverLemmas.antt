-- Where every action is settled in every entry, no plan that measures less than the best one reaches the goal.
use Rattle.std.proofs.Common.{◌≡◌, ℕ, ◌+◌, ◌<◌, ◌≤◌, List, [], ◌∷◌, slice_get, Some, option_and_then, sym, ap, ◌∙◌, subst, arith}
use Rattle.std.proofs.lemmas.Option.{same_Some, none-some}
use Rattle.ep_bounds.specs.declared.bounds.Bounds.{Bounds}
use Rattle.ep_logic.specs.declared.ids.ActionId.{ActionId}
use Rattle.ep_theory.specs.Kripke.{Kripke}
use Rattle.ep_theory.specs.Plans.{after_from, weight, Reaches}
use Rattle.ep_search.specs.Alike.{Alike}
use Rattle.ep_search.specs.Tolls.{toll_of}
use Rattle.ep_theory.specs.PlanningTask.{PlanningTask}
use Rattle.ep_search.proofs.AlikeLemmas.{Alike-sym, Satisfies-Alike}
use Rattle.ep_search.proofs.TollLemmas.{weight_cons}
use Rattle.ep_store.specs.declared.entry.Entry.{Entry}
use Rattle.ep_store.specs.Stored.{Has}
use Rattle.ep_search.specs.Sound.{IsSound, Settled, refused, far, late, stored}

module _ (T : PlanningTask) (b : Bounds) (es : List Entry) (least : ℕ)
    (settled : (i : ℕ) (e : Entry) → slice_get es i ≡ Some e → (a : ActionId) → Settled T b es least e.canon e.weight a) where
  -- some entry is bisimilar to it
  abbrev Stands : Kripke → Type 0
  Stands R = (j : ℕ) × Has es j (λ f. Alike R f.canon)

  by_action : (a : ActionId) (p : List ActionId) (S R : Kripke) (e : Entry) (n : ℕ) → Alike S e.canon → e.weight ≤ n
      → n + weight T b.measure (a ∷ p) ≤ b.bound → n + weight T b.measure (a ∷ p) < least → after_from T S (a ∷ p) ≡ Some R → Settled T b es least e.canon e.weight a
      → ((S' : Kripke) (j : ℕ) (f : Entry) → slice_get es j ≡ Some f → Alike S' f.canon → f.weight ≤ n + toll_of T b.measure a → after_from T S' p ≡ Some R → Stands R) → Stands R
  by_action a p S R e n same light within less is_after (refused none) rest =
      absurd (none-some R (sym (ap (option_and_then (λ Q. after_from T Q p)) (none S (Alike-sym S e.canon same))) ∙ is_after))
  by_action a p S R e n same light within less is_after (far h) rest = absurd (omega (arith, h, light, within, weight_cons T b.measure a p))
  by_action a p S R e n same light within less is_after (late h) rest = absurd (omega (arith, h, light, less, weight_cons T b.measure a p))
  by_action a p S R e n same light within less is_after (stored j has) rest =
      let next = has.holds.1 S (Alike-sym S e.canon same) in
      rest next.0 j has.entry has.at next.2 (omega (arith, has.holds.0, light)) (sym (ap (option_and_then (λ Q. after_from T Q p)) next.1) ∙ is_after)

  -- whatever is reached from a state that stands stands, if it is near enough
  covers : (p : List ActionId) (S R : Kripke) (i : ℕ) (e : Entry) (n : ℕ) → slice_get es i ≡ Some e → Alike S e.canon → e.weight ≤ n
      → n + weight T b.measure p ≤ b.bound → n + weight T b.measure p < least → after_from T S p ≡ Some R → Stands R
  covers [] S R i e n at same light within less is_after = (i, record { entry = e; at = at; holds = subst (λ Q. Alike Q e.canon) (same_Some S R is_after) same })
  covers (a ∷ p) S R i e n at same light within less is_after =
      by_action a p S R e n same light within less is_after (settled i e at a)
      (λ S' j f atf samef lightf afterf. covers p S' R j f (n + toll_of T b.measure a) atf samef lightf
      (omega (arith, within, weight_cons T b.measure a p)) (omega (arith, less, weight_cons T b.measure a p)) afterf)

  pub none_less : IsSound T b es → least ≤ b.bound + 1 → (q : List ActionId) → weight T b.measure q < least → Reaches T q → ⊥
  none_less sound bound q less r =
      let there = covers q T.initial r.state 0 sound.first.entry 0 sound.first.at sound.first.holds.1 (omega (arith, sound.first.holds.0)) (omega (arith, bound, less)) (omega (arith, less)) r.is_after in
      (sound.each there.0 there.1.entry there.1.at).unmet (Satisfies-Alike r.state there.1.entry.canon T.goal there.1.holds r.goal)
