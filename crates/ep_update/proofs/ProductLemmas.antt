-- The product from its rows.
use Rattle.std.proofs.Common.{◌≡◌, ℕ, ◌<◌, ◌≤◌, ◌^◌, List, [], Bool, map, length, refl, sym, ◌∙◌, ap, sum_by}
use Rattle.std.proofs.lemmas.List.{length-map}
use Rattle.ep_logic.specs.Numbers.{numbers_where, pairs_where, table}
use Rattle.ep_theory.specs.Kripke.{Kripke}
use Rattle.ep_theory.specs.Fits.{link_count}
use Rattle.ep_theory.specs.Events.{EventModel}
use Rattle.ep_theory.specs.Product.{places, place_at, truth_after, links_both, is_designated, product_of}
use Rattle.ep_theory.proofs.CallerLemmas.{All-from_each, from_table, row_pairs-chosen, sum_by-pairs}
use Rattle.ep_logic.proofs.CallerLemmas.{length-table, get_or-table}
use Rattle.ep_theory.specs.Relations.{row_pairs, all_pairs}
use Rattle.ep_kripke.specs.States.{IsBounded, HaveRows, state_of}
use Rattle.ep_update.specs.Places.{place_row, place_rows}
use Rattle.ep_update.proofs.NumbersWhere.{map-table, table-same}

pairs_are : (r : ℕ → ℕ → Bool) (n : ℕ) → all_pairs (table (λ i. numbers_where (r i) n) n) ≡ pairs_where r n
pairs_are r n =
    ap (row_pairs (table (λ i. numbers_where (r i) n) n)) (length-table (λ i. numbers_where (r i) n) n)
    ∙ row_pairs-chosen (table (λ i. numbers_where (r i) n) n) r n n (λ i l. get_or-table (λ j. numbers_where (r j) n) n i [] l)

module _ (S : Kripke) (A : EventModel) where
  links_are : map all_pairs (table (place_rows S A) S.agents) ≡ (product_of S A).links
  links_are = map-table all_pairs (place_rows S A) S.agents
      ∙ table-same (λ a. all_pairs (place_rows S A a)) (λ a. pairs_where (λ i j. links_both S A a (place_at S A i) (place_at S A j)) (length (places S A))) S.agents
      (λ a l. pairs_are (λ i j. links_both S A a (place_at S A i) (place_at S A j)) (length (places S A)))

  -- the state of the rows is the product
  pub product_is : state_of S.agents S.atoms (map (truth_after S A) (places S A)) (table (place_rows S A) S.agents) (numbers_where (λ i. is_designated S A (place_at S A i)) (length (places S A))) ≡ product_of S A
  product_is = rw (length-map (places S A) (truth_after S A), links_are) refl

  pub state_is : (agents atoms : ℕ) (truth : List (List Bool)) (relations : List (List (List ℕ))) (designated : List ℕ) → agents ≡ S.agents → atoms ≡ S.atoms → truth ≡ map (truth_after S A) (places S A) → relations ≡ table (place_rows S A) S.agents →
      designated ≡ numbers_where (λ i. is_designated S A (place_at S A i)) (length (places S A)) → state_of agents atoms truth relations designated ≡ product_of S A
  state_is agents atoms truth relations designated a p t r d = rw (a, p, t, r, d) product_is

  -- the links of the product are those of the rows
  pub links_counted : sum_by (sum_by (length {A = ℕ})) (table (place_rows S A) S.agents) ≡ link_count (product_of S A)
  links_counted = sym (sum_by-pairs (table (place_rows S A) S.agents)) ∙ ap (sum_by (length {A = ℕ × ℕ})) links_are

  pub rows_had : HaveRows (length (map (truth_after S A) (places S A))) (table (place_rows S A) S.agents)
  rows_had = All-from_each (λ rows. length rows ≡ length (map (truth_after S A) (places S A))) (table (place_rows S A) S.agents) (λ rows i.
      let r = from_table (place_rows S A) S.agents rows i in
      ap length r.2 ∙ length-table (place_row S A r.0) (length (places S A)) ∙ sym (length-map (places S A) (truth_after S A)))

  pub product_bounded : IsBounded S → length (places S A) ≤ 65536 → link_count (product_of S A) < 2 ^ 32 → IsBounded (product_of S A)
  product_bounded b worlds links = record { worlds = worlds; agents = b.agents; atoms = b.atoms; links = links }
