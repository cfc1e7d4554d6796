-- Places with one old row and one event have one row.
use Rattle.std.proofs.Common.{◌≡◌, ℕ, ◌<◌, ◌+◌, ◌*◌, ◌&&◌, List, [], ◌∷◌, ◌++◌, length, get_or, sym, ◌∙◌, ap, ap₂, subst, arith, inl, inr}
use Rattle.std.proofs.lemmas.Nat.{mul-le}
use Rattle.std.proofs.lemmas.Bool.{cases_lt}
use Rattle.std.specs.Cmp.{both_ways}
use Rattle.std.specs.List.{AllByRecursion}
use Rattle.ep_logic.specs.Numbers.{has_number, has_pair}
use Rattle.ep_logic.proofs.CallerLemmas.{get_or-last, get_or-left}
use Rattle.ep_theory.specs.Rising.{IsIn}
use Rattle.ep_theory.specs.Kripke.{Kripke, links_of, successors}
use Rattle.ep_theory.specs.Events.{EventModel, event_links}
use Rattle.ep_theory.specs.Product.{places, place_at, links_both}
use Rattle.ep_theory.proofs.CallerLemmas.{All-at, All-from_each, from_places, IsIn-successors, from_successors, to_has_number, from_has_number, to_has_pair, from_has_pair}
use Rattle.ep_kripke.specs.Relations.{named_rows}
use Rattle.ep_kripke.proofs.CallerLemmas.{length-named, named-at}
use Rattle.ep_update.specs.Places.{place_row, pair_of}
use Rattle.ep_update.proofs.NumbersWhere.{numbers_where-same}
use Rattle.ep_update.proofs.RowLemmas.{place_in}

-- a link by the successors
pair_by_successors : (ps : List (ℕ × ℕ)) (w v : ℕ) → has_pair ps w v ≡ has_number (successors ps w) v
pair_by_successors ps w v = both_ways (has_pair ps w v) (has_number (successors ps w) v)
    (λ t. to_has_number (successors ps w) v (IsIn-successors w v ps (from_has_pair ps w v t)))
    (λ t. to_has_pair ps w v (from_successors w v ps (from_has_number (successors ps w) v t)))

-- a row depends on the successors of the place's world and on its event alone
equal_rows : (S : Kripke) (A : EventModel) (a i j : ℕ) → successors (links_of S a) (place_at S A i).0 ≡ successors (links_of S a) (place_at S A j).0 → (place_at S A i).1 ≡ (place_at S A j).1 →
    place_row S A a i ≡ place_row S A a j
equal_rows S A a i j e h = numbers_where-same (λ k. links_both S A a (place_at S A i) (place_at S A k)) (λ k. links_both S A a (place_at S A j) (place_at S A k)) (length (places S A)) (λ k l.
    ap₂ (λ x y. x && y)
    (pair_by_successors (links_of S a) (place_at S A i).0 (place_at S A k).0 ∙ ap (λ vs. has_number vs (place_at S A k).0) e ∙ sym (pair_by_successors (links_of S a) (place_at S A j).0 (place_at S A k).0))
    (ap (λ f. has_pair (event_links A a) f (place_at S A k).1) h))

-- the rows of worlds by their names
module _ (S : Kripke) (A : EventModel) (a : ℕ) (names : List ℕ) (rows seen : List (List ℕ)) (list : List (ℕ × ℕ))
    (named : named_rows names rows ≡ seen) (long : length seen ≡ S.worlds) (each : (w : ℕ) → w < S.worlds → get_or seen w [] ≡ successors (links_of S a) w) (listed : list ≡ places S A) where
  pub names_long : length names ≡ S.worlds
  names_long = sym (length-named names rows) ∙ ap length named ∙ long

  by_name : (w : ℕ) → w < S.worlds → get_or rows (get_or names w 0) [] ≡ successors (links_of S a) w
  by_name w l = sym (named-at names rows w (omega (arith, l, names_long))) ∙ ap (λ rs. get_or rs w []) named ∙ each w l

  pub pair_tells : (i j : ℕ) → i < length list → j < length list → pair_of names (get_or list i (0, 0)) ≡ pair_of names (get_or list j (0, 0)) → place_row S A a i ≡ place_row S A a j
  pair_tells i j l m e =
      let at : (k : ℕ) → get_or list k (0, 0) ≡ place_at S A k = λ k. ap (λ (xs : List (ℕ × ℕ)). get_or xs k (0, 0)) listed in
      let row : (k : ℕ) → k < length list → successors (links_of S a) (place_at S A k).0 ≡ get_or rows (pair_of names (get_or list k (0, 0))).0 [] =
      λ k h. ap (λ (x : ℕ × ℕ). successors (links_of S a) x.0) (sym (at k)) ∙ sym (by_name (get_or list k (0, 0)).0 (place_in S A list k listed h).0) in
      equal_rows S A a i j
      (row i l ∙ ap (λ (x : ℕ × ℕ). get_or rows x.0 []) e ∙ sym (row j m))
      (ap (λ (x : ℕ × ℕ). x.1) (sym (at i)) ∙ ap (λ (x : ℕ × ℕ). x.1) e ∙ ap (λ (x : ℕ × ℕ). x.1) (at j))

-- the numbers of a pair
pub record IsPair (rows events : ℕ) (pair : ℕ × ℕ) : Type 0 where
  pub row : pair.0 < rows
  pub event : pair.1 < events

pub pair_in : (S : Kripke) (A : EventModel) (names : List ℕ) (rows i : ℕ) (list : List (ℕ × ℕ)) (pair : ℕ × ℕ) → length names ≡ S.worlds → AllByRecursion (λ r. r < rows) names → list ≡ places S A → i < length list →
    pair ≡ pair_of names (get_or list i (0, 0)) → IsPair rows (length A.events) pair
pair_in S A names rows i list pair long within listed l e =
    let p = place_in S A list i listed l in
    record {
      row = subst (λ r. r < rows) (sym (ap (λ (x : ℕ × ℕ). x.0) e)) (All-at (λ r. r < rows) names (get_or list i (0, 0)).0 0 (omega (arith, p.0, long)) within);
      event = subst (λ f. f < length A.events) (sym (ap (λ (x : ℕ × ℕ). x.1) e)) p.1;
    }

pub worlds_in : (S : Kripke) (A : EventModel) (n : ℕ) (list : List (ℕ × ℕ)) → list ≡ places S A → n ≡ S.worlds → AllByRecursion (λ (at : ℕ × ℕ). at.0 < n) list
worlds_in S A n list e m = All-from_each (λ (at : ℕ × ℕ). at.0 < n) list (λ p i. subst (λ k. p.0 < k) (sym m) (from_places S A p (subst (λ xs. IsIn {A = ℕ × ℕ} p xs) e i)).world)

-- one place more
pub original_more : (P : ℕ → ℕ → Type 0) (old new : List ℕ) (i x : ℕ) → length old ≡ i → new ≡ old ++ x ∷ [] → ((k : ℕ) → k < i → P k (get_or old k 0)) → P i x → (k : ℕ) → k < i + 1 → P k (get_or new k 0)
original_more P old new i x n e h p k l = elim (cases_lt k i) [
  | inl m ↦ subst (P k) (sym (ap (λ xs. get_or xs k 0) e ∙ get_or-left old (x ∷ []) k 0 (omega (arith, m, n)))) (h k m)
  | inr g ↦ let q : k ≡ i = omega (arith, g, l) in
      subst (λ j. P j (get_or new j 0)) (sym q) (subst (P i) (sym (ap (λ xs. get_or xs i 0) e ∙ ap (λ j. get_or (old ++ x ∷ []) j 0) (sym n) ∙ get_or-last old x 0)) p)
]

-- the slot of a pair is one of them
pub slot_within : (r e rows events : ℕ) → r < rows → e < events → r * events + e < rows * events
slot_within r e rows events l m = let h = mul-le (r + 1) events rows events (omega arith) (omega arith) in omega (arith, h)
