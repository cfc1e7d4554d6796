-- Chosen worlds with one name have one row.
use Rattle.std.proofs.Common.{◌≡◌, ℕ, ◌<◌, ◌≤◌, ◌+◌, Bool, List, [], ◌∷◌, ◌++◌, length, get_or, map, take, sym, ◌∙◌, ap, subst, arith, inl, inr, IsTrue}
use Rattle.std.proofs.lemmas.Bool.{cases_lt}
use Rattle.std.proofs.lemmas.List.{length-map, length-take-le, get_or-map, get_or-take, map_more}
use Rattle.std.specs.List.{AllByRecursion}
use Rattle.ep_logic.proofs.CallerLemmas.{get_or-last, get_or-left}
use Rattle.ep_theory.specs.Rising.{IsIn}
use Rattle.ep_theory.specs.Kripke.{Kripke, IsState, links_of, successors}
use Rattle.ep_theory.proofs.CallerLemmas.{All-at, All-from_each, at_All, from_successors, links_within}
use Rattle.ep_kripke.specs.Relations.{named_rows}
use Rattle.ep_kripke.proofs.CallerLemmas.{length-named, named-at}
use Rattle.ep_refine.specs.Choices.{kept_numbers, IsChoice}
use Rattle.ep_refine.proofs.ImageLemmas.{from_kept}

-- the worlds of a choice
pub chosen_worlds : (S : Kripke) (keep : ℕ → Bool) (number : ℕ → ℕ) (chosen : List ℕ) → IsChoice S keep number chosen → AllByRecursion (λ w. w < S.worlds) chosen
chosen_worlds S keep number chosen h = All-from_each (λ w. w < S.worlds) chosen (λ w i. (at_All (λ w. (w < S.worlds) × IsTrue (keep w)) w chosen h.each i).0)

-- the numbers of the kept successors of a world are places of the chosen worlds
pub kept_within : (S : Kripke) → IsState S → (keep : ℕ → Bool) (number : ℕ → ℕ) (chosen : List ℕ) (a w : ℕ) (targets : List ℕ) → IsChoice S keep number chosen → targets ≡ successors (links_of S a) w →
    AllByRecursion (λ c. c < length chosen) (kept_numbers keep number targets)
kept_within S s keep number chosen a w targets h e = All-from_each (λ c. c < length chosen) (kept_numbers keep number targets) (λ c i.
    let f = from_kept keep number c targets i in
    let b = (links_within S s a w f.0 (from_successors w f.0 (links_of S a) (subst (IsIn f.0) e f.1))).1 in
    subst (λ n. n < length chosen) f.3 (h.below f.0 b f.2))

-- the names of worlds
module _ (S : Kripke) (a : ℕ) (names : List ℕ) (rows seen : List (List ℕ)) (chosen : List ℕ) (named : named_rows names rows ≡ seen) (long : length seen ≡ S.worlds)
    (each : (w : ℕ) → w < S.worlds → get_or seen w [] ≡ successors (links_of S a) w) (within : AllByRecursion (λ w. w < S.worlds) chosen) where
  pub names_long : length names ≡ S.worlds
  names_long = sym (length-named names rows) ∙ ap length named ∙ long

  pub worlds_named : AllByRecursion (λ w. w < length names) chosen
  worlds_named = subst (λ n. AllByRecursion (λ w. w < n) chosen) (sym names_long) within

  by_name : (w : ℕ) → w < S.worlds → get_or rows (get_or names w 0) [] ≡ successors (links_of S a) w
  by_name w l = sym (named-at names rows w (omega (arith, l, names_long))) ∙ ap (λ rs. get_or rs w []) named ∙ each w l

  pub name_tells : (i j : ℕ) → i < length chosen → j < length chosen → get_or names (get_or chosen i 0) 0 ≡ get_or names (get_or chosen j 0) 0 →
      successors (links_of S a) (get_or chosen i 0) ≡ successors (links_of S a) (get_or chosen j 0)
  name_tells i j l m e =
      sym (by_name (get_or chosen i 0) (All-at (λ w. w < S.worlds) chosen i 0 l within))
      ∙ ap (λ n. get_or rows n []) e
      ∙ by_name (get_or chosen j 0) (All-at (λ w. w < S.worlds) chosen j 0 m within)

  -- the row of a name
  pub name_within : (i : ℕ) → AllByRecursion (λ r. r < length rows) names → i < length chosen → get_or names (get_or chosen i 0) 0 < length rows
  name_within i below l = All-at (λ r. r < length rows) names (get_or chosen i 0) 0 (All-at (λ w. w < length names) chosen i 0 l worlds_named) below

-- one place more
pub original_more : (P : ℕ → ℕ → Type 0) (old new : List ℕ) (i x : ℕ) → length old ≡ i → new ≡ old ++ x ∷ [] → ((k : ℕ) → k < i → P k (get_or old k 0)) → P i x → (k : ℕ) → k < i + 1 → P k (get_or new k 0)
original_more P old new i x n e h p k l = elim (cases_lt k i) [
  | inl m ↦ subst (P k) (sym (ap (λ xs. get_or xs k 0) e ∙ get_or-left old (x ∷ []) k 0 (omega (arith, m, n)))) (h k m)
  | inr g ↦ let q : k ≡ i = omega (arith, g, l) in
      subst (λ j. P j (get_or new j 0)) (sym q) (subst (P i) (sym (ap (λ xs. get_or xs i 0) e ∙ ap (λ j. get_or (old ++ x ∷ []) j 0) (sym n) ∙ get_or-last old x 0)) p)
]

-- the rows of the front of the chosen worlds
module _ (f : ℕ → List ℕ) (chosen : List ℕ) where
  pub front_long : (i : ℕ) → i ≤ length chosen → length (map f (take i chosen)) ≡ i
  front_long i l = length-map (take i chosen) f ∙ length-take-le i chosen l

  pub front_at : (i k : ℕ) → k < i → i ≤ length chosen → get_or (map f (take i chosen)) k [] ≡ f (get_or chosen k 0)
  front_at i k l m =
      get_or-map f (take i chosen) k 0 [] (omega (arith, l, m, length-take-le i chosen m)) ∙ ap f (get_or-take i chosen k 0 l)

  pub front_more : (i : ℕ) (row : List ℕ) (before after : List (List ℕ)) → i < length chosen → before ≡ map f (take i chosen) → row ≡ f (get_or chosen i 0) → after ≡ before ++ row ∷ [] → after ≡ map f (take (i + 1) chosen)
  front_more i row before after l b r e = e ∙ ap (λ rs. rs ++ row ∷ []) b ∙ ap (λ x. map f (take i chosen) ++ x ∷ []) r ∙ sym (map_more f chosen i 0 l)
