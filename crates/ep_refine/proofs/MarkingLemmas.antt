-- Marking worlds one after another.
use Rattle.std.proofs.Common.{◌≡◌, ◌≢◌, ℕ, zero, suc, ◌<◌, ◌+◌, ◌⊎◌, inl, inr, ⊎_elim, Bool, true, false, List, [], ◌∷◌, ◌++◌, length, get_or, set, take, refl, sym, subst, ◌∙◌, arith, IsTrue, length-append}
use Rattle.std.proofs.lemmas.List.{get_or-set_other, get_or-set_same, length-set, take_more}
use Rattle.ep_theory.specs.Rising.{IsIn}
use Rattle.ep_theory.proofs.CallerLemmas.{in_left, in_right, in_parts}
use Rattle.ep_refine.specs.Marking.{unmarked, Marks}
use Rattle.ep_logic.specs.Rows.{value_at}

pub marks_none : (row : List Bool) (open' : List ℕ) → Marks (λ v. ⊥) row row open' open'
marks_none row open' = record {
  long = refl;
  keeps = λ w h. h;
  adds = λ w h. absurd h;
  marked = λ w h. inl h;
  keeps_open = λ w i. i;
  opened = λ w i. inl i;
  count = refl;
}

pub marks_both : (P Q : ℕ → Type 0) (a b c : List Bool) (o p q : List ℕ) → Marks P a b o p → Marks Q b c p q → Marks (λ w. P w ⊎ Q w) a c o q
marks_both P Q a b c o p q f g = record {
  long = g.long ∙ f.long;
  keeps = λ w h. g.keeps w (f.keeps w h);
  adds = λ w h. ⊎_elim (λ (i : P w). g.keeps w (f.adds w i)) (λ (j : Q w). g.adds w j) h;
  marked = λ w h. ⊎_elim
      (λ (i : IsTrue (value_at b w)). ⊎_elim (λ (j : IsTrue (value_at a w)). inl j) (λ (j : P w × IsIn w p). inr (inl j.0, g.keeps_open w j.1)) (f.marked w i))
      (λ (j : Q w × IsIn w q). inr (inr j.0, j.1)) (g.marked w h);
  keeps_open = λ w i. g.keeps_open w (f.keeps_open w i);
  opened = λ w i. ⊎_elim
      (λ (j : IsIn w p). ⊎_elim (λ (k : IsIn w o). inl k) (λ (k : P w). inr (inl k)) (f.opened w j))
      (λ (j : Q w). inr (inr j)) (g.opened w i);
  count = g.count ∙ f.count;
}

pub marks_same : (P Q : ℕ → Type 0) (a b : List Bool) (o p : List ℕ) → ((w : ℕ) → P w → Q w) → ((w : ℕ) → Q w → P w) → Marks P a b o p → Marks Q a b o p
marks_same P Q a b o p to from f = record {
  long = f.long;
  keeps = f.keeps;
  adds = λ w h. f.adds w (from w h);
  marked = λ w h. ⊎_elim (λ (j : IsTrue (value_at a w)). inl j) (λ (j : P w × IsIn w p). inr (to w j.0, j.1)) (f.marked w h);
  keeps_open = f.keeps_open;
  opened = λ w i. ⊎_elim (λ (j : IsIn w o). inl j) (λ (j : P w). inr (to w j)) (f.opened w i);
  count = f.count;
}

-- a world that is marked already
pub marks_old : (row : List Bool) (open' : List ℕ) (w : ℕ) → value_at row w ≡ true → Marks (λ v. v ≡ w) row row open' open'
marks_old row open' w h = record {
  long = refl;
  keeps = λ v i. i;
  adds = λ v q. subst (λ x. IsTrue (value_at row x)) (sym q) h;
  marked = λ v i. inl i;
  keeps_open = λ v i. i;
  opened = λ v i. inl i;
  count = refl;
}

unmarked-set : (row : List Bool) (w : ℕ) → w < length row → value_at row w ≡ false → unmarked (set row w true) + 1 ≡ unmarked row
unmarked-set [] w b h = absurd (omega arith)
unmarked-set (true ∷ row) zero b h = cc
unmarked-set (false ∷ row) zero b h = omega arith
unmarked-set (true ∷ row) (suc w) b h = unmarked-set row w (omega arith) h
unmarked-set (false ∷ row) (suc w) b h = let q = unmarked-set row w (omega arith) h in omega arith

-- a world that is not marked yet
pub marks_new : (row : List Bool) (open' : List ℕ) (w : ℕ) → w < length row → value_at row w ≡ false → Marks (λ v. v ≡ w) row (set row w true) open' (open' ++ w ∷ [])
marks_new row open' w b h = record {
  long = length-set row w true;
  keeps = keeps;
  adds = λ v q. subst (λ x. IsTrue (value_at (set row w true) x)) (sym q) here;
  marked = λ v i. ⊎_elim
      (λ (q : v ≡ w). inr (q, in_right v open' (w ∷ []) (inl q)))
      (λ (q : v ≢ w). inl (subst IsTrue (others v q) i))
      (same_or_not v w);
  keeps_open = λ v i. in_left v open' (w ∷ []) i;
  opened = λ v i. ⊎_elim (λ (j : IsIn v open'). inl j) (λ (j : IsIn v (w ∷ [])). inr (only v j)) (in_parts v open' (w ∷ []) i);
  count = let q = unmarked-set row w b h in let l = length-append open' (w ∷ []) in omega arith;
}
  where
    same_or_not : (v w : ℕ) → (v ≡ w) ⊎ (v ≢ w)
    same_or_not v w = grind arith

    here : value_at (set row w true) w ≡ true
    here = get_or-set_same row w true false b

    others : (v : ℕ) → v ≢ w → value_at (set row w true) v ≡ value_at row v
    others v q = get_or-set_other row w v true false q

    keeps : (v : ℕ) → IsTrue (value_at row v) → IsTrue (value_at (set row w true) v)
    keeps v i = ⊎_elim
        (λ (q : v ≡ w). subst (λ x. IsTrue (value_at (set row w true) x)) (sym q) here)
        (λ (q : v ≢ w). subst IsTrue (sym (others v q)) i)
        (same_or_not v w)

    only : (v : ℕ) → IsIn v (w ∷ []) → v ≡ w
    only v (inl q) = q
    only v (inr r) = absurd r

take_one_more : (ws : List ℕ) (i : ℕ) → i < length ws → take (i + 1) ws ≡ take i ws ++ get_or ws i 0 ∷ []
take_one_more ws i b = take_more ws i 0 b

-- one more world of the list
pub marks_more : (ws : List ℕ) (i x : ℕ) (a b c : List Bool) (o p q : List ℕ) → i < length ws → x ≡ get_or ws i 0 →
    Marks (λ v. IsIn v (take i ws)) a b o p → Marks (λ v. v ≡ x) b c p q → Marks (λ v. IsIn v (take (i + 1) ws)) a c o q
marks_more ws i x a b c o p q l e f g =
    marks_same (λ v. IsIn v (take i ws) ⊎ (v ≡ x)) (λ v. IsIn v (take (i + 1) ws)) a c o q to from
    (marks_both (λ v. IsIn v (take i ws)) (λ v. v ≡ x) a b c o p q f g)
  where
    to : (v : ℕ) → IsIn v (take i ws) ⊎ (v ≡ x) → IsIn v (take (i + 1) ws)
    to v h = subst (IsIn v) (sym (take_one_more ws i l)) (⊎_elim
        (λ (j : IsIn v (take i ws)). in_left v (take i ws) (get_or ws i 0 ∷ []) j)
        (λ (k : v ≡ x). in_right v (take i ws) (get_or ws i 0 ∷ []) (inl (k ∙ e))) h)

    only : (v y : ℕ) → IsIn v (y ∷ []) → v ≡ y
    only v y (inl k) = k
    only v y (inr k) = absurd k

    from : (v : ℕ) → IsIn v (take (i + 1) ws) → IsIn v (take i ws) ⊎ (v ≡ x)
    from v h = ⊎_elim (λ (j : IsIn v (take i ws)). inl j) (λ (k : IsIn v (get_or ws i 0 ∷ [])). inr (only v (get_or ws i 0) k ∙ sym e))
        (in_parts v (take i ws) (get_or ws i 0 ∷ []) (subst (IsIn v) (take_one_more ws i l) h))

-- at equal lists
pub marks_as : (P : ℕ → Type 0) (a b c : List Bool) (o p q : List ℕ) → b ≡ c → p ≡ q → Marks P a b o p → Marks P a c o q
marks_as P a b c o p q e f h = subst (λ (x : List Bool). Marks P a x o q) e (subst (λ (y : List ℕ). Marks P a b o y) f h)
