-- Chains of links backwards.
use Rattle.std.proofs.Common.{◌≡◌, ℕ, zero, suc, ◌+◌, ◌<◌, ◌≤◌, List, [], ◌∷◌, ◌++◌, length, get_or, set, map, sum_by, replicate, refl, ap, ap₂, ◌∙◌, sym, subst, arith, ◌⊎◌, inl, inr}
use Rattle.std.proofs.lemmas.List.{get_or_default, map-set, get_or-map, get_or_append_left, get_or-set_same, get_or-set_other, length-map}
use Rattle.std.proofs.lemmas.List.Folds.{sum_by-replicate}
use Rattle.std.proofs.lemmas.Bool.Decides.{eqb_tells}
use Rattle.std.proofs.lemmas.List.Sums.{sum_by-set}
use Rattle.std.proofs.Math.Seq.{get_or-append_seam}
use Rattle.ep_kripke.specs.declared.sources.BackLink.{BackLink}
use Rattle.ep_kripke.specs.Sources.{no_link, chain_within, chain, chains, IsChained, row_at, with_source}

-- each link names an earlier place
abbrev IsBack : List BackLink → Type 0
IsBack links = (i : ℕ) → i < length links → (get_or links i no_link).before ≤ i

-- more steps than the place find the same
same_chain : (links : List BackLink) → IsBack links → (n m k : ℕ) → k ≤ n → k ≤ m → k ≤ length links → chain_within n links k ≡ chain_within m links k
same_chain links b zero zero k g h l = refl
same_chain links b zero (suc m) zero g h l = refl
same_chain links b zero (suc m) (suc k) g h l = absurd (omega arith)
same_chain links b (suc n) zero zero g h l = refl
same_chain links b (suc n) zero (suc k) g h l = absurd (omega arith)
same_chain links b (suc n) (suc m) zero g h l = refl
same_chain links b (suc n) (suc m) (suc k) g h l =
    let e : (get_or links k no_link).before ≤ k = b k (omega arith) in
    ap (λ ws. (get_or links k no_link).from ∷ ws) (same_chain links b n m (get_or links k no_link).before (omega arith) (omega arith) (omega arith))

pub chain-zero : (links : List BackLink) → chain links 0 ≡ []
unfolding chain
chain-zero links = refl

pub chain-suc : (links : List BackLink) → IsBack links → (i : ℕ) → i < length links →
    chain links (suc i) ≡ (get_or links i no_link).from ∷ chain links (get_or links i no_link).before
unfolding chain
chain-suc links b i l =
    let e : (get_or links i no_link).before ≤ i = b i l in
    ap (λ ws. (get_or links i no_link).from ∷ ws) (same_chain links b i (get_or links i no_link).before (get_or links i no_link).before e (omega arith) (omega arith))

-- one link more
within-push : (links : List BackLink) (x : BackLink) → IsBack links → (n k : ℕ) → k ≤ length links → chain_within n (links ++ x ∷ []) k ≡ chain_within n links k
within-push links x b zero k l = refl
within-push links x b (suc n) zero l = refl
within-push links x b (suc n) (suc k) l =
    let e : (get_or links k no_link).before ≤ k = b k (omega arith) in
    let at : get_or (links ++ x ∷ []) k no_link ≡ get_or links k no_link = get_or_append_left links (x ∷ []) no_link k (omega arith) in
    (λ i. (at i).from ∷ chain_within n (links ++ x ∷ []) (at i).before)
    ∙ ap (λ ws. (get_or links k no_link).from ∷ ws) (within-push links x b n (get_or links k no_link).before (omega arith))

pub chain-push : (links : List BackLink) (x : BackLink) → IsBack links → (k : ℕ) → k ≤ length links → chain (links ++ x ∷ []) k ≡ chain links k
unfolding chain
chain-push links x b k l = within-push links x b k k l

length-push : {A : Type 0} (xs : List A) (x : A) → length (xs ++ x ∷ []) ≡ suc (length xs)
length-push [] x = refl
length-push (y ∷ ys) x = ap suc (length-push ys x)

back-push : (links : List BackLink) (x : BackLink) → IsBack links → x.before ≤ length links → IsBack (links ++ x ∷ [])
back-push links x b h i l = elim (lt_or_last i (length links) (omega (arith, length-push links x))) [
  | inl m ↦ subst (λ (y : BackLink). y.before ≤ i) (sym (get_or_append_left links (x ∷ []) no_link i m)) (b i m)
  | inr e ↦ subst (λ (j : ℕ). (get_or (links ++ x ∷ []) j no_link).before ≤ j) (sym e)
      (subst (λ (y : BackLink). y.before ≤ length links) (sym (get_or-append_seam links x [] no_link)) h)
]
  where
    lt_or_last : (i n : ℕ) → i < suc n → (i < n) ⊎ (i ≡ n)
    lt_or_last i n l = grind arith

map_alike : (f g : ℕ → List ℕ) (xs : List ℕ) (n : ℕ) → ((v : ℕ) → get_or xs v 0 ≤ n) → ((k : ℕ) → k ≤ n → f k ≡ g k) → map f xs ≡ map g xs
map_alike f g [] n h e = refl
map_alike f g (x ∷ xs) n h e = ap₂ (λ y ys. y ∷ ys) (e x (h 0)) (map_alike f g xs n (λ v. h (suc v)) e)

-- a link into a world is added
pub chains-add : (links : List BackLink) (last : List ℕ) (from to : ℕ) → IsChained links last → to < length last →
    chains (links ++ record { from = from; before = get_or last to 0 } ∷ []) (set last to (suc (length links))) ≡ with_source (chains links last) from to
chains-add links last from to c l =
    let x : BackLink = record { from = from; before = get_or last to 0 } in
    let more = links ++ x ∷ [] in
    let here : chain more (suc (length links)) ≡ from ∷ row_at (chains links last) to =
    chain-suc more (back-push links x c.back (c.within to)) (length links) (omega (arith, length-push links x))
    ∙ ap (λ (y : BackLink). y.from ∷ chain more y.before) (get_or-append_seam links x [] no_link)
    ∙ ap (λ ws. from ∷ ws) (chain-push links x c.back (get_or last to 0) (c.within to) ∙ sym (get_or-map (chain links) last to 0 [] l)) in
    map-set (chain more) last to (suc (length links))
    ∙ ap₂ (λ rows row. set rows to row) (map_alike (chain more) (chain links) last (length links) c.within (chain-push links x c.back)) here

pub sum-with_source : (rows : List (List ℕ)) (from to : ℕ) → to < length rows → sum_by length (with_source rows from to) ≡ sum_by length rows + 1
sum-with_source rows from to l = let e = sum_by-set length rows to (from ∷ row_at rows to) [] l in omega arith

pub is_chained-add : (links : List BackLink) (last : List ℕ) (from to : ℕ) → IsChained links last → to < length last →
    IsChained (links ++ record { from = from; before = get_or last to 0 } ∷ []) (set last to (suc (length links)))
is_chained-add links last from to c l =
    let x : BackLink = record { from = from; before = get_or last to 0 } in
    record {
      back = back-push links x c.back (c.within to);
      within = λ v. elim (eqb_tells v to) [
        | inl e ↦ omega (arith, ap (λ j. get_or (set last to (suc (length links))) j 0) e.1, get_or-set_same last to (suc (length links)) 0 l, length-push links x)
        | inr e ↦ omega (arith, get_or-set_other last to v (suc (length links)) 0 e.1, c.within v, length-push links x)
      ];
      counted = omega (
        arith,
        length-push links x,
        c.counted,
        ap (sum_by length) (chains-add links last from to c l),
        sum-with_source (chains links last) from to (omega (arith, length-map last (chain links))),
      );
    }

-- no links
chains_none : (n : ℕ) → chains [] (replicate n 0) ≡ replicate n []
chains_none zero = refl
chains_none (suc n) = ap₂ (λ y ys. y ∷ ys) (chain-zero []) (chains_none n)

sum_none : (n : ℕ) → sum_by length (replicate {A = List ℕ} n []) ≡ 0
sum_none n = sum_by-replicate length n [] ∙ omega arith

zero_at : (n v : ℕ) → get_or {A = ℕ} (replicate n 0) v 0 ≡ 0
zero_at zero v = refl
zero_at (suc n) zero = refl
zero_at (suc n) (suc v) = zero_at n v

pub new_chains : (links : List BackLink) (last : List ℕ) (n : ℕ) → links ≡ [] → last ≡ replicate n 0 → (chains links last ≡ replicate n []) × IsChained links last
new_chains links last n e f =
    let P : List BackLink → List ℕ → Type 0 = λ links last. (chains links last ≡ replicate n []) × IsChained links last in
    subst (λ ls. P ls last) (sym e) (subst (P []) (sym f) (
      chains_none n,
      record {
        back = λ i l. absurd (omega arith);
        within = λ v. omega (arith, zero_at n v);
        counted = sym (ap (sum_by length) (chains_none n) ∙ sum_none n);
      },
    ))

-- what a push and a write leave
pub added : (links more : List BackLink) (last : List ℕ) (rows : List (List ℕ)) (from to before n : ℕ) → IsChained links last → chains links last ≡ rows → to < length rows →
    before ≡ get_or last to before → more ≡ links ++ record { from = from; before = before } ∷ [] → n ≡ length more →
    IsChained more (set last to n) × (chains more (set last to n) ≡ with_source rows from to)
added links more last rows from to before n c r l b m e =
    let P : List BackLink → ℕ → Type 0 = λ more n. IsChained more (set last to n) × (chains more (set last to n) ≡ with_source rows from to) in
    let x : BackLink = record { from = from; before = get_or last to 0 } in
    let in_last : to < length last = omega (arith, ap length r, length-map last (chain links), l) in
    let m2 : more ≡ links ++ x ∷ [] = m ∙ (λ i. links ++ record { from = from; before = (b ∙ get_or_default last to before 0 in_last) i } ∷ []) in
    let e2 : n ≡ suc (length links) = e ∙ ap length m2 ∙ length-push links x in
    let whole = chains-add links last from to c in_last ∙ ap (λ rows. with_source rows from to) r in
    subst (λ more. P more n) (sym m2) (subst (P (links ++ x ∷ [])) (sym e2) (is_chained-add links last from to c in_last, whole))
