-- Laws of rows of successors and of their pairs.
use Rattle.std.proofs.Common.{◌≡◌, ◌≢◌, ℕ, zero, suc, ◌+◌, ◌<◌, ◌≤◌, Bool, ◌==◌, List, [], ◌∷◌, ◌++◌, map, filter, length, get_or, take, sum_by, refl, sym, ◌∙◌, ap, subst, arith, Less, ⊎_elim, length-append, append-nil}
use Rattle.std.proofs.Math.Seq.{take-length}
use Rattle.std.proofs.lemmas.Bool.{ne_eqb}
use Rattle.std.proofs.lemmas.Cmp.{tied_itself}
use Rattle.std.proofs.lemmas.List.{length-map, map-append}
use Rattle.std.proofs.lemmas.List.Elements.{filter-append}
use Rattle.std.proofs.lemmas.List.Sums.{sum_by_more, sum_by-cons}
use Rattle.std.specs.Cmp.{nat_cmp_is, nat_cmp_total}
use Rattle.std.specs.List.{AllByRecursion}
use Rattle.std.specs.Ordering.{nat_cmp, ordering_then}
use Rattle.ep_logic.specs.Numbers.{numbers_where, pairs_within}
use Rattle.ep_theory.specs.Rising.{IsIn, IsRising}
use Rattle.ep_theory.specs.Kripke.{pair_cmp, successors}
use Rattle.ep_theory.specs.Relations.{row_pairs, all_pairs}
use Rattle.ep_theory.proofs.lists.Bools.{in_left, in_right, in_parts}
use Rattle.ep_theory.proofs.lists.Counting.{last_or_before}
use Rattle.ep_theory.proofs.lists.Filters.{All-map, All-at}
use Rattle.ep_theory.proofs.lists.Lists.{at_All, from_map, IsIn-map, test_itself}
use Rattle.ep_theory.proofs.lists.NumbersLemmas.{IsRising-append}
use Rattle.ep_logic.proofs.CallerLemmas.{length-snoc, get_or-left, get_or-last}

-- successors
successors-append : (ps qs : List (ℕ × ℕ)) (w : ℕ) → successors (ps ++ qs) w ≡ successors ps w ++ successors qs w
successors-append ps qs w = ap (map (λ (p : ℕ × ℕ). p.1)) (filter-append (λ p. p.0 == w) ps qs) ∙ map-append (λ (p : ℕ × ℕ). p.1) (filter (λ p. p.0 == w) ps) (filter (λ p. p.0 == w) qs)

successors-own : (m : ℕ) (vs : List ℕ) → successors (map (λ v. (m, v)) vs) m ≡ vs
successors-own m [] = refl
successors-own m (v ∷ vs) = rw (test_itself m, successors-own m vs) refl

successors-other : (m w : ℕ) (vs : List ℕ) → m ≢ w → successors (map (λ v. (m, v)) vs) w ≡ []
successors-other m w [] d = refl
successors-other m w (v ∷ vs) d = rw (ne_eqb m w d, successors-other m w vs d) refl

successors-past : (rows : List (List ℕ)) (m w : ℕ) → m ≤ w → successors (row_pairs rows m) w ≡ []
successors-past rows zero w l = refl
successors-past rows (suc m) w l =
    successors-append (row_pairs rows m) (map (λ v. (m, v)) (get_or rows m [])) w
    ∙ rw (successors-past rows m w (omega arith), successors-other m w (get_or rows m []) (λ e. omega arith)) refl

successors-row_pairs : (rows : List (List ℕ)) (m w : ℕ) → w < m → successors (row_pairs rows m) w ≡ get_or rows w []
successors-row_pairs rows zero w l = absurd (omega arith)
successors-row_pairs rows (suc m) w l =
    successors-append (row_pairs rows m) (map (λ v. (m, v)) (get_or rows m [])) w
    ∙ ⊎_elim
    (λ (e : w ≡ m). rw (e, successors-past rows m m (omega arith), successors-own m (get_or rows m [])) refl)
    (λ (b : w < m). rw (successors-row_pairs rows m w b, successors-other m w (get_or rows m []) (λ e. omega arith)) (append-nil (get_or rows w [])))
    (last_or_before w m l)

-- the successors of a place are its row
pub successors-all_pairs : (rows : List (List ℕ)) (w : ℕ) → w < length rows → successors (all_pairs rows) w ≡ get_or rows w []
successors-all_pairs rows w l = successors-row_pairs rows (length rows) w l

-- the pairs of rows that are chosen by a test are the pairs that it chooses
pub row_pairs-chosen : (rows : List (List ℕ)) (r : ℕ → ℕ → Bool) (n m : ℕ) → ((i : ℕ) → i < m → get_or rows i [] ≡ numbers_where (r i) n) → row_pairs rows m ≡ pairs_within r n m
row_pairs-chosen rows r n zero h = refl
row_pairs-chosen rows r n (suc m) h =
    let last : get_or rows m [] ≡ numbers_where (r m) n = h m (omega arith) in
    rw (row_pairs-chosen rows r n m (λ i l. h i (omega arith)), last) refl

-- one more row
row_pairs-push : (rows : List (List ℕ)) (row : List ℕ) (m : ℕ) → m ≤ length rows → row_pairs (rows ++ row ∷ []) m ≡ row_pairs rows m
row_pairs-push rows row zero l = refl
row_pairs-push rows row (suc m) l = rw (row_pairs-push rows row m (omega arith), get_or-left rows (row ∷ []) m [] (omega arith)) refl

pub all_pairs-push : (rows : List (List ℕ)) (row : List ℕ) → all_pairs (rows ++ row ∷ []) ≡ all_pairs rows ++ map (λ v. (length rows, v)) row
all_pairs-push rows row =
    ap (row_pairs (rows ++ row ∷ [])) (length-snoc rows row)
    ∙ rw (row_pairs-push rows row (length rows) (omega arith), get_or-last rows row []) refl

-- how many pairs there are
length-row_pairs : (rows : List (List ℕ)) (m : ℕ) → m ≤ length rows → length (row_pairs rows m) ≡ sum_by length (take m rows)
length-row_pairs rows zero h = refl
length-row_pairs rows (suc m) h =
    let one : m + 1 ≡ suc m = omega arith in
    let more : sum_by length (take (m + 1) rows) ≡ sum_by length (take m rows) + length (get_or rows m []) = sum_by_more length rows m [] (omega arith) in
    length-append (row_pairs rows m) (map (λ v. (m, v)) (get_or rows m []))
    ∙ ap (λ k. k + length {A = ℕ × ℕ} (map (λ v. (m, v)) (get_or rows m []))) (length-row_pairs rows m (omega arith))
    ∙ ap (λ k. sum_by length (take m rows) + k) (length-map (get_or rows m []) (λ v. (m, v)))
    ∙ sym more ∙ ap (λ k. sum_by length (take k rows)) one

pub length-all_pairs : (rows : List (List ℕ)) → length (all_pairs rows) ≡ sum_by length rows
length-all_pairs rows = length-row_pairs rows (length rows) (omega arith) ∙ ap (sum_by length) (take-length rows)

pub sum_by-pairs : (relations : List (List (List ℕ))) → sum_by length (map all_pairs relations) ≡ sum_by (sum_by length) relations
sum_by-pairs [] = refl
sum_by-pairs (rows ∷ relations) =
    omega (
      arith,
      sum_by-cons (length {A = ℕ × ℕ}) (all_pairs rows) (map all_pairs relations),
      sum_by-cons (sum_by (length {A = ℕ})) rows relations,
      length-all_pairs rows,
      sum_by-pairs relations,
    )

-- the pairs of an agent are those of its rows
pub get_or-pairs : (relations : List (List (List ℕ))) (a : ℕ) → get_or (map all_pairs relations) a [] ≡ all_pairs (get_or relations a [])
get_or-pairs [] a = refl
get_or-pairs (rows ∷ relations) zero = refl
get_or-pairs (rows ∷ relations) (suc a) = get_or-pairs relations a

-- a pair of the first m rows
pub from_row_pairs : (rows : List (List ℕ)) (m c d : ℕ) → IsIn (c, d) (row_pairs rows m) → (c < m) × IsIn d (get_or rows c [])
from_row_pairs rows zero c d i = absurd i
from_row_pairs rows (suc m) c d i = ⊎_elim
    (λ (j : IsIn {A = ℕ × ℕ} (c, d) (row_pairs rows m)). let r = from_row_pairs rows m c d j in ((let l = r.0 in omega arith), r.1))
    (λ (j : IsIn {A = ℕ × ℕ} (c, d) (map (λ v. (m, v)) (get_or rows m []))).
    let v = from_map {A = ℕ} {B = ℕ × ℕ} (λ v. (m, v)) (c, d) (get_or rows m []) j in
    let e : c ≡ m = ap {A = ℕ × ℕ} (λ p. p.0) v.2 in
    let f : d ≡ v.0 = ap {A = ℕ × ℕ} (λ p. p.1) v.2 in
    ((omega arith), subst (λ k. IsIn d (get_or rows k [])) (sym e) (subst (λ k. IsIn k (get_or rows m [])) (sym f) v.1)))
    (in_parts {A = ℕ × ℕ} (c, d) (row_pairs rows m) (map (λ v. (m, v)) (get_or rows m [])) i)

pub to_row_pairs : (rows : List (List ℕ)) (m c d : ℕ) → c < m → IsIn d (get_or rows c []) → IsIn (c, d) (row_pairs rows m)
to_row_pairs rows zero c d l i = absurd (omega arith)
to_row_pairs rows (suc m) c d l i = ⊎_elim
    (λ (e : c ≡ m). in_right {A = ℕ × ℕ} (c, d) (row_pairs rows m) (map (λ v. (m, v)) (get_or rows m []))
    (subst (λ k. IsIn {A = ℕ × ℕ} (k, d) (map (λ v. (m, v)) (get_or rows m []))) (sym e)
    (IsIn-map {A = ℕ} {B = ℕ × ℕ} (λ v. (m, v)) d (get_or rows m []) (subst (λ k. IsIn d (get_or rows k [])) e i))))
    (λ (b : c < m). in_left {A = ℕ × ℕ} (c, d) (row_pairs rows m) (map (λ v. (m, v)) (get_or rows m [])) (to_row_pairs rows m c d b i))
    (last_or_before c m l)

-- rows that rise have pairs that rise
own_rises : (m : ℕ) (row : List ℕ) → IsRising nat_cmp row → IsRising pair_cmp (map (λ v. (m, v)) row)
own_rises m [] h = tt
own_rises m (x ∷ xs) h = (
  All-map {A = ℕ} {B = ℕ × ℕ} (λ q. pair_cmp (m, x) q ≡ Less) (λ v. (m, v)) xs
      (λ v i. ap (λ o. ordering_then o (nat_cmp x v)) (tied_itself nat_cmp_total m) ∙ at_All (λ y. nat_cmp x y ≡ Less) v xs h.0 i),
  own_rises m xs h.1,
)

pub row_pairs_rise : (rows : List (List ℕ)) (m : ℕ) → m ≤ length rows → AllByRecursion (IsRising nat_cmp) rows → IsRising pair_cmp (row_pairs rows m)
row_pairs_rise rows zero l h = tt
row_pairs_rise rows (suc m) l h =
    IsRising-append pair_cmp (row_pairs rows m) (map (λ v. (m, v)) (get_or rows m []))
    (row_pairs_rise rows m (omega arith) h)
    (own_rises m (get_or rows m []) (All-at (IsRising nat_cmp) rows m [] (omega arith) h))
    (λ p q i j.
    let b = (from_row_pairs rows m p.0 p.1 i).0 in
    let v = from_map {A = ℕ} {B = ℕ × ℕ} (λ v. (m, v)) q (get_or rows m []) j in
    let e : q.0 ≡ m = ap {A = ℕ × ℕ} (λ p. p.0) v.2 in
    let c : nat_cmp p.0 q.0 ≡ Less = sym (nat_cmp_is p.0 q.0 Less (omega arith)) in
    ap (λ o. ordering_then o (nat_cmp p.1 q.1)) c)
