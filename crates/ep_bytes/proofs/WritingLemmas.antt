-- Steps of the loops that write rows.
use Rattle.std.proofs.Common.{◌≡◌, ℕ, zero, suc, ◌+◌, ◌-◌, ◌*◌, ◌<◌, ◌≤◌, Bool, List, [], ◌∷◌, ◌++◌, length, get_or, take, drop, refl, sym, ap, ap₂, subst, ◌∙◌, arith, append_assoc, Result, OnOk}
use Rattle.std.specs.List.{AllByRecursion, flat_map, slice_range}
use Rattle.std.proofs.Math.Seq as list_seq
use Rattle.std.proofs.lemmas.List.{flat_map_more, take-append-le}
use Rattle.ep_logic.specs.Numbers.{has_number, table}
use Rattle.ep_logic.specs.Packed.{unpacked, IsPacked}
use Rattle.ep_logic.proofs.CallerLemmas.{length-table}
use Rattle.ep_theory.proofs.CallerLemmas.{All-at, All-from_each}
use Rattle.ep_kripke.specs.Relations.{named_rows}
use Rattle.ep_kripke.proofs.CallerLemmas.{named-at}
use Rattle.ep_bytes.specs.Bytes.{row_size, row_bytes}
use Rattle.ep_kripke.specs.Interning.{row_of}
use Rattle.ep_bytes.proofs.RowBytesLemmas.{length-row_bytes, length-pieces}
use Rattle.ep_bytes.proofs.ToldLemmas.{row_inside}

pub table_more : {X : Type 0} (f : ℕ → X) (n m : ℕ) → m ≡ n + 1 → table f m ≡ table f n ++ f n ∷ []
table_more f n m e = ap (table f) (e ∙ (let one : n + 1 ≡ suc n = omega arith in one))

-- one more row of a table
pub row_more : {X : Type 0} (f : X → List ℕ) (g : ℕ → X) (start before after piece : List ℕ) (i : ℕ) →
    before ≡ start ++ flat_map f (table g i) → piece ≡ f (g i) → after ≡ before ++ piece → after ≡ start ++ flat_map f (table g (i + 1))
row_more f g start before after piece i h p e =
    e ∙ ap₂ (λ x y. x ++ y) h p ∙ flat_map_more f start (table g i) (g i) ∙ ap (λ ys. start ++ flat_map f ys) (sym (table_more g i (i + 1) refl))

-- a piece of pieces of one length
pub piece_of : {X : Type 0} (f : X → List ℕ) (m : ℕ) (xs : List X) (i : ℕ) (d : X) → ((x : X) → length (f x) ≡ m) → i < length xs → take m (drop (i * m) (flat_map f xs)) ≡ f (get_or xs i d)
piece_of f m [] i d h l = absurd (omega arith)
piece_of f m (x ∷ xs) zero d h l =
    let none : zero * m ≡ 0 = omega arith in
    ap (λ k. take m (drop k (f x ++ flat_map f xs))) none
    ∙ take-append-le m (f x) (flat_map f xs) (omega (arith, h x))
    ∙ ap (λ k. take k (f x)) (sym (h x))
    ∙ list_seq.take-length (f x)
piece_of f m (x ∷ xs) (suc i) d h l =
    let more : suc i * m ≡ length (f x) + i * m = omega (arith, h x) in
    ap (λ k. take m (drop k (f x ++ flat_map f xs))) more
    ∙ ap (take m) (list_seq.drop-append-add (f x) (flat_map f xs) (i * m))
    ∙ piece_of f m xs i d h (omega arith)

pub length-numbers : (count : ℕ) (xs : List ℕ) → length (row_bytes (row_of count xs)) ≡ row_size count
length-numbers count xs = length-row_bytes (row_of count xs) ∙ ap row_size (length-table (has_number xs) count)

-- one more value of a table
pub one_more : (f : ℕ → ℕ) (start before after : List ℕ) (x i : ℕ) → before ≡ start ++ table f i → x ≡ f i → after ≡ before ++ x ∷ [] → after ≡ start ++ table f (i + 1)
one_more f start before after x i h p e =
    e ∙ ap₂ (λ xs y. xs ++ y ∷ []) h p ∙ append_assoc start (table f i) (f i ∷ []) ∙ ap (λ ys. start ++ ys) (sym (table_more f i (i + 1) refl))

-- the words of a row of numbers
pub packed_as : (words : List ℕ) (row : List Bool) (numbers : List ℕ) (count : ℕ) → row ≡ row_of count numbers → IsPacked words (length row) → IsPacked words count
packed_as words row numbers count e p = subst (IsPacked words) (ap length e ∙ length-table (has_number numbers) count) p

pub written_as : {E : Type 0} (r : Result (Unit {0}) E) (after before words : List ℕ) (row : List Bool) (numbers : List ℕ) (count : ℕ) → row ≡ row_of count numbers → unpacked words (length row) ≡ row →
    OnOk r (after ≡ before ++ row_bytes (unpacked words count)) → OnOk r (after ≡ before ++ row_bytes (row_of count numbers))
written_as r after before words row numbers count e u h =
    let long : length row ≡ count = ap length e ∙ length-table (has_number numbers) count in
    subst (λ xs. OnOk r (after ≡ before ++ row_bytes xs)) (ap (unpacked words) (sym long) ∙ u ∙ e) h

-- the bytes of the row of a world are a piece of those of the rows that are named
module _ (names made : List ℕ) (rows seen : List (List ℕ)) (n count size w : ℕ) (named : named_rows names rows ≡ seen) (within : AllByRecursion (λ i. i < length rows) names)
    (inside : w < length names) (wide : size ≡ row_size n) (worlds : count ≡ n) (all : made ≡ flat_map (λ xs. row_bytes (row_of count xs)) rows) where
  each : (xs : List ℕ) → length (row_bytes (row_of count xs)) ≡ size
  each xs = length-numbers count xs ∙ ap row_size worlds ∙ sym wide

  name : get_or names w 0 < length rows
  name = All-at (λ i. i < length rows) names w 0 inside within

  pub piece_inside : get_or names w 0 * size + size ≤ length made
  piece_inside =
      let long : length made ≡ length rows * size =
      ap length all ∙ length-pieces (λ xs. row_bytes (row_of count xs)) size rows (All-from_each (λ xs. length (row_bytes (row_of count xs)) ≡ size) rows (λ xs i. each xs)) in
      let below = row_inside (get_or names w 0) (length rows) size name in
      omega (arith, long, below)

  pub piece_is : (piece : List ℕ) → piece ≡ slice_range made (get_or names w 0 * size) (get_or names w 0 * size + size) → piece ≡ row_bytes (row_of n (get_or seen w []))
  piece_is piece e =
      let wide : get_or names w 0 * size + size - get_or names w 0 * size ≡ size = omega arith in
      e
      ∙ ap (λ k. take k (drop (get_or names w 0 * size) made)) wide
      ∙ ap (λ xs. take size (drop (get_or names w 0 * size) xs)) all
      ∙ piece_of (λ xs. row_bytes (row_of count xs)) size rows (get_or names w 0) [] each name
      ∙ (λ i. row_bytes (row_of (worlds i) ((sym (named-at names rows w inside) ∙ ap (λ rs. get_or rs w []) named) i)))
