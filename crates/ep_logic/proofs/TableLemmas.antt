-- Rows of one length, one after another.
use Rattle.std.proofs.Common.{◌≡◌, ◌≢◌, ℕ, ◌+◌, ◌-◌, ◌*◌, ◌/◌, ◌%◌, ◌^◌, ◌<◌, ◌≤◌, Bool, false, ◌==◌, List, [], ◌∷◌, ◌++◌, length, length-append, map, get_or, set, take, drop, replicate, ap, ap₂, ◌∙◌, sym, arith, inl, inr}
use Rattle.std.specs.Int.{bit_at}
use Rattle.std.specs.List.{range_with_len, slice_range}
use Rattle.std.proofs.lemmas.List.{same_lists, get_or-replicate, length-replicate, get_or_past, get_or-take, get_or-drop, length-take-le, length-drop, get_or_append_left, get_or-append-add, length-set, get_or-set_same, get_or-set_other}
use Rattle.std.proofs.lemmas.Bool.{cases_eq}
use Rattle.std.proofs.Math.Seq.{get_or-append_seam}
use Rattle.std.proofs.lemmas.Nat.{mul-le}
use Rattle.std.proofs.lemmas.Nat.Bits.{bit_at-zero}
use native.Mathlib.Decide.{dec_lt}
use Prim.{yes, no}
use Rattle.std.proofs.lemmas.List.FromFn.{get_or-map-range_with_len, length-map-range_with_len}
use Rattle.ep_logic.specs.Packed.{bit_in, unpacked, IsPacked}
use Rattle.ep_logic.specs.declared.table.TheConstants.{MOST_ROWS}
use Rattle.ep_logic.specs.Tables.{Table, table_row, table_rows, IsTable}
use Rattle.ep_logic.proofs.PackedLemmas.{zero_bits, length-unpacked, unpacked-get}

pub length-table_rows : (words : List ℕ) (width per n : ℕ) → length (table_rows words width per n) ≡ n
unfolding table_rows
length-table_rows words width per n = length-map-range_with_len (λ r. table_row words width (r * per)) 0 n

pub table_rows-at : (words : List ℕ) (width per n r : ℕ) (d : List Bool) → r < n → get_or (table_rows words width per n) r d ≡ table_row words width (r * per)
unfolding table_rows
table_rows-at words width per n r d h = get_or-map-range_with_len (λ r. table_row words width (r * per)) 0 n r r d h (omega arith)

pub length-table_row : (words : List ℕ) (width from : ℕ) → length (table_row words width from) ≡ width
unfolding table_row
length-table_row words width from = length-map-range_with_len (λ i. bit_in words (from * 64 + i)) 0 width

pub table_row-at : (words : List ℕ) (width from i : ℕ) (d : Bool) → i < width → get_or (table_row words width from) i d ≡ bit_in words (from * 64 + i)
unfolding table_row
table_row-at words width from i d h = get_or-map-range_with_len (λ i. bit_in words (from * 64 + i)) 0 width i i d h (omega arith)

-- what a table shows is below what it holds
pub in_table : (words : List ℕ) (width per n : ℕ) (t : Table) → record { width = width; rows = table_rows words width per n } ≡ t → (r : ℕ) → r < length t.rows → r < n
in_table words width per n t e r h = omega (arith, h, ap (λ (t : Table). length t.rows) e, length-table_rows words width per n)

pub in_width : (words : List ℕ) (width per n : ℕ) (t : Table) → record { width = width; rows = table_rows words width per n } ≡ t → (i : ℕ) → i < t.width → i < width
in_width words width per n t e i h = omega (arith, h, ap (λ (t : Table). t.width) e)

-- the value at a place of a row
pub table_value : (words : List ℕ) (width per n r i : ℕ) → r < n → i < width → bit_in words (r * per * 64 + i) ≡ get_or (get_or (table_rows words width per n) r []) i false
table_value words width per n r i h l =
    sym (ap (λ row. get_or row i false) (table_rows-at words width per n r [] h) ∙ table_row-at words width (r * per) i false l)

-- a row lies within the words
pub row_ends : (r n per : ℕ) → r < n → r * per + per ≤ n * per
row_ends r n per h =
    let e : (r + 1) * per ≡ r * per + per = omega arith in
    omega (arith, e, mul-le (r + 1) per n per (omega arith) (omega arith))

-- the words of a row by themselves
slice_word : (words : List ℕ) (from per j : ℕ) → j < per → get_or (slice_range words from (from + per)) j 0 ≡ get_or words (from + j) 0
slice_word words from per j h =
    let e : from + per - from ≡ per = omega arith in
    ap (λ n. get_or (take n (drop from words)) j 0) e ∙ get_or-take per (drop from words) j 0 h ∙ get_or-drop from words j 0

pub slice_bit : (words : List ℕ) (from per i : ℕ) → i < per * 64 → bit_in (slice_range words from (from + per)) i ≡ bit_in words (from * 64 + i)
slice_bit words from per i h =
    let inside : i / 64 < per = omega (arith, h) in
    let at : from + i / 64 ≡ (from * 64 + i) / 64 = omega arith in
    let place : i % 64 ≡ (from * 64 + i) % 64 = omega arith in
    ap (λ n. bit_at n (i % 64) == 1) (slice_word words from per (i / 64) inside)
    ∙ ap₂ (λ q p. bit_at (get_or words q 0) p == 1) at place

length-slice : (words : List ℕ) (from per : ℕ) → from + per ≤ length words → length (slice_range words from (from + per)) ≡ per
length-slice words from per h =
    let e : from + per - from ≡ per = omega arith in
    ap (λ n. length (take n (drop from words))) e ∙ length-take-le per (drop from words) (omega (arith, h, length-drop from words))

pub slice_row : (words : List ℕ) (width from per : ℕ) → width ≤ per * 64 → unpacked (slice_range words from (from + per)) width ≡ table_row words width from
unfolding unpacked table_row
slice_row words width from per h =
    same_lists (map (bit_in (slice_range words from (from + per))) (range_with_len 0 width)) (map (λ i. bit_in words (from * 64 + i)) (range_with_len 0 width))
    (length-map-range_with_len (bit_in (slice_range words from (from + per))) 0 width ∙ sym (length-map-range_with_len (λ i. bit_in words (from * 64 + i)) 0 width))
    (λ k d l.
    let in_row : k < width = omega (arith, l, length-map-range_with_len (bit_in (slice_range words from (from + per))) 0 width) in
    get_or-map-range_with_len (bit_in (slice_range words from (from + per))) 0 width k k d in_row (omega arith)
    ∙ slice_bit words from per k (omega (arith, in_row, h))
    ∙ sym (get_or-map-range_with_len (λ i. bit_in words (from * 64 + i)) 0 width k k d in_row (omega arith)))

pub slice_packed : (words : List ℕ) (width per n r : ℕ) → IsTable words width per n → r < n → IsPacked (slice_range words (r * per) (r * per + per)) width
slice_packed words width per n r t h =
    let long : length (slice_range words (r * per) (r * per + per)) ≡ per = length-slice words (r * per) per (omega (arith, row_ends r n per h, t.long)) in
    record {
      short = omega (arith, t.short);
      long = long ∙ t.words_of_row;
      tail = λ i m. elim (dec_lt i (per * 64)) [
        | yes l ↦ slice_bit words (r * per) per i l ∙ t.tails r i h m l
        | no k ↦ ap (λ x. bit_at x (i % 64) == 1) (get_or_past (slice_range words (r * per) (r * per + per)) (i / 64) 0 (omega (arith, long, k))) ∙ ap (λ x. x == 1) (bit_at-zero (i % 64))
      ];
    }

-- a table of zeros
zero_row : (count width from : ℕ) → table_row (replicate count 0) width from ≡ replicate width false
unfolding table_row
zero_row count width from =
    same_lists (map (λ i. bit_in (replicate count 0) (from * 64 + i)) (range_with_len 0 width)) (replicate width false)
    (length-map-range_with_len (λ i. bit_in (replicate count 0) (from * 64 + i)) 0 width ∙ sym (length-replicate width false))
    (λ k d l.
    let in_row : k < width = omega (arith, l, length-map-range_with_len (λ i. bit_in (replicate count 0) (from * 64 + i)) 0 width) in
    get_or-map-range_with_len (λ i. bit_in (replicate count 0) (from * 64 + i)) 0 width k k d in_row (omega arith)
    ∙ zero_bits count (from * 64 + k) ∙ sym (get_or-replicate width k false d in_row))

pub zero_table : (count width per n : ℕ) → table_rows (replicate count 0) width per n ≡ replicate n (replicate width false)
unfolding table_rows
zero_table count width per n =
    same_lists (map (λ r. table_row (replicate count 0) width (r * per)) (range_with_len 0 n)) (replicate n (replicate width false))
    (length-map-range_with_len (λ r. table_row (replicate count 0) width (r * per)) 0 n ∙ sym (length-replicate n (replicate width false)))
    (λ k d l.
    let in_table : k < n = omega (arith, l, length-map-range_with_len (λ r. table_row (replicate count 0) width (r * per)) 0 n) in
    get_or-map-range_with_len (λ r. table_row (replicate count 0) width (r * per)) 0 n k k d in_table (omega arith)
    ∙ zero_row count width (k * per) ∙ sym (get_or-replicate n k (replicate width false) d in_table))

pub zero_is_table : (width per n : ℕ) → n ≤ MOST_ROWS → width < 2 ^ 32 → per ≡ (width + 63) / 64 → IsTable (replicate (n * per) 0) width per n
zero_is_table width per n f s p = record {
  few = f;
  short = s;
  words_of_row = p;
  long = length-replicate (n * per) 0;
  tails = λ r i h m l. zero_bits (n * per) (r * per * 64 + i);
}

-- one more row
bit_left : (ws row : List ℕ) (k : ℕ) → k / 64 < length ws → bit_in (ws ++ row) k ≡ bit_in ws k
bit_left ws row k h = ap (λ n. bit_at n (k % 64) == 1) (get_or_append_left ws row 0 (k / 64) h)

bit_right : (ws row : List ℕ) (i : ℕ) → bit_in (ws ++ row) (length ws * 64 + i) ≡ bit_in row i
bit_right ws row i =
    let at : (length ws * 64 + i) / 64 ≡ length ws + i / 64 = omega arith in
    let place : (length ws * 64 + i) % 64 ≡ i % 64 = omega arith in
    ap₂ (λ q p. bit_at (get_or (ws ++ row) q 0) p == 1) at place ∙ ap (λ n. bit_at n (i % 64) == 1) (get_or-append-add ws row (i / 64) 0)

row_left : (ws row : List ℕ) (width per n r : ℕ) → r < n → length ws ≡ n * per → width ≤ per * 64 → table_row (ws ++ row) width (r * per) ≡ table_row ws width (r * per)
row_left ws row width per n r h e s =
    same_lists (table_row (ws ++ row) width (r * per)) (table_row ws width (r * per)) (length-table_row (ws ++ row) width (r * per) ∙ sym (length-table_row ws width (r * per)))
    (λ k d l.
    let in_row : k < width = omega (arith, l, length-table_row (ws ++ row) width (r * per)) in
    table_row-at (ws ++ row) width (r * per) k d in_row ∙ bit_left ws row (r * per * 64 + k) (omega (arith, in_row, s, e, row_ends r n per h)) ∙ sym (table_row-at ws width (r * per) k d in_row))

row_right : (ws row : List ℕ) (width : ℕ) → table_row (ws ++ row) width (length ws) ≡ unpacked row width
row_right ws row width =
    same_lists (table_row (ws ++ row) width (length ws)) (unpacked row width) (length-table_row (ws ++ row) width (length ws) ∙ sym (length-unpacked row width))
    (λ k d l.
    let in_row : k < width = omega (arith, l, length-table_row (ws ++ row) width (length ws)) in
    table_row-at (ws ++ row) width (length ws) k d in_row ∙ bit_right ws row k ∙ sym (unpacked-get row width k d in_row))

pub push_rows : (ws row : List ℕ) (width per n : ℕ) → IsTable ws width per n → table_rows (ws ++ row) width per (n + 1) ≡ table_rows ws width per n ++ unpacked row width ∷ []
push_rows ws row width per n t =
    let long : length (table_rows ws width per n) ≡ n = length-table_rows ws width per n in
    same_lists (table_rows (ws ++ row) width per (n + 1)) (table_rows ws width per n ++ unpacked row width ∷ [])
    (omega (arith, length-table_rows (ws ++ row) width per (n + 1), length-append (table_rows ws width per n) (unpacked row width ∷ []), long))
    (λ k d l.
    let in_table : k < n + 1 = omega (arith, l, length-table_rows (ws ++ row) width per (n + 1)) in
    table_rows-at' k d in_table ∙ elim (dec_lt k n) [
      | yes a ↦ row_left ws row width per n k a t.long (omega (arith, t.words_of_row))
          ∙ sym (table_rows_at_old k d a) ∙ sym (get_or_append_left (table_rows ws width per n) (unpacked row width ∷ []) d k (omega (arith, a, long)))
      | no b ↦
          let e : k ≡ n = omega (arith, in_table, b) in
          let f : k ≡ length (table_rows ws width per n) = omega (arith, e, long) in
          ap (table_row (ws ++ row) width) (ap (λ j. j * per) e ∙ sym t.long) ∙ row_right ws row width
          ∙ sym (ap (λ j. get_or (table_rows ws width per n ++ unpacked row width ∷ []) j d) f ∙ get_or-append_seam (table_rows ws width per n) (unpacked row width) [] d)
    ])
  where
    table_rows-at' : (k : ℕ) (d : List Bool) → k < n + 1 → get_or (table_rows (ws ++ row) width per (n + 1)) k d ≡ table_row (ws ++ row) width (k * per)
    table_rows-at' k d h = table_rows-at (ws ++ row) width per (n + 1) k d h

    table_rows_at_old : (k : ℕ) (d : List Bool) → k < n → get_or (table_rows ws width per n) k d ≡ table_row ws width (k * per)
    table_rows_at_old k d h = table_rows-at ws width per n k d h

pub push_is_table : (ws row : List ℕ) (width per n : ℕ) → IsTable ws width per n → IsPacked row width → n < MOST_ROWS → IsTable (ws ++ row) width per (n + 1)
push_is_table ws row width per n t p f = record {
  few = omega (arith, f);
  short = t.short;
  words_of_row = t.words_of_row;
  long = let e : (n + 1) * per ≡ n * per + per = omega arith in omega (arith, e, length-append ws row, t.long, p.long, t.words_of_row);
  tails = λ r i h m l. elim (dec_lt r n) [
    | yes a ↦ bit_left ws row (r * per * 64 + i) (omega (arith, l, t.long, row_ends r n per a)) ∙ t.tails r i a m l
    | no b ↦
        let e : r ≡ n = omega (arith, h, b) in
        let g : r * per ≡ length ws = ap (λ j. j * per) e ∙ sym t.long in
        ap (λ j. bit_in (ws ++ row) (j * 64 + i)) g ∙ bit_right ws row i ∙ p.tail i m
  ];
}

-- places of two rows differ
apart : (width per q r k i : ℕ) → q ≢ r → k < width → i < width → width ≤ per * 64 → q * per * 64 + k ≢ r * per * 64 + i
apart width per q r k i ne h l s e = elim (dec_lt q r) [
  | yes b ↦ let f : q * per + per ≤ r * per = row_ends q r per b in omega (arith, f, e, h, s)
  | no b ↦ let f : r * per + per ≤ q * per = row_ends r q per (omega (arith, b, ne)) in omega (arith, f, e, l, s)
]

-- a place past the end of a row is no place of any row
past : (width per q r j i : ℕ) → width ≤ j → i < width → j < per * 64 → width ≤ per * 64 → q * per * 64 + j ≢ r * per * 64 + i
past width per q r j i m l b s e = elim (cases_eq q r) [
  | inl f ↦ let g : q * per ≡ r * per = ap (λ x. x * per) f in omega (arith, g, e, m, l)
  | inr ne ↦ apart (per * 64) per q r j i ne b (omega (arith, l, s)) (omega arith) e
]

-- one value written
set_row : (ws new : List ℕ) (width per n r i q : ℕ) (v : Bool) → IsTable ws width per n → r < n → i < width → q < n → bit_in new (r * per * 64 + i) ≡ v → ((k : ℕ) → k ≢ r * per * 64 + i → bit_in new k ≡ bit_in ws k) → q ≢ r →
    table_row new width (q * per) ≡ table_row ws width (q * per)
set_row ws new width per n r i q v t h l m here others ne =
    same_lists (table_row new width (q * per)) (table_row ws width (q * per)) (length-table_row new width (q * per) ∙ sym (length-table_row ws width (q * per)))
    (λ k d b.
    let in_row : k < width = omega (arith, b, length-table_row new width (q * per)) in
    table_row-at new width (q * per) k d in_row ∙ others (q * per * 64 + k) (apart width per q r k i ne in_row l (omega (arith, t.words_of_row))) ∙ sym (table_row-at ws width (q * per) k d in_row))

set_here_row : (ws new : List ℕ) (width per r i : ℕ) (v : Bool) → i < width → bit_in new (r * per * 64 + i) ≡ v → ((k : ℕ) → k ≢ r * per * 64 + i → bit_in new k ≡ bit_in ws k) →
    table_row new width (r * per) ≡ set (table_row ws width (r * per)) i v
set_here_row ws new width per r i v l here others =
    same_lists (table_row new width (r * per)) (set (table_row ws width (r * per)) i v)
    (length-table_row new width (r * per) ∙ sym (length-set (table_row ws width (r * per)) i v ∙ length-table_row ws width (r * per)))
    (λ k d b.
    let in_row : k < width = omega (arith, b, length-table_row new width (r * per)) in
    table_row-at new width (r * per) k d in_row ∙ elim (cases_eq k i) [
      | inl e ↦ ap (λ j. bit_in new (r * per * 64 + j)) e ∙ here
          ∙ sym (ap (λ j. get_or (set (table_row ws width (r * per)) i v) j d) e ∙ get_or-set_same (table_row ws width (r * per)) i v d (omega (arith, l, length-table_row ws width (r * per))))
      | inr e ↦ others (r * per * 64 + k) (λ f. e (omega (arith, f)))
          ∙ sym (table_row-at ws width (r * per) k d in_row) ∙ sym (get_or-set_other (table_row ws width (r * per)) i k v d e)
    ])

pub set_rows : (ws new : List ℕ) (width per n r i : ℕ) (v : Bool) → IsTable ws width per n → r < n → i < width → bit_in new (r * per * 64 + i) ≡ v → ((k : ℕ) → k ≢ r * per * 64 + i → bit_in new k ≡ bit_in ws k) →
    table_rows new width per n ≡ set (table_rows ws width per n) r (set (get_or (table_rows ws width per n) r []) i v)
set_rows ws new width per n r i v t h l here others =
    let row : List Bool = set (get_or (table_rows ws width per n) r []) i v in
    let long : length (table_rows ws width per n) ≡ n = length-table_rows ws width per n in
    same_lists (table_rows new width per n) (set (table_rows ws width per n) r row)
    (length-table_rows new width per n ∙ sym (length-set (table_rows ws width per n) r row ∙ long))
    (λ k d b.
    let in_table : k < n = omega (arith, b, length-table_rows new width per n) in
    table_rows-at new width per n k d in_table ∙ elim (cases_eq k r) [
      | inl e ↦ ap (λ q. table_row new width (q * per)) e ∙ set_here_row ws new width per r i v l here others
          ∙ ap (λ x. set x i v) (sym (table_rows-at ws width per n r [] h))
          ∙ sym (ap (λ q. get_or (set (table_rows ws width per n) r row) q d) e ∙ get_or-set_same (table_rows ws width per n) r row d (omega (arith, h, long)))
      | inr e ↦ set_row ws new width per n r i k v t h l in_table here others e
          ∙ sym (table_rows-at ws width per n k d in_table) ∙ sym (get_or-set_other (table_rows ws width per n) r k row d e)
    ])

pub set_is_table : (ws new : List ℕ) (width per n r i : ℕ) → IsTable ws width per n → i < width → length new ≡ length ws → ((k : ℕ) → k ≢ r * per * 64 + i → bit_in new k ≡ bit_in ws k) → IsTable new width per n
set_is_table ws new width per n r i t l e others = record {
  few = t.few;
  short = t.short;
  words_of_row = t.words_of_row;
  long = e ∙ t.long;
  tails = λ q j h m b. others (q * per * 64 + j) (past width per q r j i m l b (omega (arith, t.words_of_row))) ∙ t.tails q j h m b;
}
