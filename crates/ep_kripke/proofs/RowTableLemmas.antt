-- Tables of rows: a row is known by its words, and a look-up by words is exact.
use Rattle.std.proofs.Common.{◌≡◌, ℕ, zero, suc, ◌+◌, ◌*◌, ◌/◌, ◌%◌, ◌^◌, ◌<◌, ◌==◌, ◌&&◌, nat_eq, Bool, true, false, ◌⊎◌, inl, inr, List, [], ◌∷◌, ◌++◌, length, get_or, position, slice_get, Option, Some, None, is_some, refl, sym, ap, ap₂, subst, ◌∙◌, arith}
use Rattle.std.specs.Cmp.Lexicographic.{pointwise}
use Rattle.std.specs.Int.{bit_at}
use Rattle.std.specs.List.{AllByRecursion}
use Rattle.std.specs.Map.{lookup, keys_of, values_of}
use Rattle.std.specs.Option.{MatchOption, option_map}
use Rattle.std.specs.declared.alloc.Global.{Global}
use Rattle.std.specs.declared.rc.Rc.{Rc}
use Rattle.std.proofs.lemmas.Bool.{false≢true, false_from_ne_true}
use Rattle.std.proofs.lemmas.Bool.Decides.{Decides-eqb}
use Rattle.std.proofs.lemmas.List.{same_lists, get_or_default, get_or-map, map-append}
use Rattle.std.proofs.lemmas.List.Quantifiers.{position-Some}
use Rattle.std.proofs.lemmas.Map.{lookup-none, none_passes_from_lookup}
use Rattle.std.proofs.lemmas.Nat.Bits.{same_from_bits_below, bit_at-lt}
use Rattle.std.proofs.lemmas.Option.{same_Some, none-some, slice_get-get_or, slice_get-map}
use Rattle.std.proofs.lemmas.Slice.Eq.{bytes_eq-Decides}
use Rattle.ep_logic.specs.Packed.{bit_in, unpacked}
use Rattle.ep_logic.specs.Rows.{value_at}
use Rattle.ep_theory.specs.Rising.{IsIn}
use Rattle.ep_theory.proofs.CallerLemmas.{All-at, and_parts, and_whole}
use Rattle.ep_kripke.specs.declared.row.Words.{Words}
use Rattle.ep_kripke.specs.RowTables.{IsRow, IsKeyed, IsTable, AreDistinct}
use Rattle.ep_kripke.proofs.RelationLemmas.{value_is}
use Rattle.ep_kripke.proofs.WordLemmas.{length-unpacked}

abbrev pub Pair : Type 0
Pair = Rc Words Global × List Bool

-- whether these words are the key
abbrev pub is_key : List ℕ → ℕ → Rc Words Global → Bool
is_key words n k = pointwise nat_eq words k.value.items.items && (n == k.value.len)

-- rows in words are equal where their values are
same_bit : (x y : ℕ) → x < 2 → y < 2 → (x == 1) ≡ (y == 1) → x ≡ y
same_bit zero zero h l e = refl
same_bit zero (suc zero) h l e = absurd (cc e)
same_bit (suc zero) zero h l e = absurd (cc e)
same_bit (suc zero) (suc zero) h l e = refl
same_bit (suc (suc x)) y h l e = absurd (omega arith)
same_bit zero (suc (suc y)) h l e = absurd (omega arith)
same_bit (suc zero) (suc (suc y)) h l e = absurd (omega arith)

same_word : (a b : List ℕ) → ((k : ℕ) → bit_in a k ≡ bit_in b k) → (i : ℕ) → get_or a i 0 < 2 ^ 64 → get_or b i 0 < 2 ^ 64 → get_or a i 0 ≡ get_or b i 0
same_word a b h i p q = same_from_bits_below 64 (get_or a i 0) (get_or b i 0) p q (λ j l.
    let at : (i * 64 + j) / 64 ≡ i = omega (arith, l) in
    let place : (i * 64 + j) % 64 ≡ j = omega (arith, l) in
    let ea : bit_in a (i * 64 + j) ≡ (bit_at (get_or a i 0) j == 1) = ap₂ (λ q p. bit_at (get_or a q 0) p == 1) at place in
    let eb : bit_in b (i * 64 + j) ≡ (bit_at (get_or b i 0) j == 1) = ap₂ (λ q p. bit_at (get_or b q 0) p == 1) at place in
    same_bit (bit_at (get_or a i 0) j) (bit_at (get_or b i 0) j) (bit_at-lt (get_or a i 0) j) (bit_at-lt (get_or b i 0) j) (sym ea ∙ h (i * 64 + j) ∙ eb))

same_words : (a b : List ℕ) (n : ℕ) → IsRow a n → IsRow b n → unpacked a n ≡ unpacked b n → a ≡ b
same_words a b n p q e = same_lists a b (p.packed.long ∙ sym q.packed.long) (λ k d l.
    get_or_default a k d 0 l
    ∙ same_word a b (λ i. sym (value_is a n i p.packed) ∙ ap (λ row. value_at row i) e ∙ value_is b n i q.packed) k (p.small k) (q.small k)
    ∙ get_or_default b k 0 d (omega (arith, l, p.packed.long, q.packed.long)))

-- a look-up by the words of a row
module _ (words : List ℕ) (n : ℕ) (row : List Bool) (is : IsRow words n) (told : unpacked words n ≡ row) where
  abbrev test : Rc Words Global → Bool
  test = is_key words n

  from : (k : Rc Words Global) → test k ≡ true → (words ≡ k.value.items.items) × (n ≡ k.value.len)
  from k t =
      let both = and_parts (pointwise nat_eq words k.value.items.items) (n == k.value.len) t in
      ((bytes_eq-Decides words k.value.items.items).0 both.0, (Decides-eqb n k.value.len).0 both.1)

  to : (k : Rc Words Global) → words ≡ k.value.items.items → n ≡ k.value.len → test k ≡ true
  to k e l = and_whole (pointwise nat_eq words k.value.items.items) (n == k.value.len) ((bytes_eq-Decides words k.value.items.items).1 e) ((Decides-eqb n k.value.len).1 l)

  same_row : (p : Pair) → IsKeyed p → test p.0 ≡ true → p.1 ≡ row
  same_row p k t = let e = from p.0 t in k.row ∙ ap₂ unpacked (sym e.0) (sym e.1) ∙ told

  own_key : (p : Pair) → IsKeyed p → p.1 ≡ row → test p.0 ≡ true
  own_key p k e =
      let ws : List ℕ = p.0.value.items.items in
      let rows : unpacked words n ≡ unpacked ws p.0.value.len = told ∙ sym e ∙ k.row in
      let long : n ≡ p.0.value.len = sym (length-unpacked words n) ∙ ap length rows ∙ length-unpacked ws p.0.value.len in
      to p.0 (same_words words ws n is (subst (IsRow ws) (sym long) k.words) (rows ∙ ap (unpacked ws) (sym long))) long

  lacks : (ps : List Pair) → AllByRecursion IsKeyed ps → AllByRecursion (λ (p : Pair). test p.0 ≡ false) ps → IsIn row (values_of ps) → ⊥
  lacks [] k f i = absurd i
  lacks (p ∷ ps) k f (inl e) = false≢true (sym f.0 ∙ own_key p k.0 (sym e))
  lacks (p ∷ ps) k f (inr i) = lacks ps k.1 f.1 i

  fails : (ps : List Pair) → AllByRecursion IsKeyed ps → (IsIn row (values_of ps) → ⊥) → AllByRecursion (λ (p : Pair). test p.0 ≡ false) ps
  fails [] k h = tt
  fails (p ∷ ps) k h = (false_from_ne_true (test p.0) (λ t. h (inl (sym (same_row p k.0 t)))), fails ps k.1 (λ i. h (inr i)))

  -- no key passes where no row is equal
  pub none_found : (ps : List Pair) → AllByRecursion IsKeyed ps → (IsIn row (values_of ps) → ⊥) → lookup test ps ≡ None
  none_found ps k h = lookup-none test ps (fails ps k h)

  one_found : (ps : List Pair) → AllByRecursion IsKeyed ps → (i : ℕ) → position test (keys_of ps) ≡ Some i → slice_get (values_of ps) i ≡ Some row
  one_found [] k i h = absurd (none-some i h)
  one_found (q ∷ ps) k i h =
      let r = position-Some test (keys_of (q ∷ ps)) i q.0 h in
      let inside : i < length (q ∷ ps) = omega (arith, r.0, length_keys (q ∷ ps)) in
      let passes : test (get_or (q ∷ ps) i q).0 ≡ true = ap test (sym (get_or-map (λ (p : Pair). p.0) (q ∷ ps) i q q.0 inside)) ∙ r.1 in
      slice_get-map (λ (p : Pair). p.1) (q ∷ ps) i
      ∙ ap {A = Option Pair} {B = Option (List Bool)} (λ o. option_map (λ p. p.1) o) (slice_get-get_or (q ∷ ps) i q inside)
      ∙ ap Some (same_row (get_or (q ∷ ps) i q) (All-at IsKeyed (q ∷ ps) i q inside k) passes)
    where
      length_keys : (ps : List Pair) → length (keys_of ps) ≡ length ps
      length_keys [] = refl
      length_keys (p ∷ ps) = ap suc (length_keys ps)

  -- what a look-up tells
  pub exact : (ps : List Pair) → AllByRecursion IsKeyed ps → (r : Option ℕ) → r ≡ position test (keys_of ps) → is_some r ≡ is_some (lookup test ps) →
      MatchOption r (IsIn row (values_of ps) → ⊥) (λ i. slice_get (values_of ps) i ≡ Some row)
  exact ps k (Some i) e f = one_found ps k i (sym e)
  exact ps k None e f = lacks ps k (none_passes_from_lookup test ps (none_here (lookup test ps) f))
    where
      none_here : (o : Option (List Bool)) → is_some {T = ℕ} None ≡ is_some o → o ≡ None
      none_here None h = refl
      none_here (Some v) h = cc

-- a row at the end
pub at_push_new : (rows : List (List Bool)) (row : List Bool) → slice_get (rows ++ row ∷ []) (length rows) ≡ Some row
at_push_new [] row = refl
at_push_new (r ∷ rows) row = at_push_new rows row

pub at_push_old : (rows : List (List Bool)) (row : List Bool) (i : ℕ) (r : List Bool) → slice_get rows i ≡ Some r → slice_get (rows ++ row ∷ []) i ≡ Some r
at_push_old [] row i r h = absurd (none-some r h)
at_push_old (s ∷ rows) row zero r h = h
at_push_old (s ∷ rows) row (suc i) r h = at_push_old rows row i r h

at_push_cases : (rows : List (List Bool)) (row : List Bool) (i : ℕ) (r : List Bool) → slice_get (rows ++ row ∷ []) i ≡ Some r → (slice_get rows i ≡ Some r) ⊎ ((i ≡ length rows) × (row ≡ r))
at_push_cases [] row zero r h = inr (refl, same_Some row r h)
at_push_cases [] row (suc i) r h = absurd (none-some r h)
at_push_cases (s ∷ rows) row zero r h = inl h
at_push_cases (s ∷ rows) row (suc i) r h =
    elim (at_push_cases rows row i r h) as (λ _. (slice_get rows i ≡ Some r) ⊎ ((suc i ≡ length (s ∷ rows)) × (row ≡ r))) [ inl e ↦ inl e | inr e ↦ inr (ap suc e.0, e.1) ]

pub in_rows : (rows : List (List Bool)) (i : ℕ) (row : List Bool) → slice_get rows i ≡ Some row → IsIn row rows
in_rows [] i row h = absurd (none-some row h)
in_rows (r ∷ rows) zero row h = inl (sym (same_Some r row h))
in_rows (r ∷ rows) (suc i) row h = inr (in_rows rows i row h)

distinct_push : (rows : List (List Bool)) (row : List Bool) → AreDistinct rows → (IsIn row rows → ⊥) → AreDistinct (rows ++ row ∷ [])
distinct_push rows row d h i j r a b = go (at_push_cases rows row i r a) (at_push_cases rows row j r b)
  where
    go : (slice_get rows i ≡ Some r) ⊎ ((i ≡ length rows) × (row ≡ r)) → (slice_get rows j ≡ Some r) ⊎ ((j ≡ length rows) × (row ≡ r)) → i ≡ j
    go (inl x) (inl y) = d i j r x y
    go (inl x) (inr y) = absurd (h (subst (λ s. IsIn s rows) (sym y.1) (in_rows rows i r x)))
    go (inr x) (inl y) = absurd (h (subst (λ s. IsIn s rows) (sym x.1) (in_rows rows j r y)))
    go (inr x) (inr y) = x.0 ∙ sym y.0

keyed_push : (ps : List Pair) (p : Pair) → AllByRecursion IsKeyed ps → IsKeyed p → AllByRecursion IsKeyed (ps ++ p ∷ [])
keyed_push [] p k h = (h, tt)
keyed_push (q ∷ ps) p k h = (k.0, keyed_push ps p k.1 h)

pub values-push : (ps : List Pair) (p : Pair) → values_of (ps ++ p ∷ []) ≡ values_of ps ++ p.1 ∷ []
values-push ps p = map-append (λ (q : Pair). q.1) ps (p ∷ [])

-- a table with one row more
pub table_push : (ps : List Pair) (p : Pair) → IsTable ps → IsKeyed p → (IsIn p.1 (values_of ps) → ⊥) → IsTable (ps ++ p ∷ [])
table_push ps p t k h = record {
  keyed = keyed_push ps p t.keyed k;
  distinct = subst AreDistinct (sym (values-push ps p)) (distinct_push (values_of ps) p.1 t.distinct h);
}
