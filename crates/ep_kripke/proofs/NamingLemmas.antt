-- Rows that are named as they come.
use Rattle.std.proofs.Common.{◌≡◌, ℕ, zero, suc, ◌+◌, ◌<◌, ◌≤◌, Bool, true, false, cond, List, [], ◌∷◌, ◌++◌, length, map, sum_by, length-append, get_or, replicate, refl, sym, ap, ap₂, ◌∙◌, arith, subst}
use Rattle.std.specs.Ordering.{nat_cmp}
use Rattle.std.specs.List.{AllByRecursion}
use Rattle.std.proofs.lemmas.List.{length-map, map-append, get_or-map, get_or-replicate, length-replicate}
use Rattle.std.proofs.lemmas.List.Sums.{sum_by-cons}
use Rattle.ep_logic.specs.Numbers.{has_number, table, numbers_where}
use Rattle.ep_logic.proofs.CallerLemmas.{row_is_table, replicate-table, true_places-table, length-snoc}
use Rattle.ep_theory.specs.Rising.{IsRising}
use Rattle.ep_theory.proofs.CallerLemmas.{All-at, rising_is_numbers}
use Rattle.ep_kripke.specs.declared.limits.TheConstants.{MOST_WORLDS}
use Rattle.ep_kripke.specs.Relations.{members, named_rows, IsNamed, Extends}
use Rattle.ep_kripke.specs.declared.row_set.Kept.{Kept}
use Rattle.ep_kripke.specs.Kept.{kept_rows, names_of, AreWide, IsNaming}
use Rattle.ep_kripke.proofs.NameLemmas.{length-named, named-at}

-- marks written into a blank row are those of the numbers
pub marked_row : (n : ℕ) (blank marked : List Bool) (xs : List ℕ) → blank ≡ replicate n false → length marked ≡ length blank →
    ((k : ℕ) → get_or marked k false ≡ cond (has_number xs k) true (get_or blank k false)) → marked ≡ table (has_number xs) n
marked_row n blank marked xs e long each =
    row_is_table (has_number xs) n marked (long ∙ ap length e ∙ length-replicate n false) (λ i l.
    each i ∙ ap (λ row. cond (has_number xs i) true (get_or row i false)) e ∙ ap (λ b. cond (has_number xs i) true b) (get_or-replicate n i false false l) ∙ itself (has_number xs i))
  where
    itself : (b : Bool) → cond b true false ≡ b
    itself true = refl
    itself false = refl

-- and the row is blank once they are taken out
pub blank_again : (n : ℕ) (blank marked after : List Bool) (xs : List ℕ) → blank ≡ replicate n false → length marked ≡ length blank → length after ≡ length marked →
    ((k : ℕ) → get_or marked k false ≡ cond (has_number xs k) true (get_or blank k false)) → ((k : ℕ) → get_or after k false ≡ cond (has_number xs k) false (get_or marked k false)) → after ≡ blank
blank_again n blank marked after xs e long back each away =
    row_is_table (λ _. false) n after (back ∙ long ∙ ap length e ∙ length-replicate n false) (λ i l.
    away i ∙ ap (λ b. cond (has_number xs i) false b) (each i ∙ ap (λ row. cond (has_number xs i) true (get_or row i false)) e ∙ ap (λ b. cond (has_number xs i) true b) (get_or-replicate n i false false l)) ∙ none (has_number xs i))
    ∙ sym (replicate-table n false) ∙ sym e
  where
    none : (b : Bool) → cond b false (cond b true false) ≡ false
    none true = refl
    none false = refl

-- the places where marks are true
pub marked : (xs : List ℕ) (n : ℕ) → IsRising nat_cmp xs → AllByRecursion (λ x. x < n) xs → members (table (has_number xs) n) ≡ xs
unfolding members
marked xs n r w = true_places-table (has_number xs) n ∙ sym (rising_is_numbers n xs r w)

-- one more name
named_push : (names : List ℕ) (old new : List (List ℕ)) (name : ℕ) (row : List ℕ) → ((i : ℕ) → i < length old → get_or new i [] ≡ get_or old i []) → AllByRecursion (λ i. i < length old) names → get_or new name [] ≡ row →
    named_rows (names ++ name ∷ []) new ≡ named_rows names old ++ row ∷ []
named_push [] old new name row s w e = ap (λ r. r ∷ []) e
named_push (i ∷ is) old new name row s w e = ap₂ (λ r rs. r ∷ rs) (s i w.0) (named_push is old new name row s w.1 e)

within_push : (names : List ℕ) (m n name : ℕ) → m ≤ n → AllByRecursion (λ i. i < m) names → name < n → AllByRecursion (λ i. i < n) (names ++ name ∷ [])
within_push [] m n name h w l = (l, tt)
within_push (i ∷ is) m n name h w l = (let k : i < m = w.0 in omega arith, within_push is m n name h w.1 l)

mapped_at : (rows : List (List Bool)) (i : ℕ) → i < length rows → get_or (map members rows) i [] ≡ members (get_or rows i [])
mapped_at [] i l = absurd (omega arith)
mapped_at (r ∷ rs) zero l = refl
mapped_at (r ∷ rs) (suc i) l = mapped_at rs i (omega arith)

sum_snoc : (xs : List (List ℕ)) (x : List ℕ) → sum_by length (xs ++ x ∷ []) ≡ sum_by length xs + length x
sum_snoc [] x = omega (arith, sum_by-cons (length {A = ℕ}) x [])
sum_snoc (y ∷ ys) x = omega (arith, sum_by-cons (length {A = ℕ}) y (ys ++ x ∷ []), sum_by-cons (length {A = ℕ}) y ys, sum_snoc ys x)

-- rows have at most as many numbers as there are worlds
last_length : (b : Bool) (n : ℕ) → length {A = ℕ} (cond b (n ∷ []) []) ≤ 1
last_length true n = omega arith
last_length false n = omega arith

few_numbers : (p : ℕ → Bool) (n : ℕ) → length (numbers_where p n) ≤ n
few_numbers p zero = omega arith
few_numbers p (suc n) = omega (arith, length-append (numbers_where p n) (cond (p n) (n ∷ []) []), few_numbers p n, last_length (p n) n)

pub short_row : (xs : List ℕ) (n : ℕ) → IsRising nat_cmp xs → AllByRecursion (λ x. x < n) xs → length xs ≤ n
short_row xs n r w = omega (arith, few_numbers (has_number xs) n, ap length (rising_is_numbers n xs r w))

-- rows of bits that are extended are extended as lists
pub members_at : (rows : List (List Bool)) (i : ℕ) → i < length rows → get_or (map members rows) i [] ≡ members (get_or rows i [])
members_at rows i l = mapped_at rows i l

pub members_extend : (old new : List (List Bool)) → Extends old new → Extends (map members old) (map members new)
members_extend old new more = record {
  long = omega (arith, more.long, length-map old members, length-map new members);
  one = omega (arith, more.one, length-map old members, length-map new members);
  same = λ i l.
      let m : i < length old = omega (arith, l, length-map old members) in
      mapped_at new i (omega (arith, m, more.long)) ∙ ap members (more.same i m) ∙ sym (mapped_at old i m);
}

module _ (old new : List (List ℕ)) (names : List ℕ) (links name : ℕ) (row : List ℕ)
    (before : IsNamed names old links) (few : length new ≤ MOST_WORLDS) (more : Extends old new) (has : name < length new) (is : get_or new name [] ≡ row) where
  pub rows_named : named_rows (names ++ name ∷ []) new ≡ named_rows names old ++ row ∷ []
  rows_named = named_push names old new name row more.same before.within is

  pub is_named : IsNamed (names ++ name ∷ []) new (links + length row)
  is_named = record {
    few = few;
    within = within_push names (length old) (length new) name more.long before.within has;
    count =
        let e : sum_by length (named_rows (names ++ name ∷ []) new) ≡ sum_by length (named_rows names old) + length row = ap (sum_by length) rows_named ∙ sum_snoc (named_rows names old) row in
        omega (arith, e, before.count);
  }

-- one more name, with the length of its row
all_snoc : (P : ℕ × ℕ → Type 0) (xs : List (ℕ × ℕ)) (x : ℕ × ℕ) → AllByRecursion P xs → P x → AllByRecursion P (xs ++ x ∷ [])
all_snoc P [] x a h = (h, tt)
all_snoc P (y ∷ ys) x a h = (a.0, all_snoc P ys x a.1 h)

names_more : (pushed : List (ℕ × ℕ)) (name long : ℕ) → names_of (pushed ++ (name, long) ∷ []) ≡ names_of pushed ++ name ∷ []
names_more pushed name long = map-append (λ (p : ℕ × ℕ). p.0) pushed ((name, long) ∷ [])

module _ (worlds : ℕ) (old new : Kept) (before blank : List Bool) (pushed : List (ℕ × ℕ)) (links name : ℕ) (row : List ℕ)
    (was : IsNaming worlds old before pushed links) (room : length pushed < MOST_WORLDS) (more : Extends (kept_rows old) (kept_rows new)) (wide : AreWide worlds blank new)
    (has : name < length (kept_rows new)) (is : get_or (kept_rows new) name [] ≡ row) (short : length row ≤ MOST_WORLDS) where
  few_rows : length (kept_rows new) ≤ MOST_WORLDS
  few_rows = omega (arith, room, was.few, more.one)

  pub rows_pushed : named_rows (names_of (pushed ++ (name, length row) ∷ [])) (kept_rows new) ≡ named_rows (names_of pushed) (kept_rows old) ++ row ∷ []
  rows_pushed = ap (λ ns. named_rows ns (kept_rows new)) (names_more pushed name (length row))
      ∙ rows_named (kept_rows old) (kept_rows new) (names_of pushed) links name row was.named few_rows more has is

  pub is_pushed : IsNaming worlds new blank (pushed ++ (name, length row) ∷ []) (links + length row)
  is_pushed = record {
    named = subst (λ ns. IsNamed ns (kept_rows new) (links + length row)) (sym (names_more pushed name (length row)))
        (is_named (kept_rows old) (kept_rows new) (names_of pushed) links name row was.named few_rows more has is);
    lengths = map-append (λ (p : ℕ × ℕ). p.1) pushed ((name, length row) ∷ []) ∙ ap (λ ls. ls ++ length row ∷ []) was.lengths
        ∙ sym (ap (map length) rows_pushed ∙ map-append (length {A = ℕ}) (named_rows (names_of pushed) (kept_rows old)) (row ∷ []));
    short = all_snoc (λ p. p.1 ≤ MOST_WORLDS) pushed (name, length row) was.short short;
    wide = wide;
    small = was.small;
    few = omega (arith, more.one, was.few, length-snoc pushed (name, length row));
    room = omega (arith, room, length-snoc pushed (name, length row));
    bound = omega (arith, was.bound, short, length-snoc pushed (name, length row));
  }

-- what a place has: the number of its row and how long the row is
pushed_at : (worlds : ℕ) (kept : Kept) (blank : List Bool) (pushed : List (ℕ × ℕ)) (links at : ℕ) → IsNaming worlds kept blank pushed links → at < length pushed →
    ((get_or pushed at (0, 0)).0 < length (kept_rows kept)) × (get_or (kept_rows kept) (get_or pushed at (0, 0)).0 [] ≡ get_or (named_rows (names_of pushed) (kept_rows kept)) at [])
    × ((get_or pushed at (0, 0)).1 ≡ length (get_or (named_rows (names_of pushed) (kept_rows kept)) at [])) × ((get_or pushed at (0, 0)).1 ≤ MOST_WORLDS)
pushed_at worlds kept blank pushed links at was l =
    let many : at < length (names_of pushed) = omega (arith, l, length-map pushed (λ (p : ℕ × ℕ). p.0)) in
    let name : get_or (names_of pushed) at 0 ≡ (get_or pushed at (0, 0)).0 = get_or-map (λ (p : ℕ × ℕ). p.0) pushed at (0, 0) 0 l in
    let rows = named_rows (names_of pushed) (kept_rows kept) in (
      subst (λ n. n < length (kept_rows kept)) name (All-at (λ i. i < length (kept_rows kept)) (names_of pushed) at 0 many was.named.within),
      ap (λ n. get_or (kept_rows kept) n []) (sym name) ∙ sym (named-at (names_of pushed) (kept_rows kept) at many),
      sym (get_or-map (λ (p : ℕ × ℕ). p.1) pushed at (0, 0) 0 l) ∙ ap (λ ls. get_or ls at 0) was.lengths
          ∙ get_or-map (length {A = ℕ}) (named_rows (names_of pushed) (kept_rows kept)) at [] 0 (omega (arith, many, length-named (names_of pushed) (kept_rows kept))),
      All-at (λ (p : ℕ × ℕ). p.1 ≤ MOST_WORLDS) pushed at (0, 0) l was.short,
    )

-- rows that stay
extends_itself : (rows : List (List ℕ)) → Extends rows rows
extends_itself rows = record { long = omega arith; one = omega arith; same = λ i l. refl }

-- the row of a place, once more
pub record IsAgain (worlds : ℕ) (kept : Kept) (blank : List Bool) (pushed : List (ℕ × ℕ)) (links at name long : ℕ) : Type 0 where
  pub naming : IsNaming worlds kept blank (pushed ++ (name, long) ∷ []) (links + long)
  pub rows : named_rows (names_of (pushed ++ (name, long) ∷ [])) (kept_rows kept) ≡ named_rows (names_of pushed) (kept_rows kept) ++ get_or (named_rows (names_of pushed) (kept_rows kept)) at [] ∷ []

pub again : (worlds : ℕ) (kept : Kept) (blank : List Bool) (pushed : List (ℕ × ℕ)) (links at name long : ℕ) → IsNaming worlds kept blank pushed links → at < length pushed → length pushed < MOST_WORLDS →
    (name, long) ≡ get_or pushed at (0, 0) → IsAgain worlds kept blank pushed links at name long
again worlds kept blank pushed links at name long was l room e =
    let p = pushed_at worlds kept blank pushed links at was l in
    let row = get_or (named_rows (names_of pushed) (kept_rows kept)) at [] in
    let n : name ≡ (get_or pushed at (0, 0)).0 = ap (λ (x : ℕ × ℕ). x.0) e in
    let m : long ≡ (get_or pushed at (0, 0)).1 = ap (λ (x : ℕ × ℕ). x.1) e in
    let long_is : long ≡ length (get_or (named_rows (names_of pushed) (kept_rows kept)) at []) = m ∙ p.2 in
    let has : name < length (kept_rows kept) = subst (λ k. k < length (kept_rows kept)) (sym n) p.0 in
    let is : get_or (kept_rows kept) name [] ≡ get_or (named_rows (names_of pushed) (kept_rows kept)) at [] = ap (λ k. get_or (kept_rows kept) k []) n ∙ p.1 in
    let short : length (get_or (named_rows (names_of pushed) (kept_rows kept)) at []) ≤ MOST_WORLDS = omega (arith, p.2, p.3) in
    record {
      naming = subst (λ k. IsNaming worlds kept blank (pushed ++ (name, k) ∷ []) (links + k)) (sym long_is)
          (is_pushed worlds kept kept blank blank pushed links name row was room (extends_itself (kept_rows kept)) was.wide has is short);
      rows = ap (λ k. named_rows (names_of (pushed ++ (name, k) ∷ [])) (kept_rows kept)) long_is
          ∙ rows_pushed worlds kept kept blank blank pushed links name row was room (extends_itself (kept_rows kept)) was.wide has is short;
    }
