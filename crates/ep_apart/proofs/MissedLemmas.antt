-- Links that may have no answer.
use Rattle.std.proofs.Common.{◌≡◌, ℕ, zero, suc, ◌<◌, ◌≤◌, ◌+◌, ◌⊎◌, inl, inr, ⊎_elim, Bool, true, false, ◌&&◌, ◌||◌, List, [], ◌∷◌, ◌++◌, length, get_or, slice_index, refl, sym, ap, ap₂, subst, ◌∙◌, arith, length-append, Option, Some, None, is_some, IsTrue}
use Rattle.std.specs.List.{list_all}
use Rattle.ep_logic.specs.Numbers.{table}
use Rattle.ep_logic.specs.Rows.{value_at, either}
use Rattle.ep_logic.proofs.CallerLemmas.{either_at, get_or-table, length-table}
use Rattle.ep_theory.specs.Rising.{IsIn}
use Rattle.ep_theory.specs.Kripke.{Kripke, IsState, links_of, successors}
use Rattle.ep_theory.proofs.CallerLemmas.{IsIn-successors, from_successors, last_or_before, links_within}
use Rattle.ep_apart.specs.Tables.{cell, in_row, IsAnswered}
use Rattle.ep_apart.specs.Missed.{bit, IsWide, MarksLines, MarkLines, AreWithin, Joins, AreJoined, AreMissed, AllMissed}
use Rattle.ep_apart.proofs.TableLemmas.{get_left, get_end}

-- the first n items have a property, each with its place
pub record EachItem {A : Type 0} (d : A) (P : ℕ → A → Type 0) (items : List A) (n : ℕ) : Type 0 where
  pub long : length items ≡ n
  pub each : (i : ℕ) → i < n → P i (get_or items i d)

pub each_none : {A : Type 0} (d : A) (P : ℕ → A → Type 0) (items : List A) → items ≡ [] → EachItem d P items 0
each_none d P items e = record { long = ap length e; each = λ i l. absurd (omega arith) }

pub each_push : {A : Type 0} (d : A) (P : ℕ → A → Type 0) (items more : List A) (x : A) (n : ℕ) → EachItem d P items n → P n x → more ≡ items ++ x ∷ [] → EachItem d P more (n + 1)
each_push d P items more x n r p e =
    let long = r.long in
    let last : get_or more n d ≡ x = ap (λ l. get_or l n d) e ∙ get_end d items x n (sym long) in
    record {
      long = (let a = ap length e in let b = length-append items (x ∷ []) in omega arith);
      each = λ i l. ⊎_elim
          (λ (q : i ≡ n). subst (λ k. P k (get_or more k d)) (sym q) (subst (P n) (sym last) p))
          (λ (b : i < n). subst (P i) (sym (ap (λ l. get_or l i d) e ∙ get_left d items (x ∷ []) i (omega arith))) (r.each i b))
          (last_or_before i n (omega arith));
    }

pub marked : (table : List (List (Option ℕ))) (n : ℕ) (told : List (List Bool)) → EachItem [] (λ i m. MarksLines (get_or table i []) n m) told n → MarkLines table n told
marked table n told r = record {
  wide = record { long = r.long; wide = λ x l. (r.each x l).long };
  says = λ x y l m. (r.each x l).says y m;
}

-- a row of those within
abbrev pub IsWithinRow : Kripke → ℕ → List (List Bool) → ℕ → List Bool → Type 0
IsWithinRow Q a told i row = (length row ≡ Q.worlds) × ((d : ℕ) → d < Q.worlds → value_at row d ≡ list_all (value_at (get_or told i [])) (successors (links_of Q a) d))

pub within_row : (Q : Kripke) (a i : ℕ) (told : List (List Bool)) (rel : List (List ℕ)) (item row : List Bool) → item ≡ get_or told i [] → length rel ≡ Q.worlds →
    ((w : ℕ) → w < Q.worlds → get_or rel w [] ≡ successors (links_of Q a) w) → row ≡ table (λ w. list_all (value_at item) (get_or rel w [])) (length rel) → IsWithinRow Q a told i row
within_row Q a i told rel item row e l f h = (
  ap length h ∙ length-table (λ w. list_all (value_at item) (get_or rel w [])) (length rel) ∙ l,
  λ d b. ap (λ r. value_at r d) h ∙ get_or-table (λ w. list_all (value_at item) (get_or rel w [])) (length rel) d false (omega arith)
      ∙ ap₂ (λ x y. list_all (value_at x) y) e (f d b),
)

pub all_are_within : (Q : Kripke) (a : ℕ) (told within : List (List Bool)) (n : ℕ) → n ≡ length told → EachItem [] (IsWithinRow Q a told) within n → AreWithin Q a told within
all_are_within Q a told within n e r = record {
  wide = record { long = r.long ∙ e; wide = λ x l. (r.each x (omega arith)).0 };
  says = λ x d l m. (r.each x (omega arith)).1 d m;
}

-- a row of what is joined
abbrev pub IsJoinedRow : Kripke → ℕ → List (List Bool) → ℕ → List Bool → Type 0
IsJoinedRow Q a within c row = (length row ≡ Q.worlds) × Joins within (successors (links_of Q a) c) row

pub all_are_joined : (Q : Kripke) (a : ℕ) (within rows : List (List Bool)) (n : ℕ) → n ≡ Q.worlds → EachItem [] (IsJoinedRow Q a within) rows n → AreJoined Q a within rows
all_are_joined Q a within rows n e r = record {
  wide = record { long = r.long ∙ e; wide = λ x l. (r.each x (omega arith)).0 };
  joins = λ c l. (r.each c (omega arith)).1;
}

or_left : (a b : Bool) → a ≡ true → (a || b) ≡ true
or_left true b h = refl
or_left false b h = cc

or_right : (a b : Bool) → b ≡ true → (a || b) ≡ true
or_right true b h = refl
or_right false b h = h

-- one row more is joined
pub joined_more : (rows : List (List Bool)) (chosen : List ℕ) (i x : ℕ) (old new : List Bool) → x ≡ slice_index chosen i → new ≡ either old (get_or rows x []) →
    ((j d : ℕ) → j < i → bit rows (slice_index chosen j) d ≡ true → value_at old d ≡ true) → (j d : ℕ) → j < i + 1 → bit rows (slice_index chosen j) d ≡ true → value_at new d ≡ true
joined_more rows chosen i x old new p e h j d l t =
    let at : value_at new d ≡ (value_at old d || bit rows x d) = ap (λ r. value_at r d) e ∙ either_at old (get_or rows x []) d in
    at ∙ ⊎_elim
    (λ (q : j ≡ i). or_right (value_at old d) (bit rows x d) (ap (λ z. bit rows z d) (p ∙ ap (slice_index chosen) (sym q)) ∙ t))
    (λ (b : j < i). or_left (value_at old d) (bit rows x d) (h j d b t))
    (last_or_before j i (omega arith))

place_of : (xs : List ℕ) (x : ℕ) → IsIn x xs → (i : ℕ) × (i < length xs) × (slice_index xs i ≡ x)
place_of [] x m = absurd m
place_of (z ∷ zs) x (inl q) = (0, (omega arith), sym q)
place_of (z ∷ zs) x (inr m) = let r = place_of zs x m in (suc r.0, (let b = r.1 in omega arith), r.2)

pub all_joined : (rows : List (List Bool)) (chosen : List ℕ) (n : ℕ) (row : List Bool) → length chosen ≤ n →
    ((j d : ℕ) → j < n → bit rows (slice_index chosen j) d ≡ true → value_at row d ≡ true) → Joins rows chosen row
all_joined rows chosen n row l h = record {
  has = λ x d i t. let p = place_of chosen x i in
      h p.0 d (let b = p.1 in omega arith) (ap (λ z. bit rows z d) p.2 ∙ t);
}

-- a test that not all pass
first_fails : (p : ℕ → Bool) (x : ℕ) (xs : List ℕ) (b : Bool) → p x ≡ b → (p x && list_all p xs) ≡ false →
    (list_all p xs ≡ false → (y : ℕ) × IsIn y xs × (p y ≡ false)) → (y : ℕ) × IsIn y (x ∷ xs) × (p y ≡ false)
first_fails p x xs false e h f = (x, inl refl, e)
first_fails p x xs true e h f = let r = f (sym (ap (λ b. b && list_all p xs) e) ∙ h) in (r.0, inr r.1, r.2)

some_fails : (p : ℕ → Bool) (xs : List ℕ) → list_all p xs ≡ false → (x : ℕ) × IsIn x xs × (p x ≡ false)
some_fails p [] h = cc
some_fails p (x ∷ xs) h = first_fails p x xs (p x) refl h (some_fails p xs)

no_line : (o : Option ℕ) → is_some o ≡ false → o ≡ None
no_line None h = refl
no_line (Some j) h = cc

or_not : (b : Bool) → (b ≡ true → ⊥) → b ≡ false
or_not false h = refl
or_not true h = absurd (h refl)

clash : (b : Bool) → b ≡ true → b ≡ false → ⊥
clash b g h = cc

-- where the row of a world is false, no successor leads into a row of told worlds alone
pub missed : (Q : Kripke) → IsState Q → (table : List (List (Option ℕ))) (a : ℕ) (told within rows : List (List Bool)) →
    MarkLines table Q.worlds told → AreWithin Q a told within → AreJoined Q a within rows → AreMissed Q table a rows
missed Q q table a told within rows t w j = record {
  wide = j.wide;
  answered = λ c d b l f x i.
      let e = t.wide.long in
      let xb = (links_within Q q a c x i).1 in
      let n : bit within x d ≡ false = or_not (bit within x d) (λ g. clash (bit rows c d) ((j.joins c b).has x d (IsIn-successors c x (links_of Q a) i) g) f) in
      let y = some_fails (value_at (get_or told x [])) (successors (links_of Q a) d) (sym (w.says x d (omega arith) l) ∙ n) in
      let m = from_successors d y.0 (links_of Q a) y.1 in
      let yb = (links_within Q q a d y.0 m).1 in
      (y.0, m, no_line (cell table x y.0) (sym (t.says x y.0 xb yb) ∙ y.2));
}

pub all_missed : (Q : Kripke) (table : List (List (Option ℕ))) (all : List (List (List Bool))) (n : ℕ) → n ≡ Q.agents → EachItem [] (AreMissed Q table) all n → AllMissed Q table all
all_missed Q table all n e r = record { long = r.long ∙ e; each = λ a l. r.each a (omega arith) }
