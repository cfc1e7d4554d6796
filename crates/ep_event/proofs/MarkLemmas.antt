-- Squares of truth values, link by link.
use Rattle.std.proofs.Common.{◌≡◌, ℕ, zero, suc, ◌<◌, Bool, true, false, cond, ◌||◌, ◌==◌, List, [], ◌∷◌, ◌++◌, map, length, get_or, set, replicate, refl, sym, ◌∙◌, ap, arith, inl, inr, eq-eqb}
use Rattle.std.proofs.lemmas.Bool.{cases_eq, ne_eqb}
use Rattle.std.proofs.lemmas.List.Folds.{list_any-append}
use Rattle.std.specs.List.{AllByRecursion}
use Rattle.ep_logic.specs.Numbers.{has_number, numbers_where, table}
use Rattle.ep_logic.specs.declared.ids.EventId.{EventId}
use Rattle.ep_logic.proofs.CallerLemmas.{get_or-table, length-table, replicate-table, set-table, table-same}
use Rattle.ep_event.specs.declared.parts.EventLink.{EventLink}
use Rattle.ep_event.specs.Built.{has_event, has_link}

-- whether an event is named, by the numbers of those that are
pub names-numbers : (ids : List EventId) (e : ℕ) → has_number (map (λ d. d.n) ids) e ≡ has_event ids e
names-numbers [] e = refl
names-numbers (d ∷ ids) e = ap (λ b. (d.n == e) || b) (names-numbers ids e)

or-false : (b : Bool) → (b || false) ≡ b
or-false true = refl
or-false false = refl

or-true : (b : Bool) → (b || true) ≡ true
or-true true = refl
or-true false = refl

-- the truth values of links among the first n events
abbrev pub square_of : List EventLink → ℕ → ℕ → List (List Bool)
square_of links n a = table (λ e. table (has_link links a e) n) n

pub square_long : (links : List EventLink) (n a : ℕ) → length (square_of links n a) ≡ n
square_long links n a = length-table (λ e. table (has_link links a e) n) n

pub no_marks : (n a : ℕ) → replicate n (replicate n false) ≡ square_of [] n a
no_marks n a = ap (replicate n) (replicate-table n false) ∙ replicate-table n (table (λ _. false) n)

-- a link of another agent
pub marks_skip : (links : List EventLink) (l : EventLink) (n a : ℕ) → (l.agent.n == a) ≡ false → square_of links n a ≡ square_of (links ++ l ∷ []) n a
marks_skip links l n a miss =
    table-same (λ e. table (has_link links a e) n) (λ e. table (has_link (links ++ l ∷ []) a e) n) n (λ e h.
    table-same (has_link links a e) (has_link (links ++ l ∷ []) a e) n (λ f k. sym (rw (list_any-append, miss) (or-false (has_link links a e f)))))

-- one link more
pub marks_add : (links : List EventLink) (l : EventLink) (n a : ℕ) → (l.agent.n == a) ≡ true → l.from.n < n → l.to.n < n →
    set (square_of links n a) l.from.n (set (get_or (square_of links n a) l.from.n []) l.to.n true) ≡ square_of (links ++ l ∷ []) n a
marks_add links l n a hit from to =
    let old : ℕ → List Bool = λ e. table (has_link links a e) n in
    let row : List Bool = table (λ f. cond (f == l.to.n) true (has_link links a l.from.n f)) n in
    ap (λ r. set (table old n) l.from.n (set r l.to.n true)) (get_or-table old n l.from.n [] from)
    ∙ ap (set (table old n) l.from.n) (set-table (has_link links a l.from.n) n l.to.n true to)
    ∙ set-table old n l.from.n row from
    ∙ table-same (λ e. cond (e == l.from.n) row (old e)) (λ e. table (has_link (links ++ l ∷ []) a e) n) n (λ e h. elim (cases_eq e l.from.n) [
      | inl s ↦ rw (s, eq-eqb l.from.n l.from.n refl)
          (table-same (λ f. cond (f == l.to.n) true (has_link links a l.from.n f)) (has_link (links ++ l ∷ []) a l.from.n) n (λ f k. elim (cases_eq f l.to.n) [
            | inl t ↦ rw (t, eq-eqb l.to.n l.to.n refl, list_any-append, hit, eq-eqb l.from.n l.from.n refl, eq-eqb l.to.n l.to.n refl) (sym (or-true (has_link links a l.from.n l.to.n)))
            | inr d ↦ rw (ne_eqb f l.to.n d, list_any-append, hit, eq-eqb l.from.n l.from.n refl, ne_eqb l.to.n f (λ q. d (sym q))) (sym (or-false (has_link links a l.from.n f)))
          ]))
      | inr d ↦ rw (ne_eqb e l.from.n d)
          (table-same (has_link links a e) (has_link (links ++ l ∷ []) a e) n (λ f k.
          sym (rw (list_any-append, hit, ne_eqb l.from.n e (λ q. d (sym q))) (or-false (has_link links a e f)))))
    ])

abbrev pub no_link : EventLink
no_link = record { agent = record { n = 0 }; from = record { n = 0 }; to = record { n = 0 } }

pub at_place : {A : Type 0} (P : A → Type 0) (xs : List A) (i : ℕ) (d : A) → i < length xs → AllByRecursion P xs → P (get_or xs i d)
at_place P [] i d h all = absurd (omega arith)
at_place P (x ∷ xs) zero d h all = all.0
at_place P (x ∷ xs) (suc i) d h all = at_place P xs i d (omega arith) all.1

-- the ends of each link are events
pub at_link : (n : ℕ) (links : List EventLink) (i : ℕ) → i < length links → AllByRecursion (λ l. (l.from.n < n) × (l.to.n < n)) links → ((get_or links i no_link).from.n < n) × ((get_or links i no_link).to.n < n)
at_link n links i h all = at_place (λ (l : EventLink). (l.from.n < n) × (l.to.n < n)) links i no_link h all
