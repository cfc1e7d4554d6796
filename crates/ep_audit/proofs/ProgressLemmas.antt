-- What correct lines have told: that it is as it should be, and that a whole certificate lists closed states.
use Rattle.std.proofs.Common.{◌≡◌, ℕ, ◌+◌, ◌*◌, ◌/◌, ◌%◌, ◌<◌, ◌≤◌, ◌⊎◌, ◌==◌, Bool, true, false, List, [], ◌∷◌, ◌++◌, length, slice_get, Some, refl, sym, ap, ◌∙◌, subst, arith, inl, inr, if◌then◌else◌}
use Rattle.std.proofs.lemmas.Option.{same_Some, none-some, slice_get_within}
use Rattle.std.specs.List.{AllByRecursion}
use Rattle.std.proofs.Math.Nat.{mul_comm, mul-le-mul_left}
use Rattle.std.proofs.lemmas.Bool.{cases_lt, eqb-true, eqb-false}
use Rattle.std.proofs.lemmas.List.{length-append}
use Rattle.std.proofs.lemmas.Nat.{div-mul-add}
use Rattle.ep_theory.specs.Kripke.{Kripke}
use Rattle.ep_theory.specs.Events.{EventModel}
use Rattle.ep_theory.specs.Product.{IsApplicable, IsStuckAt, product_of}
use Rattle.ep_audit.specs.NamedTasks.{NamedTask, cost_of, name_of}
use Rattle.ep_theory.specs.Closed.{MayStand, Stands, IsTried, Closed}
use Rattle.ep_audit.specs.Certificates.{action_count, pair_count, IsDue, Comes, GoesOn, TakesEntry, ShowsStart, ShowsStep, IsStuck, IsMapped, TakesAt, Takes, nothing_told, Keeps, start, more, Certifies}
use Rattle.ep_audit.specs.Sound.{PairTried, IsListed, IsWhole, IsAt, IsPlace, IsSound}
use Rattle.ep_audit.specs.declared.progress.DueLine.{DueLine}
use Rattle.ep_audit.specs.declared.progress.DueLine.TheVariants.{Version, Task, Bound, Count, Entry, Start, Step, End, Nothing}
use Rattle.ep_audit.specs.declared.progress.Progress.{Progress}
use Rattle.ep_audit.proofs.MapLemmas.{maps_bisimilar}

pub all_snoc : {A : Type 0} (P : A → Type 0) (xs : List A) (x : A) → AllByRecursion P xs → P x → AllByRecursion P (xs ++ x ∷ [])
all_snoc P [] x h p = (p, tt)
all_snoc P (y ∷ ys) x h p = (h.0, all_snoc P ys x h.1 p)

-- pair i * n + a has entry i and action a
pub quotient_is : (n i a : ℕ) → a < n → (i * n + a) / n ≡ i
quotient_is n i a l = div-mul-add i n a l

pub remainder_is : (n i a : ℕ) → a < n → (i * n + a) % n ≡ a
remainder_is n i a l = by (quotient_is n i a l) (mul_comm n i)
  where
    by : (i * n + a) / n ≡ i → n * i ≡ i * n → (i * n + a) % n ≡ a
    by d e = let m : n * ((i * n + a) / n) ≡ n * i = ap (λ k. n * k) d in omega (arith, m, e, l)

pub pair_below : (n i a k : ℕ) → a < n → i < k → i * n + a < k * n
pair_below n i a k l h = omega (arith, mul-le-mul_left n h, mul_comm n (i + 1), mul_comm n k, mul_comm n i)

module _ (T : NamedTask) where
  -- told where all is as it should be, but for the place
  pub with_place : (told : Progress) (due : DueLine) → IsSound T told → IsPlace T (record told { due = due }) due → IsSound T (record told { due = due })
  with_place told due h p = record { bound = h.bound; few = h.few; entries = h.entries; first = h.first; place = p }

  -- a pair that is not due was tried
  passed : (told : Progress) (j : ℕ) → (IsDue T told j → ⊥) → PairTried T told j
  passed told j never e at A action cheap = absurd (never (record { entry = e; at = at; cheap = cheap }))

  below_or_from : (told : Progress) (q k j : ℕ) → ((j : ℕ) → j < q → j < pair_count T told → PairTried T told j) → ((j : ℕ) → q ≤ j → j < k → IsDue T told j → ⊥) → j < k → j < pair_count T told → PairTried T told j
  below_or_from told q k j old skipped l within =
      elim (cases_lt j q) as (λ _. PairTried T told j) [ inl less ↦ old j less within | inr from ↦ passed told j (skipped j from l) ]

  -- nothing but the line that is due is another
  listed_moved : (told : Progress) (due : DueLine) → IsListed told → IsListed (record told { due = due })
  listed_moved told due l = record { all = l.all; some = l.some }

  whole_moved : (told : Progress) (due : DueLine) (q : ℕ) → IsWhole T told q → IsWhole T (record told { due = due }) q
  whole_moved told due q w = record { listed = listed_moved told due w.listed; start = w.start; tried = w.tried }

  -- the pairs below q are done, and this comes next
  place_after : (told : Progress) (q : ℕ) (due : DueLine) → IsWhole T told q → Comes T told q due → IsPlace T (record told { due = due }) due
  place_after told q (Step k) w c = record {
    whole = record { listed = listed_moved told (Step k) w.listed; start = w.start; tried = λ j l within. below_or_from told q k j w.tried c.3 l within };
    within = c.1;
    due = record { entry = c.2.entry; at = c.2.at; cheap = c.2.cheap };
  }
  place_after told q End w c = record {
    listed = listed_moved told End w.listed;
    start = w.start;
    tried = λ j l within. below_or_from told q (pair_count T told) j w.tried (λ i from below. c i from below) within within;
  }
  place_after told q other w c = absurd c

  pub goes_on_told : (told next : Progress) (q : ℕ) → IsSound T told → IsWhole T told q → GoesOn T told q next → IsSound T next
  goes_on_told told next q h w g = subst (IsSound T) (sym g.after) (with_place told g.due h (place_after told q g.due w g.comes))

  -- where an action is stuck it is not applicable
  stuck_never : (S : Kripke) (A : EventModel) (w : ℕ) → IsStuckAt S A w → IsApplicable S A → ⊥
  stuck_never S A w stuck applies = let e = applies w stuck.0 in stuck.1 e.0 e.1 e.2

  -- what a step shows
  shown_tried : (told : Progress) (e : Kripke × ℕ) (A : EventModel) (i a : ℕ) (line : List ℕ) → slice_get T.problem.actions a ≡ Some A
      → (IsStuck e.0 A i (name_of T a) line ⊎ IsMapped told.entries (e.1 + cost_of T a) e.0 A i (name_of T a) line) → IsTried T.problem told.bound told.entries e (record { n = a })
  shown_tried told e A i a line action shown B other cheap =
      let same : A ≡ B = same_Some A B (sym action ∙ other) in
      subst (λ C. (IsApplicable e.0 C → ⊥) ⊎ Stands told.entries (e.1 + cost_of T a) (product_of e.0 C)) same
      (elim shown as (λ _. (IsApplicable e.0 A → ⊥) ⊎ Stands told.entries (e.1 + cost_of T a) (product_of e.0 A)) [
        | inl s ↦ inl (stuck_never e.0 A s.world s.stuck)
        | inr m ↦ inr (record { place = m.place; entry = m.entry; at = m.at; cheap = m.cheap; alike = maps_bisimilar (product_of e.0 A) m.entry.0 m.map m.maps })
      ])

  one_more_tried : (told : Progress) (q : ℕ) → IsWhole T told q → PairTried T told q → IsWhole T told (q + 1)
  one_more_tried told q w here = record {
    listed = w.listed;
    start = w.start;
    tried = λ j l within. elim (cases_lt j q) as (λ _. PairTried T told j) [ inl less ↦ w.tried j less within | inr from ↦ subst (PairTried T told) (let e : q ≡ j = omega (arith, from, l) in e) here ];
  }

  take_step : (told next : Progress) (q : ℕ) (line : List ℕ) → IsSound T told → IsAt T told q → ShowsStep T told q line → GoesOn T told (q + 1) next → IsSound T next
  take_step told next q line h at s on =
      goes_on_told told next (q + 1) h (one_more_tried told q at.whole (λ e entry. subst (λ f. IsTried T.problem told.bound told.entries f (record { n = q % action_count T })) (same_Some s.entry e (sym s.at ∙ entry)) (shown_tried told s.entry s.action (q / action_count T) (q % action_count T) line s.action_at s.shown))) on

  take_start : (told next : Progress) (line : List ℕ) → IsSound T told → IsListed told → ShowsStart T told line → GoesOn T told 0 next → IsSound T next
  take_start told next line h listed s on =
      goes_on_told told next 0 h (record {
        listed = listed;
        start = record { place = 0; entry = s.entry; at = s.at; cheap = subst (λ n. n ≤ 0) (sym (h.first s.entry s.at)) (omega arith); alike = maps_bisimilar T.problem.initial s.entry.0 s.map s.maps };
        tried = λ j l within. absurd (omega (arith, l));
      }) on

  -- one more entry
  entry_place : (told : Progress) (e : Kripke × ℕ) (b : Bool) → length told.entries < told.count → b ≡ (length told.entries + 1 == told.count)
      → IsPlace T (record told { entries = told.entries ++ e ∷ []; due = if b then Start else Entry }) (if b then Start else Entry)
  entry_place told e true l h = record { all = length-append told.entries (e ∷ []) ∙ eqb-true (length told.entries + 1) told.count (sym h); some = omega (arith, l) }
  entry_place told e false l h = subst (λ n. n < told.count) (sym (length-append told.entries (e ∷ []))) (omega (arith, l, eqb-false (length told.entries + 1) told.count (sym h)))

  first_entry : (es : List (Kripke × ℕ)) (e f : Kripke × ℕ) → ((g : Kripke × ℕ) → slice_get es 0 ≡ Some g → g.1 ≡ 0) → (length es ≡ 0 → e.1 ≡ 0) → slice_get (es ++ e ∷ []) 0 ≡ Some f → f.1 ≡ 0
  first_entry [] e f old new at = subst (λ (g : Kripke × ℕ). g.1 ≡ 0) (same_Some e f at) (new refl)
  first_entry (g ∷ es) e f old new at = old f at

  take_entry : (told next : Progress) (line : List ℕ) → IsSound T told → length told.entries < told.count → TakesEntry T told line next → IsSound T next
  take_entry told next line h room s = subst (IsSound T) (sym s.after) (record {
    bound = h.bound;
    few = h.few;
    entries = all_snoc (MayStand T.problem told.bound) told.entries s.entry h.entries s.may_stand;
    first = λ f at. first_entry told.entries s.entry f h.first s.first at;
    place = entry_place told s.entry (length told.entries + 1 == told.count) room refl;
  })

  no_entries : (told : Progress) (b k : ℕ) (due : DueLine) → told.entries ≡ [] → b ≤ 1000 → k ≤ 16384 → IsPlace T (record told { bound = b; count = k; due = due }) due → IsSound T (record told { bound = b; count = k; due = due })
  no_entries told b k due none bound few p = record {
    bound = bound;
    few = few;
    entries = subst (AllByRecursion (MayStand T.problem b)) (sym none) tt;
    first = λ e at. absurd (none-some e (sym (ap (λ es. slice_get es 0) none) ∙ at));
    place = p;
  }

  step_at : (due : DueLine) (told next : Progress) (line behind : List ℕ) → IsSound T told → IsPlace T told due → TakesAt due T told line behind next → IsSound T next
  step_at Version told next line behind h p t = subst (IsSound T) (sym t.1) (with_place told Task h p)
  step_at Task told next line behind h p t = subst (IsSound T) (sym t.1) (with_place told Bound h p)
  step_at Bound told next line behind h p t = subst (IsSound T) (sym t.after) (no_entries told t.bound told.count Count p t.most h.few p)
  step_at Count told next line behind h p t = subst (IsSound T) (sym t.after) (no_entries told told.bound t.count Entry p h.bound t.most (subst (λ es. length es < t.count) (sym p) (omega (arith, t.least))))
  step_at Entry told next line behind h p t = take_entry told next line h p t
  step_at Start told next line behind h p t = take_start told next line h p t.0 t.1
  step_at (Step q) told next line behind h p t = take_step told next q line h p t.0 t.1
  step_at End told next line behind h p t = subst (IsSound T) (sym t.2) (with_place told Nothing h (whole_moved told Nothing (pair_count T told) p))
  step_at Nothing told next line behind h p t = absurd t

  pub takes_told : (told next : Progress) (line behind : List ℕ) → IsSound T told → Takes T told line behind next → IsSound T next
  takes_told told next line behind h t = step_at told.due told next line behind h h.place t

  pub nothing_is_told : IsSound T nothing_told
  nothing_is_told = record { bound = omega arith; few = omega arith; entries = tt; first = λ e at. absurd (none-some e at); place = refl }

  pub keeps_told : (text : List ℕ) (n : ℕ) (told : Progress) (rest : List ℕ) → Keeps T text n told rest → IsSound T told
  keeps_told text n told rest start = nothing_is_told
  keeps_told text n told rest (more {n = m} {told = old} line behind next k is_line t) = takes_told old next line behind (keeps_told text m old (line ++ 10 ∷ behind) k) t

  -- whole certificates list closed states
  pub whole_closed : (told : Progress) → IsSound T told → IsWhole T told (pair_count T told) → Closed T.problem told.bound told.entries
  whole_closed told h w = record {
    few = omega (arith, w.listed.all, h.few);
    first = w.start;
    each = h.entries;
    tried = λ i a e at A action cheap.
        let n = action_count T in
        let l : a.n < n = slice_get_within T.problem.actions a.n A action in
        let k : i < told.count = omega (arith, slice_get_within told.entries i e at, w.listed.all) in
        let q = quotient_is n i a.n l in
        let r = remainder_is n i a.n l in
        let there = w.tried (i * n + a.n) (pair_below n i a.n told.count l k) (pair_below n i a.n told.count l k) e (ap (λ j. slice_get told.entries j) q ∙ at) in
        subst (λ b. IsTried T.problem told.bound told.entries e (record { n = b })) r there A action cheap;
  }

  at_end : (told : Progress) (due : DueLine) → IsPlace T told due → due ≡ Nothing → IsWhole T told (pair_count T told)
  at_end told due p e = subst (IsPlace T told) e p

  pub certifies_closed : (text : List ℕ) (b : ℕ) → Certifies T text b → (es : List (Kripke × ℕ)) × Closed T.problem b es
  certifies_closed text b c =
      let h = keeps_told text c.lines c.told [] c.keeps in
      (c.told.entries, subst (λ n. Closed T.problem n c.told.entries) c.bound_is (whole_closed c.told h (at_end c.told c.told.due h.place c.done)))
