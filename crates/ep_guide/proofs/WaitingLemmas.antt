-- What waits in the queues, when a queue is made, grows, shrinks or is gone.
use Rattle.std.proofs.Common.{◌≡◌, ◌≢◌, ℕ, zero, suc, ◌<◌, ◌≤◌, Bool, true, false, cond, List, [], ◌∷◌, ◌++◌, length, get_or, map, slice_get, Option, Some, None, Ordering, Less, Equal, Greater, ◌↔◌, ◌==◌, IsSome, Result, Ok, Err, OnErr, option_to_list, refl, sym, ap, ◌∙◌, subst, arith, append_assoc}
use Rattle.std.specs.List.{AllByRecursion}
use Rattle.std.specs.List.Sorted.{IsStrictlySortedBy, IsNonDecreasingBy}
use Rattle.std.specs.Ordering.{nat_cmp, is_eq, match_ordering}
use Rattle.std.specs.Map.{keys_of, lookup, set_value, remove_entry}
use Rattle.std.specs.BTreeMap.{is_at, insert_entry}
use Rattle.std.specs.Cmp.{nat_cmp_is}
use Rattle.std.proofs.lemmas.Cmp.{ranked}
use Rattle.std.proofs.lemmas.Map.Keys.{sorted_head, sorted_tail}
use Rattle.std.proofs.lemmas.Bool.{lt-ltb, le-ltb}
use Rattle.std.proofs.lemmas.Bool.Decides.{nat_tests}
use Rattle.std.proofs.lemmas.List.{map-append}
use Rattle.ep_logic.specs.declared.ids.StateId.{StateId}
use Rattle.ep_guide.specs.declared.frontier.Waiting.{Waiting}
use Rattle.ep_guide.specs.Waitings.{placed, Pops, Queue, waiting, waiting_in, AllInUse}

-- all of the list have the score or less
AtMost : ℕ → List Waiting → Type 0
AtMost s xs = AllByRecursion (λ x. x.score ≤ s) xs

-- all of the list have more
Above : ℕ → List Waiting → Type 0
Above s xs = AllByRecursion (λ x. s < x.score) xs

placed-past : (w : Waiting) (xs ys : List Waiting) → AtMost w.score xs → placed w (xs ++ ys) ≡ xs ++ placed w ys
unfolding AtMost
placed-past w [] ys h = refl
placed-past w (x ∷ xs) ys h = rw (le-ltb w.score x.score h.0) (ap (λ zs. x ∷ zs) (placed-past w xs ys h.1))

placed-before : (w : Waiting) (ys : List Waiting) → Above w.score ys → placed w ys ≡ w ∷ ys
unfolding Above
placed-before w [] h = refl
placed-before w (y ∷ ys) h = rw (lt-ltb w.score y.score h.0) refl

queue_at_most : (s k : ℕ) (ids : List StateId) → k ≤ s → AtMost s (map (waiting k) ids)
unfolding AtMost
queue_at_most s k [] h = tt
queue_at_most s k (id ∷ ids) h = (h, queue_at_most s k ids h)

queue_above : (s k : ℕ) (ids : List StateId) (xs : List Waiting) → s < k → Above s xs → Above s (map (waiting k) ids ++ xs)
unfolding Above
queue_above s k [] xs h g = g
queue_above s k (id ∷ ids) xs h g = (h, queue_above s k ids xs h g)

-- all scores of the queues are above
KeysAbove : ℕ → List (ℕ × Queue) → Type 0
KeysAbove s es = AllByRecursion (λ k. nat_cmp s k ≡ Less) (keys_of es)

less_is : (x y : ℕ) → nat_cmp x y ≡ Less → x < y
less_is x y e = ranked x y Less (sym e)

all_above : (s : ℕ) (es : List (ℕ × Queue)) → KeysAbove s es → Above s (waiting_in es)
unfolding KeysAbove Above
all_above s [] h = tt
all_above s (e ∷ es) h = queue_above s e.0 e.1.items (waiting_in es) (less_is s e.0 h.0) (all_above s es h.1)

lower : (s k : ℕ) (es : List (ℕ × Queue)) → s < k → KeysAbove k es → KeysAbove s es
unfolding KeysAbove
lower s k [] l h = tt
lower s k (e ∷ es) l h = (sym (nat_cmp_is s e.0 Less (omega (arith, less_is k e.0 h.0))), lower s k es l h.1)

no_queue : (s : ℕ) (es : List (ℕ × Queue)) → KeysAbove s es → lookup (is_at (nat_cmp s)) es ≡ None
unfolding KeysAbove
no_queue s [] h = refl
no_queue s (e ∷ es) h = ap (λ r. cond (is_eq r) (Some e.1) (lookup (is_at (nat_cmp s)) es)) h.0 ∙ no_queue s es h.1

keys_above : (e : ℕ × Queue) (es : List (ℕ × Queue)) → IsStrictlySortedBy nat_cmp (keys_of (e ∷ es)) → KeysAbove e.0 es
unfolding KeysAbove
keys_above e es h = sorted_head nat_cmp e.0 (keys_of es) h

-- one entry, where r compares the score to its key
module _ (score : ℕ) (id : StateId) (e : ℕ × Queue) (es : List (ℕ × Queue)) (sorted : IsStrictlySortedBy nat_cmp (keys_of (e ∷ es))) where
  skip : (new : List (ℕ × Queue)) → e.0 < score → waiting_in new ≡ placed (waiting score id) (waiting_in es) →
      waiting_in (e ∷ new) ≡ placed (waiting score id) (waiting_in (e ∷ es))
  skip new l h = ap (λ xs. map (waiting e.0) e.1.items ++ xs) h
      ∙ sym (placed-past (waiting score id) (map (waiting e.0) e.1.items) (waiting_in es) (queue_at_most score e.0 e.1.items (omega arith)))

  grow : (q : Queue) → score ≡ e.0 → q.items ≡ e.1.items ++ id ∷ [] → waiting_in ((e.0, q) ∷ es) ≡ placed (waiting score id) (waiting_in (e ∷ es))
  grow q s h =
      let rest = waiting_in es in
      let old = map (waiting e.0) e.1.items in
      ap (λ ids. map (waiting e.0) ids ++ rest) h
      ∙ ap (λ xs. xs ++ rest) (map-append (waiting e.0) e.1.items (id ∷ []))
      ∙ append_assoc old (waiting e.0 id ∷ []) rest
      ∙ ap (λ k. old ++ waiting k id ∷ rest) (sym s)
      ∙ ap (λ xs. old ++ xs) (sym (placed-before (waiting score id) rest (subst (λ k. Above k rest) (sym s) (all_above e.0 es (keys_above e es sorted)))))
      ∙ sym (placed-past (waiting score id) old rest (queue_at_most score e.0 e.1.items (omega arith)))

  before : (q : Queue) → score < e.0 → q.items ≡ id ∷ [] → waiting_in ((score, q) ∷ e ∷ es) ≡ placed (waiting score id) (waiting_in (e ∷ es))
  before q l h =
      ap (λ ids. map (waiting score) ids ++ waiting_in (e ∷ es)) h
      ∙ sym (placed-before (waiting score id) (waiting_in (e ∷ es)) (queue_above score e.0 e.1.items (waiting_in es) l (all_above score es (lower score e.0 es l (keys_above e es sorted)))))

  set_step : (q old : Queue) (new : List (ℕ × Queue)) (r : Ordering) → r ≡ nat_cmp score e.0 → cond (is_eq r) (Some e.1) (lookup (is_at (nat_cmp score)) es) ≡ Some old →
      q.items ≡ old.items ++ id ∷ [] → (lookup (is_at (nat_cmp score)) es ≡ Some old → waiting_in new ≡ placed (waiting score id) (waiting_in es)) →
      waiting_in (cond (is_eq r) ((e.0, q) ∷ es) (e ∷ new)) ≡ placed (waiting score id) (waiting_in (e ∷ es))
  set_step q old new Less c l h f =
      let none = no_queue score es (lower score e.0 es (ranked score e.0 Less c) (keys_above e es sorted)) in
      absurd (cc (none, l))
  set_step q old new Equal c l h f =
      let same : e.1 ≡ old = cc l in
      grow q (ranked score e.0 Equal c) (h ∙ ap (λ (x : Queue). x.items ++ id ∷ []) (sym same))
  set_step q old new Greater c l h f = skip new (ranked score e.0 Greater c) (f l)

  insert_step : (q : Queue) (new : List (ℕ × Queue)) (r : Ordering) → r ≡ nat_cmp score e.0 → cond (is_eq r) (Some e.1) (lookup (is_at (nat_cmp score)) es) ≡ None →
      q.items ≡ id ∷ [] → (lookup (is_at (nat_cmp score)) es ≡ None → waiting_in new ≡ placed (waiting score id) (waiting_in es)) →
      waiting_in (match_ordering r ((score, q) ∷ e ∷ es) ((e.0, q) ∷ es) (e ∷ new)) ≡ placed (waiting score id) (waiting_in (e ∷ es))
  insert_step q new Less c l h f = before q (ranked score e.0 Less c) h
  insert_step q new Equal c l h f = absurd (cc l)
  insert_step q new Greater c l h f = skip new (ranked score e.0 Greater c) (f l)

-- a queue that was there grows
pub waiting_in-set : (score : ℕ) (id : StateId) (q old : Queue) (es : List (ℕ × Queue)) → IsStrictlySortedBy nat_cmp (keys_of es) → lookup (is_at (nat_cmp score)) es ≡ Some old →
    q.items ≡ old.items ++ id ∷ [] → waiting_in (set_value (is_at (nat_cmp score)) es q) ≡ placed (waiting score id) (waiting_in es)
waiting_in-set score id q old [] s l h = absurd (cc l)
waiting_in-set score id q old (e ∷ es) s l h =
    set_step score id e es s q old (set_value (is_at (nat_cmp score)) es q) (nat_cmp score e.0) refl l h
    (λ m. waiting_in-set score id q old es (sorted_tail nat_cmp e.0 (keys_of es) s) m h)

-- a queue of one is new
pub waiting_in-insert : (score : ℕ) (id : StateId) (q : Queue) (es : List (ℕ × Queue)) → IsStrictlySortedBy nat_cmp (keys_of es) → lookup (is_at (nat_cmp score)) es ≡ None →
    q.items ≡ id ∷ [] → waiting_in (insert_entry nat_cmp es score q) ≡ placed (waiting score id) (waiting_in es)
waiting_in-insert score id q [] s l h = ap (λ ids. map (waiting score) ids ++ []) h
waiting_in-insert score id q (e ∷ es) s l h =
    insert_step score id e es s q (insert_entry nat_cmp es score q) (nat_cmp score e.0) refl l h
    (λ m. waiting_in-insert score id q es (sorted_tail nat_cmp e.0 (keys_of es) s) m h)

-- no queue is empty
use_set : (r : Bool) (q : Queue) (e : ℕ × Queue) (es new : List (ℕ × Queue)) → q.items ≢ [] → AllInUse (e ∷ es) → (AllInUse es → AllInUse new) → AllInUse (cond r ((e.0, q) ∷ es) (e ∷ new))
use_set true q e es new n h f = (n, h.1)
use_set false q e es new n h f = (h.0, f h.1)

pub in_use-set : (score : ℕ) (q : Queue) (es : List (ℕ × Queue)) → q.items ≢ [] → AllInUse es → AllInUse (set_value (is_at (nat_cmp score)) es q)
in_use-set score q [] n h = tt
in_use-set score q (e ∷ es) n h = use_set (is_eq (nat_cmp score e.0)) q e es (set_value (is_at (nat_cmp score)) es q) n h (in_use-set score q es n)

use_insert : (r : Ordering) (score : ℕ) (q : Queue) (e : ℕ × Queue) (es new : List (ℕ × Queue)) → q.items ≢ [] → AllInUse (e ∷ es) → (AllInUse es → AllInUse new) →
    AllInUse (match_ordering r ((score, q) ∷ e ∷ es) ((e.0, q) ∷ es) (e ∷ new))
use_insert Less score q e es new n h f = (n, h)
use_insert Equal score q e es new n h f = (n, h.1)
use_insert Greater score q e es new n h f = (h.0, f h.1)

pub in_use-insert : (score : ℕ) (q : Queue) (es : List (ℕ × Queue)) → q.items ≢ [] → AllInUse es → AllInUse (insert_entry nat_cmp es score q)
in_use-insert score q [] n h = (n, tt)
in_use-insert score q (e ∷ es) n h = use_insert (nat_cmp score e.0) score q e es (insert_entry nat_cmp es score q) n h (in_use-insert score q es n)

-- the first queue
at_itself : (score : ℕ) → is_at (nat_cmp score) score ≡ true
at_itself score = ap is_eq (sym (nat_cmp_is score score Equal refl))

pub set_first : (score : ℕ) (q : Queue) (e : ℕ × Queue) (es : List (ℕ × Queue)) → score ≡ e.0 → set_value (is_at (nat_cmp score)) (e ∷ es) q ≡ (e.0, q) ∷ es
set_first score q e es s = ap (λ b. cond b ((e.0, q) ∷ es) (e ∷ set_value (is_at (nat_cmp score)) es q)) (ap (is_at (nat_cmp score)) (sym s) ∙ at_itself score)

pub remove_first : (score : ℕ) (e : ℕ × Queue) (es : List (ℕ × Queue)) → score ≡ e.0 → remove_entry (is_at (nat_cmp score)) (e ∷ es) ≡ es
remove_first score e es s = ap (λ b. cond b es (e ∷ remove_entry (is_at (nat_cmp score)) es)) (ap (is_at (nat_cmp score)) (sym s) ∙ at_itself score)

-- scores never fall along what waits
Ascends : List Waiting → Type 0
Ascends [] = Unit {0}
Ascends (x ∷ xs) = AllByRecursion (λ y. x.score ≤ y.score) xs × Ascends xs

at_least : (s : ℕ) (xs : List Waiting) (j : ℕ) (d : Waiting) → AllByRecursion (λ y. s ≤ y.score) xs → j < length xs → s ≤ (get_or xs j d).score
at_least s [] j d h l = absurd (omega arith)
at_least s (x ∷ xs) zero d h l = h.0
at_least s (x ∷ xs) (suc j) d h l = at_least s xs j d h.1 (omega arith)

by_places : (xs : List Waiting) → Ascends xs → IsNonDecreasingBy (λ w. w.score) xs
unfolding Ascends
by_places [] h i j d l m = absurd (omega arith)
by_places (x ∷ xs) h zero zero d l m = omega arith
by_places (x ∷ xs) h zero (suc j) d l m = at_least x.score xs j d h.0 (omega arith)
by_places (x ∷ xs) h (suc i) zero d l m = absurd (omega arith)
by_places (x ∷ xs) h (suc i) (suc j) d l m = by_places xs h.1 i j d (omega arith) (omega arith)

weaker : (s : ℕ) (xs : List Waiting) → Above s xs → AllByRecursion (λ y. s ≤ y.score) xs
unfolding Above
weaker s [] h = tt
weaker s (x ∷ xs) h = (omega (arith, h.0), weaker s xs h.1)

queue_ascends : (k : ℕ) (ids : List StateId) (xs : List Waiting) → AllByRecursion (λ y. k ≤ y.score) xs → Ascends xs → Ascends (map (waiting k) ids ++ xs)
unfolding Ascends
queue_ascends k [] xs h g = g
queue_ascends k (id ∷ ids) xs h g = (same k ids xs h, queue_ascends k ids xs h g)
  where
    same : (k : ℕ) (ids : List StateId) (xs : List Waiting) → AllByRecursion (λ y. k ≤ y.score) xs → AllByRecursion (λ y. k ≤ y.score) (map (waiting k) ids ++ xs)
    same k [] xs h = h
    same k (id ∷ ids) xs h = (omega arith, same k ids xs h)

ascends : (es : List (ℕ × Queue)) → IsStrictlySortedBy nat_cmp (keys_of es) → Ascends (waiting_in es)
unfolding Ascends
ascends [] s = tt
ascends (e ∷ es) s = queue_ascends e.0 e.1.items (waiting_in es) (weaker e.0 (waiting_in es) (all_above e.0 es (keys_above e es s))) (ascends es (sorted_tail nat_cmp e.0 (keys_of es) s))

pub least_first : (es : List (ℕ × Queue)) → IsStrictlySortedBy nat_cmp (keys_of es) → IsNonDecreasingBy (λ w. w.score) (waiting_in es)
least_first es s = by_places (waiting_in es) (ascends es s)

-- a queue has the elements that it had
same_step : (score : ℕ) (q old : Queue) (e : ℕ × Queue) (es new : List (ℕ × Queue)) (r : Bool) → cond r (Some e.1) (lookup (is_at (nat_cmp score)) es) ≡ Some old → q.items ≡ old.items →
    (lookup (is_at (nat_cmp score)) es ≡ Some old → waiting_in new ≡ waiting_in es) → waiting_in (cond r ((e.0, q) ∷ es) (e ∷ new)) ≡ waiting_in (e ∷ es)
same_step score q old e es new true l h f =
    let same : e.1 ≡ old = cc l in
    ap (λ ids. map (waiting e.0) ids ++ waiting_in es) (h ∙ ap (λ (x : Queue). x.items) (sym same))
same_step score q old e es new false l h f = ap (λ xs. map (waiting e.0) e.1.items ++ xs) (f l)

pub waiting_in-same : (score : ℕ) (q old : Queue) (es : List (ℕ × Queue)) → lookup (is_at (nat_cmp score)) es ≡ Some old → q.items ≡ old.items →
    waiting_in (set_value (is_at (nat_cmp score)) es q) ≡ waiting_in es
waiting_in-same score q old [] l h = absurd (cc l)
waiting_in-same score q old (e ∷ es) l h = same_step score q old e es (set_value (is_at (nat_cmp score)) es q) (is_eq (nat_cmp score e.0)) l h (λ m. waiting_in-same score q old es m h)

found_step : (old : Queue) (e : ℕ × Queue) (o : Option Queue) (r : Bool) → cond r (Some e.1) o ≡ Some old → e.1.items ≢ [] → (o ≡ Some old → old.items ≢ []) → old.items ≢ []
found_step old e o true l n f = let same : e.1 ≡ old = cc l in subst (λ (x : Queue). x.items ≢ []) same n
found_step old e o false l n f = f l

-- a queue that is found is not empty
pub in_use_found : (score : ℕ) (old : Queue) (es : List (ℕ × Queue)) → lookup (is_at (nat_cmp score)) es ≡ Some old → AllInUse es → old.items ≢ []
in_use_found score old [] l h = absurd (cc l)
in_use_found score old (e ∷ es) l h = found_step old e (lookup (is_at (nat_cmp score)) es) (is_eq (nat_cmp score e.0)) l h.0 (λ m. in_use_found score old es m h.1)

pub not_empty : (ids : List StateId) (id : StateId) → ids ++ id ∷ [] ≢ []
not_empty [] id e = cc e
not_empty (x ∷ xs) id e = cc e

-- the first of the first queue leaves
pub record Leaves (es : List (ℕ × Queue)) (score : ℕ) (q : Queue) (out : Option StateId) (new : List (ℕ × Queue)) : Type 0 where
  pub rest : List (ℕ × Queue)
  pub new_is : new ≡ (score, q) ∷ rest
  pub in_use : AllInUse rest
  pub id : StateId
  pub out_is : out ≡ Some id
  pub left : waiting_in es ≡ waiting score id ∷ waiting_in new

some_length : (ids : List StateId) → ids ≢ [] → 0 < length ids
some_length [] n = absurd (n refl)
some_length (id ∷ ids) n = omega arith

leaving : (e : ℕ × Queue) (es : List (ℕ × Queue)) (q : Queue) (out : Option StateId) → e.1.items ≡ option_to_list out ++ q.items → (0 < length e.1.items → IsSome out) → AllInUse (e ∷ es) →
    Leaves (e ∷ es) e.0 q out ((e.0, q) ∷ es)
leaving e es q (Some id) h s u = record {
  rest = es;
  new_is = refl;
  in_use = u.1;
  id = id;
  out_is = refl;
  left = ap (λ ids. map (waiting e.0) ids ++ waiting_in es) h;
}
leaving e es q None h s u = absurd (cc (s (some_length e.1.items u.0)))

pub leaves : (es new : List (ℕ × Queue)) (score : ℕ) (first old q : Queue) (out : Option StateId) → slice_get es 0 ≡ Some (score, first) → Some old ≡ lookup (is_at (nat_cmp score)) es →
    old.items ≡ option_to_list out ++ q.items → (0 < length old.items → IsSome out) → AllInUse es → new ≡ set_value (is_at (nat_cmp score)) es q → Leaves es score q out new
leaves [] new score first old q out g l h f u n = absurd (cc g)
leaves (e ∷ es) new score first old q out g l h f u n =
    let p : e ≡ (score, first) = cc g in
    let s : score ≡ e.0 = sym (ap (λ (x : ℕ × Queue). x.0) p) in
    let t : is_at (nat_cmp score) e.0 ≡ true = ap (is_at (nat_cmp score)) (sym s) ∙ at_itself score in
    let o : old ≡ e.1 = some_is old e.1 (l ∙ ap (λ b. cond b (Some e.1) (lookup (is_at (nat_cmp score)) es)) t) in
    let i : old.items ≡ e.1.items = ap (λ (x : Queue). x.items) o in
    subst (λ k. Leaves (e ∷ es) k q out new) (sym s)
    (subst (Leaves (e ∷ es) e.0 q out) (sym (n ∙ set_first score q e es s))
    (leaving e es q out (sym i ∙ h) (λ b. f (subst (λ ids. 0 < length ids) (sym i) b)) u))
  where
    some_is : (x y : Queue) → Some x ≡ Some y → x ≡ y
    some_is x y p = cc

module _ (es new : List (ℕ × Queue)) (score : ℕ) (q : Queue) (out : Option StateId) (h : Leaves es score q out new) where
  pub pops_left : Pops (waiting_in es) out (waiting_in new)
  pops_left = subst (λ o. Pops (waiting_in es) o (waiting_in new)) (sym h.out_is) (waiting score h.id, h.left, refl)

  pub in_use_left : q.items ≢ [] → AllInUse new
  in_use_left n = subst AllInUse (sym h.new_is) (n, h.in_use)

  -- an empty queue is taken out
  removed_is : (removed : List (ℕ × Queue)) → removed ≡ remove_entry (is_at (nat_cmp score)) new → removed ≡ h.rest
  removed_is removed e = e ∙ ap (remove_entry (is_at (nat_cmp score))) h.new_is ∙ remove_first score (score, q) h.rest refl

  pub pops_removed : (removed : List (ℕ × Queue)) → removed ≡ remove_entry (is_at (nat_cmp score)) new → q.items ≡ [] → Pops (waiting_in es) out (waiting_in removed)
  pops_removed removed e n =
      let same : waiting_in new ≡ waiting_in removed = ap waiting_in h.new_is ∙ ap (λ ids. map (waiting score) ids ++ waiting_in h.rest) n ∙ ap waiting_in (sym (removed_is removed e)) in
      subst (Pops (waiting_in es) out) same pops_left

  pub in_use_removed : (removed : List (ℕ × Queue)) → removed ≡ remove_entry (is_at (nat_cmp score)) new → AllInUse removed
  in_use_removed removed e = subst AllInUse (sym (removed_is removed e)) h.in_use

-- the queue's own count
pub empty_items : (q : Queue) → (q.len == 0) ≡ true → q.items ≡ []
empty_items q e = none q.items (omega (arith, q.ok.0, len_is q.len e))
  where
    len_is : (n : ℕ) → (n == 0) ≡ true → n ≡ 0
    len_is n e = grind (arith, nat_tests)

    none : (ids : List StateId) → length ids ≡ 0 → ids ≡ []
    none [] h = refl
    none (id ∷ ids) h = absurd (omega arith)

pub some_items : (q : Queue) → (q.len == 0) ≡ false → q.items ≢ []
some_items q e n = len_is q.len e (q.ok.0 ∙ ap length n)
  where
    len_is : (n : ℕ) → (n == 0) ≡ false → n ≡ 0 → ⊥
    len_is n e f = grind (arith, nat_tests)

-- nothing waits exactly if there is no queue
pub none_waits : (es : List (ℕ × Queue)) → AllInUse es → (es ≡ []) ↔ (waiting_in es ≡ [])
none_waits [] u = (λ e. refl, λ e. refl)
none_waits (e ∷ es) u = (λ h. absurd (cc h), λ h. absurd (some_wait e.0 e.1.items (waiting_in es) u.0 h))
  where
    some_wait : (k : ℕ) (ids : List StateId) (xs : List Waiting) → ids ≢ [] → map (waiting k) ids ++ xs ≡ [] → ⊥
    some_wait k [] xs n h = n refl
    some_wait k (id ∷ ids) xs n h = cc h

pub always_on_err : {T E P : Type 0} (r : Result T E) → P → OnErr r P
always_on_err (Ok x) p = tt
always_on_err (Err e) p = p

pub no_entries : (es : List (ℕ × Queue)) → length es ≡ 0 → es ≡ []
no_entries [] h = refl
no_entries (e ∷ es) h = absurd (omega arith)
