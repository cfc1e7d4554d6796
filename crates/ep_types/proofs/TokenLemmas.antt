-- What stands at the tokens of a tree that is read, stands there in their order.
use Rattle.std.proofs.Common.{◌≡◌, ℕ, ◌+◌, ◌<◌, ◌≤◌, List, [], ◌∷◌, ◌++◌, Option, Some, None, All, length, map, sym, subst, arith, append_assoc, length-append}
use Rattle.std.specs.List.{flat_map}
use Rattle.std.proofs.lemmas.List.Elements.{All-nil, All-cons, All-append, All-weaker}
use Rattle.ep_binding.proofs.CallerLemmas.{pairs-append, pairs-nil}
use Rattle.ep_types.specs.Places.{Place, Use, Uses, nothing, one, both, at, each}
use Rattle.ep_types.specs.Laws.{in_order, Rise}
use Rattle.ep_tree.specs.declared.terminal.Terminal.{Terminal}
use Rattle.ep_tree.specs.declared.tree.Name.{Name}
use Rattle.ep_tree.specs.Marks.{Mark, PlacedFrom, fixed, named}
use Rattle.ep_tree.specs.Spelling as spell
use Rattle.ep_tree.specs.declared.terminal.Terminal.TheVariants as the

-- ---- from one token on and below another, in rising order

abbrev pub Lies : Uses → ℕ → ℕ → Type 0
Lies nothing p q = p ≤ q
Lies (one u) p q = (p ≤ u.token) × (u.token < q)
Lies (both us vs) p q = (m : ℕ) × Lies us p m × Lies vs m q

forward : (us : Uses) (p q : ℕ) → Lies us p q → p ≤ q
forward nothing p q h = h
forward (one u) p q h = omega (arith, h.0, h.1)
forward (both us vs) p q (m, a, b) = let k = forward us p m a in let l = forward vs m q b in omega arith

wider : (us : Uses) (o p q r : ℕ) → o ≤ p → q ≤ r → Lies us p q → Lies us o r
wider nothing o p q r k l h = omega arith
wider (one u) o p q r k l h = (omega (arith, h.0), omega (arith, h.1))
wider (both us vs) o p q r k l (m, a, b) = (m, wider us o p m m k (omega arith) a, wider vs m m q r (omega arith) l b)

abbrev IsBetween : ℕ → ℕ → Use → Type 0
IsBetween p q u = (p ≤ u.token) × (u.token < q)

between : (us : Uses) (p q : ℕ) → Lies us p q → All (IsBetween p q) (in_order us)
between nothing p q h = All-nil (IsBetween p q)
between (one u) p q h = All-cons (IsBetween p q) u [] h (All-nil (IsBetween p q))
between (both us vs) p q (m, a, b) =
    let k = forward us p m a in
    let l = forward vs m q b in
    All-append (IsBetween p q) (in_order us) (in_order vs)
    (All-weaker (IsBetween p m) (IsBetween p q) (λ u h. (h.0, omega (arith, h.1, l))) (in_order us) (between us p m a))
    (All-weaker (IsBetween m q) (IsBetween p q) (λ u h. (omega (arith, h.0, k), h.1)) (in_order vs) (between vs m q b))

pub rises : (us : Uses) (p q : ℕ) → Lies us p q → Rise (in_order us)
rises nothing p q h = pairs-nil (λ (u v : Use). u.token < v.token)
rises (one u) p q h = λ i j d k l. absurd (omega arith)
rises (both us vs) p q (m, a, b) =
    pairs-append (λ (u v : Use). u.token < v.token) (in_order us) (in_order vs) (rises us p m a) (rises vs m q b)
    (All-weaker (IsBetween p m) (λ u. All (λ (v : Use). u.token < v.token) (in_order vs))
    (λ u h. All-weaker (IsBetween m q) (λ (v : Use). u.token < v.token) (λ v k. omega (arith, h.1, k.0)) (in_order vs) (between vs m q b))
    (in_order us) (between us p m a))

-- ---- uses that stand at the tokens of a spelling, in their order

abbrev pub Follows : Uses → List Mark → Type 0
Follows us ms = (p : ℕ) → PlacedFrom p ms → Lies us p (p + length ms)

placed_left : (xs ys : List Mark) (p : ℕ) → PlacedFrom p (xs ++ ys) → PlacedFrom p xs
placed_left [] ys p h = tt
placed_left (x ∷ xs) ys p h = (h.0, placed_left xs ys (p + 1) h.1)

placed_right : (xs ys : List Mark) (p : ℕ) → PlacedFrom p (xs ++ ys) → PlacedFrom (p + length xs) ys
placed_right [] ys p h = let e : p ≡ p + length {A = Mark} [] = omega arith in subst (λ q. PlacedFrom q ys) e h
placed_right (x ∷ xs) ys p h =
    let e : p + 1 + length xs ≡ p + length (x ∷ xs) = omega arith in
    subst (λ q. PlacedFrom q ys) e (placed_right xs ys (p + 1) h.1)

pub none : (ms : List Mark) → Follows nothing ms
none ms p h = omega arith

pub joined : (us vs : Uses) (xs ys : List Mark) → Follows us xs → Follows vs ys → Follows (both us vs) (xs ++ ys)
joined us vs xs ys f g p h =
    let long = length-append xs ys in
    let e : p + length xs + length ys ≡ p + length (xs ++ ys) = omega arith in
    (p + length xs, f p (placed_left xs ys p h), subst (λ q. Lies vs (p + length xs) q) e (g (p + length xs) (placed_right xs ys p h)))

pub before : (us : Uses) (xs ys : List Mark) → Follows us xs → Follows us (xs ++ ys)
before us xs ys f p h = let long = length-append xs ys in wider us p p (p + length xs) (p + length (xs ++ ys)) (omega arith) (omega arith) (f p (placed_left xs ys p h))

pub behind : (us : Uses) (xs ys : List Mark) → Follows us ys → Follows us (xs ++ ys)
behind us xs ys f p h =
    let long = length-append xs ys in
    wider us p (p + length xs) (p + length xs + length ys) (p + length (xs ++ ys)) (omega arith) (omega arith) (f (p + length xs) (placed_right xs ys p h))

pub skip : (us : Uses) (m : Mark) (ms : List Mark) → Follows us ms → Follows us (m ∷ ms)
skip us m ms f = behind us (m ∷ []) ms f

pub regrouped : (us : Uses) (xs ys zs : List Mark) → Follows us (xs ++ (ys ++ zs)) → Follows us ((xs ++ ys) ++ zs)
regrouped us xs ys zs f = subst (Follows us) (sym (append_assoc xs ys zs)) f

-- a token that the tree holds
pub held_one : (t : ℕ) (pl : Place) (text : List ℕ) (nesting : Option ℕ) → Follows (at t pl) (record { number = Some t; text = text; nesting = nesting } ∷ [])
held_one t pl text nesting p h = let e : t ≡ p = h.0 in (omega (arith, e), omega (arith, e))

pub first : (t : ℕ) (pl : Place) (text : List ℕ) (nesting : Option ℕ) (us : Uses) (ms : List Mark) → Follows us ms → Follows (both (at t pl) us) (record { number = Some t; text = text; nesting = nesting } ∷ ms)
first t pl text nesting us ms f = joined (at t pl) us (record { number = Some t; text = text; nesting = nesting } ∷ []) ms (held_one t pl text nesting) f

pub first_name : (x : Name) (pl : Place) (us : Uses) (ms : List Mark) → Follows us ms → Follows (both (at x.token pl) us) (named x ∷ ms)
first_name x pl us ms f = first x.token pl x.text None us ms f

pub in_braces : (us : Uses) (ms : List Mark) → Follows us ms → Follows us (spell.braced ms)
in_braces us ms f = skip us (fixed the.OpenBrace) (ms ++ fixed the.CloseBrace ∷ []) (before us ms (fixed the.CloseBrace ∷ []) f)

-- ---- lists

module _ {X : Type 0} (u : X → Uses) (f : X → List Mark) (h : (x : X) → Follows (u x) (f x)) where
  pub each_of : (xs : List X) → Follows (each u xs) (flat_map f xs)
  each_of [] = none []
  each_of (x ∷ xs) = joined (u x) (each u xs) (f x) (flat_map f xs) (h x) (each_of xs)

  each_behind : (t : Terminal) (xs : List X) → Follows (each u xs) (spell.behind t (map f xs))
  each_behind t [] = none []
  each_behind t (x ∷ xs) = skip (each u (x ∷ xs)) (fixed t) (f x ++ spell.behind t (map f xs)) (joined (u x) (each u xs) (f x) (spell.behind t (map f xs)) (h x) (each_behind t xs))

  pub each_between : (t : Terminal) (xs : List X) → Follows (each u xs) (spell.between t (map f xs))
  each_between t [] = none []
  each_between t (x ∷ xs) = joined (u x) (each u xs) (f x) (spell.behind t (map f xs)) (h x) (each_behind t xs)

-- names, each at its place
pub each_name : (pl : Name → Place) (xs : List Name) → Follows (each (λ x. at x.token (pl x)) xs) (spell.names xs)
each_name pl xs = each_between (λ x. at x.token (pl x)) (λ x. named x ∷ []) (λ x. held_one x.token (pl x) x.text None) the.Comma xs
