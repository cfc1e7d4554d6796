-- Printed names tell the declared name and the objects.
use Rattle.std.proofs.Common.{◌≡◌, ◌≢◌, ℕ, ◌<◌, length, map, get_or, List, [], ◌∷◌, ◌++◌, All, refl, ◌∙◌, sym, arith, inl, inr}
use Rattle.std.specs.Prelude.{AllPairs}
use Rattle.std.specs.List.{join_with_byte}
use Rattle.std.proofs.lemmas.List.{append_assoc, get_or-map, length-map}
use Rattle.std.proofs.lemmas.Bool.{cases_order}
use Rattle.std.proofs.lemmas.List.Elements.{All-head, All-tail, All-map, All-get_or}
use Rattle.ep_name.specs.Names.{printed, printed_at, IsPlain, IsPlainByte}

-- a mark is none of the bytes of a plain name
abbrev IsMark : ℕ → Type 0
IsMark a = (c : ℕ) → IsPlainByte c → c ≢ a

opens : IsMark 40
opens c p = p.0

closes : IsMark 41
closes c p = p.1

parts : IsMark 44
parts c p = p.2

-- where two plain names end at a mark, they are equal, and so are the marks and what follows
cut : (xs ys : List ℕ) (a b : ℕ) (us vs : List ℕ) → IsPlain xs → IsPlain ys → IsMark a → IsMark b →
    xs ++ a ∷ us ≡ ys ++ b ∷ vs → (xs ≡ ys) × (a ≡ b) × (us ≡ vs)
cut [] [] a b us vs p q h k e = (refl, cc, cc)
cut [] (y ∷ ys) a b us vs p q h k e = absurd (h y (All-head IsPlainByte y ys q) cc)
cut (x ∷ xs) [] a b us vs p q h k e = absurd (k x (All-head IsPlainByte x xs p) cc)
cut (x ∷ xs) (y ∷ ys) a b us vs p q h k e =
    let f : xs ++ a ∷ us ≡ ys ++ b ∷ vs = cc in
    let g : x ≡ y = cc in
    let r = cut xs ys a b us vs (All-tail IsPlainByte x xs p) (All-tail IsPlainByte y ys q) h k f in
    ((λ i. g i ∷ r.0 i), r.1, r.2)

-- a plain name has no mark
no_mark : (xs ys : List ℕ) (a : ℕ) (us : List ℕ) → IsPlain xs → IsMark a → xs ≡ ys ++ a ∷ us → ⊥
no_mark [] [] a us p h e = cc
no_mark [] (y ∷ ys) a us p h e = cc
no_mark (x ∷ xs) [] a us p h e = h x (All-head IsPlainByte x xs p) cc
no_mark (x ∷ xs) (y ∷ ys) a us p h e = no_mark xs ys a us (All-tail IsPlainByte x xs p) h cc

-- the names with ',' between them, and ')' at the end
closed : List ℕ → List (List ℕ) → List ℕ
closed o os = join_with_byte 44 (o ∷ os) ++ 41 ∷ []

closed-more : (o p : List ℕ) (os : List (List ℕ)) → closed o (p ∷ os) ≡ o ++ 44 ∷ closed p os
unfolding closed
closed-more o p os = append_assoc o (44 ∷ join_with_byte 44 (p ∷ os)) (41 ∷ [])

closed-one : (o : List ℕ) → closed o [] ≡ o ++ 41 ∷ []
unfolding closed
closed-one o = refl

printed-some : (n o : List ℕ) (os : List (List ℕ)) → printed n (o ∷ os) ≡ n ++ 40 ∷ closed o os
unfolding closed
printed-some n o os = append_assoc n (40 ∷ join_with_byte 44 (o ∷ os)) (41 ∷ [])

abbrev Same : ℕ → ℕ → Type 0
Same a b = a ≡ b

other : Same 41 44 → ⊥
other e = omega arith

cons-both : {X : Type 0} (x y : X) (xs ys : List X) → x ≡ y → xs ≡ ys → x ∷ xs ≡ y ∷ ys
cons-both x y xs ys e f = λ i. e i ∷ f i

closed-tells : (o p : List ℕ) (os ps : List (List ℕ)) → IsPlain o → IsPlain p → All IsPlain os → All IsPlain ps →
    closed o os ≡ closed p ps → o ∷ os ≡ p ∷ ps
closed-tells o p [] [] a b h k e =
    cons-both o p [] [] (cut o p 41 41 [] [] a b closes closes (sym (closed-one o) ∙ e ∙ closed-one p)).0 refl
closed-tells o p [] (q ∷ ps) a b h k e =
    absurd (other (cut o p 41 44 [] (closed q ps) a b closes parts (sym (closed-one o) ∙ e ∙ closed-more p q ps)).1)
closed-tells o p (q ∷ os) [] a b h k e =
    absurd (other (sym (cut o p 44 41 (closed q os) [] a b parts closes (sym (closed-more o q os) ∙ e ∙ closed-one p)).1))
closed-tells o p (q ∷ os) (r ∷ ps) a b h k e =
    let s = cut o p 44 44 (closed q os) (closed r ps) a b parts parts (sym (closed-more o q os) ∙ e ∙ closed-more p r ps) in
    cons-both o p (q ∷ os) (r ∷ ps) s.0
    (closed-tells q r os ps (All-head IsPlain q os h) (All-head IsPlain r ps k) (All-tail IsPlain q os h) (All-tail IsPlain r ps k) s.2)

pub printed-tells : (n m : List ℕ) (os ps : List (List ℕ)) → IsPlain n → IsPlain m → All IsPlain os → All IsPlain ps →
    printed n os ≡ printed m ps → (n ≡ m) × (os ≡ ps)
printed-tells n m [] [] a b h k e = (e, refl)
printed-tells n m [] (p ∷ ps) a b h k e = absurd (no_mark n m 40 (closed p ps) a opens (e ∙ printed-some m p ps))
printed-tells n m (o ∷ os) [] a b h k e = absurd (no_mark m n 40 (closed o os) b opens (sym e ∙ printed-some n o os))
printed-tells n m (o ∷ os) (p ∷ ps) a b h k e =
    let r = cut n m 40 40 (closed o os) (closed p ps) a b opens opens (sym (printed-some n o os) ∙ e ∙ printed-some m p ps) in
    (r.0, closed-tells o p os ps (All-head IsPlain o os h) (All-head IsPlain p ps k) (All-tail IsPlain o os h) (All-tail IsPlain p ps k) r.2)

-- one declared name with different objects
module _ (names : List (List ℕ)) (plain : All IsPlain names) (apart : AllPairs (λ x y. x ≢ y) names) where
  abbrev InRange : List ℕ → Type 0
  InRange b = All (λ o. o < length names) b

  abbrev name_at : ℕ → List ℕ
  name_at o = get_or names o []

  plain-names : (b : List ℕ) → InRange b → All IsPlain (map name_at b)
  plain-names b h =
      All-map IsPlain name_at b (λ k d l. All-get_or IsPlain names (get_or b k d) [] (All-get_or (λ o. o < length names) b k d l h) plain)

  same-object : (o p : ℕ) → o < length names → p < length names → name_at o ≡ name_at p → o ≡ p
  same-object o p h k e = elim (cases_order o p) [
    | inl same ↦ same
    | inr (inl below) ↦ absurd (apart o p [] below k e)
    | inr (inr above) ↦ absurd (apart p o [] above h (sym e))
  ]

  same-objects : (a b : List ℕ) → InRange a → InRange b → map name_at a ≡ map name_at b → a ≡ b
  same-objects [] [] h k e = refl
  same-objects [] (p ∷ b) h k e = cc
  same-objects (o ∷ a) [] h k e = cc
  same-objects (o ∷ a) (p ∷ b) h k e =
      cons-both o p a b
      (same-object o p (All-head (λ o. o < length names) o a h) (All-head (λ o. o < length names) p b k) cc)
      (same-objects a b (All-tail (λ o. o < length names) o a h) (All-tail (λ o. o < length names) p b k) cc)

  pub printed-apart : (name : List ℕ) (bs : List (List ℕ)) → IsPlain name → All (λ b. All (λ o. o < length names) b) bs →
      AllPairs (λ a b. a ≢ b) bs → AllPairs (λ x y. x ≢ y) (map (printed_at name names) bs)
  printed-apart name bs n h k i j d below within e =
      let long = length-map bs (printed_at name names) in
      let a = get_or bs i [] in
      let b = get_or bs j [] in
      let same : printed_at name names a ≡ printed_at name names b =
      sym (get_or-map (printed_at name names) bs i [] d (omega arith)) ∙ e ∙ get_or-map (printed_at name names) bs j [] d (omega arith) in
      let at_i : InRange a = All-get_or InRange bs i [] (omega arith) h in
      let at_j : InRange b = All-get_or InRange bs j [] (omega arith) h in
      let told = printed-tells name name (map name_at a) (map name_at b) n n (plain-names a at_i) (plain-names b at_j) same in
      k i j [] below (omega arith) (same-objects a b at_i at_j told.1)
