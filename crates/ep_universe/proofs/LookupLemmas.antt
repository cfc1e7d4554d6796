-- What is declared at a name, in lists one behind another and by its place.
use Rattle.std.proofs.Common.{◌≡◌, ℕ, suc, ◌+◌, ◌<◌, Bool, true, false, cond, ◌||◌, not, List, [], ◌∷◌, ◌++◌, Some, None, length, get_or, nat_lt, position, refl, ap, sym, ◌∙◌, arith}
use Rattle.std.specs.List.{position_or_len, list_any}
use Rattle.std.proofs.lemmas.Bool.Decides.{nat_tests}
use Rattle.ep_types.specs.Names.{Text, declared, is_text, is_among, names_of, values_of}

-- by cases on a test
pub by_bool : {P : Type 0} → (b : Bool) → (b ≡ true → P) → (b ≡ false → P) → P
by_bool true f g = f refl
by_bool false f g = g refl

pub declared-front : {V : Type 0} (x : Text) (v : V) (es fs : List (Text × V)) → declared x es ≡ Some v → declared x (es ++ fs) ≡ Some v
declared-front x v [] fs h = cc
declared-front x v (e ∷ es) fs h =
    by_bool (is_text x e.0)
    (λ k. ap (λ b. cond b (Some e.1) (declared x (es ++ fs))) k ∙ sym (ap (λ b. cond b (Some e.1) (declared x es)) k) ∙ h)
    (λ k. ap (λ b. cond b (Some e.1) (declared x (es ++ fs))) k ∙ declared-front x v es fs (sym (ap (λ b. cond b (Some e.1) (declared x es)) k) ∙ h))

some_none : {V : Type 0} (v : V) (P : Type 0) → Some v ≡ None → P
some_none v P h = absurd (cc)

pub declared-behind : {V : Type 0} (x : Text) (es fs : List (Text × V)) → declared x es ≡ None → declared x (es ++ fs) ≡ declared x fs
declared-behind x [] fs h = refl
declared-behind x (e ∷ es) fs h =
    by_bool (is_text x e.0)
    (λ k. some_none e.1 _ (sym (ap (λ b. cond b (Some e.1) (declared x es)) k) ∙ h))
    (λ k. ap (λ b. cond b (Some e.1) (declared x (es ++ fs))) k ∙ declared-behind x es fs (sym (ap (λ b. cond b (Some e.1) (declared x es)) k) ∙ h))

true_false : (P : Type 0) → true ≡ false → P
true_false P h = absurd (cc)

pub absent : {V : Type 0} (x : Text) (es : List (Text × V)) → is_among x (names_of es) ≡ false → declared x es ≡ None
absent x [] h = refl
absent x (e ∷ es) h =
    by_bool (is_text x e.0)
    (λ k. true_false _ (sym (ap (λ b. b || is_among x (names_of es)) k) ∙ h))
    (λ k. ap (λ b. cond b (Some e.1) (declared x es)) k ∙ absent x es (sym (ap (λ b. b || is_among x (names_of es)) k) ∙ h))

-- ---- places

place_here : {X : Type 0} (p : X → Bool) (x : X) (xs : List X) → p x ≡ true → position_or_len p (x ∷ xs) ≡ 0
place_here p x xs k = ap (λ b. cond (not b) (1 + position_or_len p xs) 0) k

place_later : {X : Type 0} (p : X → Bool) (x : X) (xs : List X) → p x ≡ false → position_or_len p (x ∷ xs) ≡ suc (position_or_len p xs)
place_later p x xs k = ap (λ b. cond (not b) (1 + position_or_len p xs) 0) k ∙ omega arith

pub place_or : {X : Type 0} (p : X → Bool) (xs : List X) → list_any p xs ≡ true → position_or_len p xs < length xs
place_or p [] h = cc
place_or p (x ∷ xs) h =
    by_bool (p x)
    (λ k. let e = place_here p x xs k in omega (arith, e))
    (λ k. let e = place_later p x xs k in let rest = place_or p xs (sym (ap (λ b. b || list_any p xs) k) ∙ h) in omega (arith, e, rest))

less : (i n : ℕ) → i < n → nat_lt i n ≡ true
less i n h = grind (arith, nat_tests)

-- where one passes there is a place
pub found : {X : Type 0} (p : X → Bool) (xs : List X) → list_any p xs ≡ true → position p xs ≡ Some (position_or_len p xs)
found p xs h = ap (λ b. cond b (Some (position_or_len p xs)) None) (less (position_or_len p xs) (length xs) (place_or p xs h))

-- a value at the first place with a name
pub record IsPlaced {V : Type 0} (x : Text) (v d : V) (es : List (Text × V)) : Type 0 where
  pub there : list_any (is_text x) (names_of es) ≡ true
  pub within : position_or_len (is_text x) (names_of es) < length es
  pub value : get_or (values_of es) (position_or_len (is_text x) (names_of es)) d ≡ v

pub some_same : {V : Type 0} (u v : V) → Some u ≡ Some v → u ≡ v
some_same u v h = cc

-- what is declared at a name stands at the first place with the name
pub at_place : {V : Type 0} (x : Text) (v d : V) (es : List (Text × V)) → declared x es ≡ Some v → IsPlaced x v d es
at_place x v d [] h = cc
at_place x v d (e ∷ es) h =
    by_bool (is_text x e.0)
    (λ k.
    let first = place_here (is_text x) e.0 (names_of es) k in
    record {
      there = ap (λ b. b || list_any (is_text x) (names_of es)) k;
      within = omega (arith, first);
      value = ap (λ n. get_or (values_of (e ∷ es)) n d) first ∙ some_same e.1 v (sym (ap (λ b. cond b (Some e.1) (declared x es)) k) ∙ h);
    })
    (λ k.
    let rest = at_place x v d es (sym (ap (λ b. cond b (Some e.1) (declared x es)) k) ∙ h) in
    let later = place_later (is_text x) e.0 (names_of es) k in
    record {
      there = ap (λ b. b || list_any (is_text x) (names_of es)) k ∙ rest.there;
      within = let w = rest.within in omega (arith, later, w);
      value = ap (λ n. get_or (values_of (e ∷ es)) n d) later ∙ rest.value;
    })
