-- Entries of a map, and their texts.
use Rattle.std.proofs.Common.{◌≡◌, ℕ, zero, suc, Bool, true, false, cond, not, ◌+◌, ◌||◌, List, [], ◌∷◌, ◌++◌, Option, Some, None, slice_get, take, length, position, refl, ap, sym, ◌∙◌, is_some, nat_lt}
use Rattle.std.specs.Global.{Vec}
use Rattle.std.specs.Prelude.{nat_eq}
use Rattle.std.specs.Cmp.Lexicographic.{pointwise}
use Rattle.std.specs.List.{position_or_len}
use Rattle.std.specs.Option.{option_map}
use Rattle.std.specs.Map.{lookup, keys_of}
use Rattle.ep_types.specs.Names.{Text, declared, seen, is_text, is_among, names_of, values_of}

pub lookup-seen : {V : Type 0} (q : Text) (es : List (Vec ℕ × V)) → lookup (λ k. pointwise nat_eq q k.items) es ≡ declared q (seen es)
lookup-seen q [] = refl
lookup-seen q (e ∷ es) = ap (cond (pointwise nat_eq q e.0.items) (Some e.1)) (lookup-seen q es)

pub seen-append : {V : Type 0} (ds es : List (Vec ℕ × V)) → seen (ds ++ es) ≡ seen ds ++ seen es
seen-append [] es = refl
seen-append (d ∷ ds) es = ap (λ z. (d.0.items, d.1) ∷ z) (seen-append ds es)

pub seen-take : {V : Type 0} (n : ℕ) (es : List (Vec ℕ × V)) → seen (take n es) ≡ take n (seen es)
seen-take zero es = refl
seen-take (suc n) [] = refl
seen-take (suc n) (e ∷ es) = ap (λ z. (e.0.items, e.1) ∷ z) (seen-take n es)

among_step : {V : Type 0} (b c : Bool) (v : V) (o : Option V) → is_some o ≡ c → is_some (cond b (Some v) o) ≡ (b || c)
among_step true c v o h = refl
among_step false c v o h = h

-- a name is in the list exactly where something is declared at it
pub declared-among : {V : Type 0} (q : Text) (es : List (Text × V)) → is_some (declared q es) ≡ is_among q (names_of es)
declared-among q [] = refl
declared-among q (e ∷ es) = among_step (is_text q e.0) (is_among q (names_of es)) e.1 (declared q es) (declared-among q es)

none_here : {V : Type 0} (o : Option V) → is_some o ≡ false → o ≡ None
none_here None h = refl
none_here (Some v) h = cc

pub declared-absent : {V : Type 0} (q : Text) (es : List (Text × V)) → is_among q (names_of es) ≡ false → declared q es ≡ None
declared-absent q es h = none_here (declared q es) (declared-among q es ∙ h)

pub absent_among : {V : Type 0} (q : Text) (es : List (Text × V)) → declared q es ≡ None → is_among q (names_of es) ≡ false
absent_among q es h = sym (declared-among q es) ∙ ap is_some h

-- the name and the value with a number
pub names-seen : {V : Type 0} (es : List (Vec ℕ × V)) (k : ℕ) → slice_get (names_of (seen es)) k ≡ option_map (λ e. e.0.items) (slice_get es k)
names-seen [] k = refl
names-seen (e ∷ es) zero = refl
names-seen (e ∷ es) (suc k) = names-seen es k

pub values-seen : {V : Type 0} (es : List (Vec ℕ × V)) (k : ℕ) → slice_get (values_of (seen es)) k ≡ option_map (λ e. e.1) (slice_get es k)
values-seen [] k = refl
values-seen (e ∷ es) zero = refl
values-seen (e ∷ es) (suc k) = values-seen es k

place_or_len-seen : {V : Type 0} (q : Text) (es : List (Vec ℕ × V)) → position_or_len (λ k. pointwise nat_eq q k.items) (keys_of es) ≡ position_or_len (is_text q) (names_of (seen es))
place_or_len-seen q [] = refl
place_or_len-seen q (e ∷ es) = ap (λ n. cond (not (pointwise nat_eq q e.0.items)) (1 + n) 0) (place_or_len-seen q es)

length-seen : {V : Type 0} (es : List (Vec ℕ × V)) → length (keys_of es) ≡ length (names_of (seen es))
length-seen [] = refl
length-seen (e ∷ es) = ap suc (length-seen es)

found : ℕ → ℕ → Option ℕ
found n m = cond (nat_lt n m) (Some n) None

pub position-seen : {V : Type 0} (q : Text) (es : List (Vec ℕ × V)) → position (λ k. pointwise nat_eq q k.items) (keys_of es) ≡ position (is_text q) (names_of (seen es))
unfolding found
position-seen q es =
    ap (λ n. found n (length (keys_of es))) (place_or_len-seen q es)
    ∙ ap (found (position_or_len (is_text q) (names_of (seen es)))) (length-seen es)
