-- What it says that no fault is there.
use Rattle.std.proofs.Common.{◌≡◌, ℕ, ◌≤◌, Bool, true, false, nat_lt, List, ◌∷◌, Option, Some, None, Result, Ok, Err, option_map, refl, sym, arith, inl, inr}
use Rattle.std.proofs.lemmas.Bool.Decides.{nat_tests}
use Rattle.std.proofs.lemmas.Option.{none-some}
use Rattle.ep_base.specs.Refusals.{first_some, when, above, OrWant, Reports, told}

pub none_first : {X : Type 0} (o : Option X) (os : List (Option X)) → first_some (o ∷ os) ≡ None → (o ≡ None) × (first_some os ≡ None)
none_first (Some x) os h = absurd (none-some x (sym h))
none_first None os h = (refl, h)

pub not_when : {E : Type 0} (b : Bool) (e : E) → when b e ≡ None → b ≡ false
not_when true e h = absurd (none-some e (sym h))
not_when false e h = refl

pub not_above : {E : Type 0} (limit : ℕ) (f : ℕ → E) (n : ℕ) → above limit f n ≡ None → n ≤ limit
not_above limit f n h = let below = not_when (nat_lt limit n) (f n) h in grind (arith, nat_tests)

pub no_place : {X Y : Type 0} (f : X → Y) (o : Option X) → option_map f o ≡ None → o ≡ None
no_place f (Some x) h = absurd (none-some (f x) (sym h))
no_place f None h = refl

-- what is told of a part is told of the whole
pub reports_whole : {E : Type 0} (want : E) (part whole : Option E) (e : E) → (part ≡ Some e → whole ≡ Some e) → Reports want part e → Reports want whole e
reports_whole want part whole e f (inl h) = inl h
reports_whole want part whole e f (inr h) = inr (f h)

-- an error that is not want of memory has the fault
pub or_fault : {E : Type 0} (want : E) (IsFault : E → Type 0) (e : E) → (e ≡ want → ⊥) → OrWant want IsFault e → IsFault e
or_fault want IsFault e other (inl h) = absurd (other h)
or_fault want IsFault e other (inr h) = h

-- what a test without memory says of its fault
pub told_none : {E : Type 0} (fault : Option E) (u : Unit {0}) → Ok u ≡ told fault → fault ≡ None
told_none None u h = refl
told_none (Some e) u h = cc

pub told_some : {E : Type 0} (fault : Option E) (e : E) → Err e ≡ told fault → fault ≡ Some e
told_some None e h = cc
told_some (Some x) e h = cc
