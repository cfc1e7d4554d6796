-- Faults in an order, and what an answer says of them. This project's own.
use Rattle.std.specs.Prelude.{◌≡◌, ◌⊎◌, ℕ, Bool, nat_lt, if◌then◌else◌, List, [], ◌∷◌, Option, Some, None, MatchOption, Result, Ok, Err, MatchResult}

-- the first that is there
abbrev pub first_some : {X : Type 0} → List (Option X) → Option X
first_some [] = None
first_some (None ∷ os) = first_some os
first_some (Some x ∷ os) = Some x

-- the fault, where the test says so
abbrev pub when : {E : Type 0} → Bool → E → Option E
when b e = if b then Some e else None

-- the fault with the count, where it is past the limit
abbrev pub above : {E : Type 0} → ℕ → (ℕ → E) → ℕ → Option E
above limit fault count = when (nat_lt limit count) (fault count)

-- the error is want of memory, or it is such a fault
abbrev pub OrWant : {E : Type 0} → E → (E → Type 0) → E → Type 0
OrWant want IsFault e = (e ≡ want) ⊎ IsFault e

-- the error is want of memory, or it is the fault
abbrev pub Reports : {E : Type 0} → E → Option E → E → Type 0
Reports want fault = OrWant want (λ e. fault ≡ Some e)

-- no fault where the answer is Ok, and else the fault, or want of memory
abbrev pub IsJudged : {A E : Type 0} → E → Option E → Result A E → Type 0
IsJudged want fault result = MatchResult result (λ _. fault ≡ None) (Reports want fault)

-- the error is the fault where there is one, and else want of memory
abbrev pub IsRefusal : {E : Type 0} → E → Option E → E → Type 0
IsRefusal want fault e = MatchOption fault (e ≡ want) (λ f. e ≡ f)

-- exactly the fault where there is one, and else such a value, or want of memory
abbrev pub Answers : {A E : Type 0} → E → Option E → (A → Type 0) → Result A E → Type 0
Answers want fault IsValue result = MatchOption fault (MatchResult result IsValue (λ e. e ≡ want)) (λ e. result ≡ Err e)

-- the answer of a test that takes no memory
abbrev pub told : {E : Type 0} → Option E → Result (Unit {0}) E
told None = Ok tt
told (Some e) = Err e
