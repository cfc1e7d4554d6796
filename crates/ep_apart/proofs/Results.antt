-- What a result says, when its value says more.
use Rattle.std.proofs.Common.{◌≡◌, ℕ, List, Result, Ok, Err, IfOk, OnOk, All, subst}
use Rattle.std.specs.List.{AllByRecursion}
use Rattle.ep_theory.specs.Rising.{IsIn}
use Rattle.ep_theory.proofs.CallerLemmas.{All-from_each, Contains-from_in}

pub if_ok : {X Y : Type 0} (r : Result X Y) (P Q : X → Type 0) → ((x : X) → P x → Q x) → IfOk r P → IfOk r Q
if_ok (Ok x) P Q f h = f x h
if_ok (Err e) P Q f h = tt

pub if_ok_both : {X Y : Type 0} (r : Result X Y) (P Q R : X → Type 0) → ((x : X) → P x → Q x → R x) → IfOk r P → IfOk r Q → IfOk r R
if_ok_both (Ok x) P Q R f h g = f x h g
if_ok_both (Err e) P Q R f h g = tt

pub on_ok : {X Y : Type 0} (r : Result X Y) (P : X → Type 0) (R : Type 0) → ((x : X) → P x → R) → IfOk r P → OnOk r R
on_ok (Ok x) P R f h = f x h
on_ok (Err e) P R f h = tt

pub in_all : (P : ℕ → Type 0) (xs : List ℕ) → All P xs → (x : ℕ) → IsIn x xs → P x
in_all P xs h x i = let m = Contains-from_in x xs i in subst P m.2 (h m.0 x m.1)

pub from_all : (P : ℕ → Type 0) (xs : List ℕ) → All P xs → AllByRecursion P xs
from_all P xs h = All-from_each P xs (in_all P xs h)

-- a result that is another's value
pub from_answer : {X Y Z : Type 0} (r : Result X Y) (a : Result X Z) (P Q : X → Type 0) → ((x : X) → P x → Q x) → IfOk r (λ x. a ≡ Ok x) → IfOk a P → IfOk r Q
from_answer (Ok x) a P Q f e h = f x (subst (λ (b : Result _ _). IfOk b P) e h)
from_answer (Err y) a P Q f e h = tt

pub always_ok : {X Y : Type 0} (r : Result X Y) (R : Type 0) → R → OnOk r R
always_ok (Ok x) R h = h
always_ok (Err y) R h = tt
