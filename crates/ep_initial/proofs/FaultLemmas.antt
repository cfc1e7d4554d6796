-- What an error tells.
use Rattle.std.proofs.Common.{◌≡◌, ℕ, ◌≤◌, Some, Result, Ok, Err, IfErr, refl, sym, subst, arith, nat_lt, false}
use Rattle.std.specs.Prelude.{IsErrAnd}
use Rattle.std.proofs.lemmas.Bool.Decides.{nat_tests}
use Rattle.ep_initial.specs.declared.fault.InitialError.{InitialError}
use Rattle.ep_initial.specs.declared.fault.InitialError.TheVariants.{NoDesignated}
use Rattle.ep_initial.specs.Faults.{fault_by}

within : (n limit : ℕ) → n ≤ limit → nat_lt limit n ≡ false
within n limit h = grind (arith, nat_tests)

-- no world is designated
pub no_designated : (varied worlds : ℕ) → varied ≤ 12 → worlds ≤ 256 → fault_by varied worlds 0 ≡ Some NoDesignated
no_designated varied worlds v w = rw (within varied 12 v, within worlds 256 w) refl

-- an error that is handed on
pub handed_on : {T : Type 0} (P : InitialError → Type 0) (r : Result T InitialError) (e : InitialError) → IsErrAnd r (λ y. y ≡ e) → P e → IfErr r P
handed_on P (Ok x) e h k = tt
handed_on P (Err y) e h k = subst P (sym h) k
