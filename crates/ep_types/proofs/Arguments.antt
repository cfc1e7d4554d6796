-- Arguments and their types, side by side.
use Rattle.std.proofs.Common.{◌≡◌, ℕ, ◌+◌, ◌<◌, List, length, drop, get_or, Option, Some, None, option_map, Err, refl, add-one, drop-cons}
use Rattle.ep_types.specs.Names.{Text}
use Rattle.ep_types.specs.Places.{Scope, Argument, Uses, both, at}
use Rattle.std.specs.Option.{option_or}
use Rattle.ep_base.specs.Refusals.{told}
use Rattle.ep_types.specs.Faults.{error_at, first_error, first_fault}
use Rattle.ep_types.specs.Uses.{argument_uses}
use Rattle.ep_types.specs.declared.fault.TypeFault.{TypeFault}
use Rattle.ep_types.specs.declared.fault.TypeError.{TypeError}
use Rattle.ep_tree.specs.declared.tree.Name.{Name}

pub arguments_left : (xs : List Name) (kinds : List Text) (i : ℕ) (x : Name) (kind : Text) (s : Scope) → i < length xs → i < length kinds → x ≡ get_or xs i x → kind ≡ get_or kinds i kind
    → argument_uses (drop i xs) (drop i kinds) s ≡ both (at x.token (Argument x.text kind s)) (argument_uses (drop (i + 1) xs) (drop (i + 1) kinds) s)
arguments_left xs kinds i x kind s h k e f =
    rw (add-one, drop-cons xs i x h, drop-cons kinds i kind k, ← e, ← f) refl

first_told : (o p : Option (TypeFault × ℕ)) (e : TypeError) → told (option_map error_at o) ≡ Err e → told (option_map error_at (option_or o p)) ≡ Err e
first_told None p e h = cc
first_told (Some q) p e h = h

-- a fault at the front is the first
pub told_front : (us vs : Uses) (e : TypeError) → told (first_error us) ≡ Err e → told (first_error (both us vs)) ≡ Err e
told_front us vs e h = first_told (first_fault us) (first_fault vs) e h
