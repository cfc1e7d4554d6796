-- The first fault in order.
use Rattle.std.proofs.Common.{◌≡◌, ℕ, zero, suc, ◌<◌, inl, inr, All, subst, arith, List, [], ◌∷◌, ◌++◌, Option, Some, None, refl, ap, sym, ◌∙◌, append_assoc}
use Rattle.std.specs.Option.{option_or}
use Rattle.std.specs.Prelude.{Contains}
use Rattle.std.proofs.lemmas.List.Elements.{All-contains, Contains-append_cases}
use Rattle.ep_binding.proofs.CallerLemmas.{pairs-head, pairs-tail}
use Rattle.ep_types.specs.Places.{Use, Uses, nothing, one, both}
use Rattle.ep_types.specs.Faults.{fault_at, first_fault, located}
use Rattle.ep_types.specs.Laws.{in_order, HaveNone, IsFirst, TellsFirst, TellsNone, Rise, FirstIsLeast}
use Rattle.ep_types.specs.declared.fault.TypeFault.{TypeFault}

none-append : (us vs : List Use) → HaveNone us → HaveNone vs → HaveNone (us ++ vs)
none-append [] vs h k = k
none-append (u ∷ us) vs h k = (h.0, none-append us vs h.1 k)

located-none : (t : ℕ) (o : Option TypeFault) → located t o ≡ None → o ≡ None
located-none t None h = refl
located-none t (Some f) h = cc

located-some : (t : ℕ) (o : Option TypeFault) (f : TypeFault) (s : ℕ) → located t o ≡ Some (f, s) → (o ≡ Some f) × (t ≡ s)
located-some t None f s h = cc
located-some t (Some g) f s h =
    let p : ◌≡◌ {A = TypeFault × ℕ} (g, t) (f, s) = cc in (ap (λ (q : TypeFault × ℕ). Some q.0) p, ap (λ (q : TypeFault × ℕ). q.1) p)

else-none : (o p : Option (TypeFault × ℕ)) → option_or o p ≡ None → (o ≡ None) × (p ≡ None)
else-none None p h = (refl, h)
else-none (Some x) p h = cc

pub tells_none : TellsNone
tells_none nothing h = tt
tells_none (one u) h = (located-none u.token (fault_at u) h, tt)
tells_none (both us vs) h =
    let p = else-none (first_fault us) (first_fault vs) h in
    none-append (in_order us) (in_order vs) (tells_none us p.0) (tells_none vs p.1)

first-front : (us vs : List Use) (f : TypeFault) (t : ℕ) → IsFirst us f t → IsFirst (us ++ vs) f t
first-front us vs f t r = record {
  before = r.before;
  here = r.here;
  after = r.after ++ vs;
  is = ap (λ z. z ++ vs) r.is ∙ append_assoc r.before (r.here ∷ r.after) vs;
  none_before = r.none_before;
  fault = r.fault;
  token = r.token;
}

first-behind : (us vs : List Use) (f : TypeFault) (t : ℕ) → HaveNone us → IsFirst vs f t → IsFirst (us ++ vs) f t
first-behind us vs f t n r = record {
  before = us ++ r.before;
  here = r.here;
  after = r.after;
  is = ap (λ z. us ++ z) r.is ∙ sym (append_assoc us r.before (r.here ∷ r.after));
  none_before = none-append us r.before n r.none_before;
  fault = r.fault;
  token = r.token;
}

by_front : (us vs : Uses) (f : TypeFault) (t : ℕ) → ((g : TypeFault) (s : ℕ) → first_fault us ≡ Some (g, s) → IsFirst (in_order us) g s) → (first_fault vs ≡ Some (f, t) → IsFirst (in_order vs) f t) → (o : Option (TypeFault × ℕ)) → first_fault us ≡ o → option_or o (first_fault vs) ≡ Some (f, t) → IsFirst (in_order us ++ in_order vs) f t
by_front us vs f t i j None e h = first-behind (in_order us) (in_order vs) f t (tells_none us e) (j h)
by_front us vs f t i j (Some p) e h = first-front (in_order us) (in_order vs) f t (i f t (e ∙ h))

pub tells_first : TellsFirst
tells_first nothing f t h = cc
tells_first (one u) f t h =
    let p = located-some u.token (fault_at u) f t h in
    record { before = []; here = u; after = []; is = refl; none_before = tt; fault = p.0; token = p.1 }
tells_first (both us vs) f t h =
    by_front us vs f t (λ g s k. tells_first us g s k) (λ k. tells_first vs f t k) (first_fault us) refl h

-- ---- the least token

none-at : (us : List Use) (u : Use) → HaveNone us → Contains us u → fault_at u ≡ None
none-at [] u h (k, l, e) = absurd (omega arith)
none-at (v ∷ us) u h (zero, l, e) = ap fault_at (sym e) ∙ h.0
none-at (v ∷ us) u h (suc k, l, e) = none-at us u h.1 (k, omega arith, e)

-- those behind one have greater numbers
rise-behind : (us : List Use) (u : Use) (vs : List Use) → Rise (us ++ u ∷ vs) → All (λ (v : Use). u.token < v.token) vs
rise-behind [] u vs h = pairs-head (λ (u v : Use). u.token < v.token) u vs h
rise-behind (w ∷ us) u vs h = rise-behind us u vs (pairs-tail (λ (u v : Use). u.token < v.token) w (us ++ u ∷ vs) h)

pub first_least : FirstIsLeast
first_least us f t rise h u m l =
    let r = tells_first us f t h in
    elim (Contains-append_cases r.before (r.here ∷ r.after) u (subst (λ z. Contains z u) r.is m)) [
      | inl k ↦ none-at r.before u r.none_before k
      | inr k ↦ absurd (here_or_behind r.here r.after k r.token (rise-behind r.before r.here r.after (subst Rise r.is rise)))
    ]
  where
    here_or_behind : (v : Use) (vs : List Use) → Contains (v ∷ vs) u → v.token ≡ t → All (λ (w : Use). v.token < w.token) vs → ⊥
    here_or_behind v vs (zero, i, e) is after = let same = ap (λ (w : Use). w.token) e in omega arith
    here_or_behind v vs (suc k, i, e) is after =
        let more = All-contains (λ (w : Use). v.token < w.token) vs u after (k, omega arith, e) in omega arith
