-- Entries of a map whose keys are the bytes of their states.
use Rattle.std.proofs.Common.{◌≡◌, ℕ, zero, suc, ◌<◌, true, false, List, [], ◌∷◌, length, get_or, position, slice_get, Vec, Some, None, refl, sym, ap, subst, ◌∙◌, arith}
use Rattle.std.specs.declared.alloc.Global.{Global}
use Rattle.std.specs.List.{AllByRecursion}
use Rattle.std.specs.Map.{lookup, keys_of, values_of}
use Rattle.std.proofs.lemmas.Bool.{false≢true, false_from_ne_true}
use Rattle.std.proofs.lemmas.List.{get_or-map}
use Rattle.std.proofs.lemmas.List.Quantifiers.{position-Some}
use Rattle.std.proofs.lemmas.Map.{lookup-none, none_passes_from_lookup}
use Rattle.std.proofs.lemmas.Option.{same_Some, none-some, slice_get-get_or}
use Rattle.std.proofs.lemmas.Slice.Eq.{bytes_eq-Decides}
use Rattle.ep_theory.specs.Kripke.{Kripke, IsState}
use Rattle.ep_bytes.specs.Bytes.{bytes_of}
use Rattle.ep_bytes.proofs.CallerLemmas.{same_bytes}
use Rattle.ep_store.specs.declared.entry.Entry.{Entry}
use Rattle.ep_store.specs.Stored.{Has, Lacks}
use Rattle.ep_store.specs.Inside.{IsKeyed, is_key}

abbrev pub Pair : Type 0
Pair = Vec ℕ Global × Entry

pub value_at : (ps : List Pair) (i : ℕ) (p : Pair) → slice_get ps i ≡ Some p → slice_get (values_of ps) i ≡ Some p.1
value_at [] i p h = absurd (none-some p h)
value_at (q ∷ ps) zero p h = ap (λ (r : Pair). Some r.1) (same_Some q p h)
value_at (q ∷ ps) (suc i) p h = value_at ps i p h

-- the pair that a value is of
pub pair_at : (ps : List Pair) (i : ℕ) (e : Entry) → slice_get (values_of ps) i ≡ Some e → (p : Pair) × (slice_get ps i ≡ Some p) × (p.1 ≡ e)
pair_at [] i e h = absurd (none-some e h)
pair_at (q ∷ ps) zero e h = (q, refl, same_Some q.1 e h)
pair_at (q ∷ ps) (suc i) e h = pair_at ps i e h

each_place : {A : Type 0} (P : A → Type 0) (xs : List A) → ((i : ℕ) (x : A) → slice_get xs i ≡ Some x → P x) → AllByRecursion P xs
each_place P [] h = tt
each_place P (x ∷ xs) h = (h 0 x refl, each_place P xs (λ i y g. h (suc i) y g))

at_place : {A : Type 0} (P : A → Type 0) (xs : List A) (i : ℕ) (x : A) → AllByRecursion P xs → slice_get xs i ≡ Some x → P x
at_place P [] i x a h = absurd (none-some x h)
at_place P (y ∷ ys) zero x a h = subst P (same_Some y x h) a.0
at_place P (y ∷ ys) (suc i) x a h = at_place P ys i x a.1 h

module _ (key : List ℕ) (C : Kripke) (c : IsState C) (own : key ≡ bytes_of C) where
  -- a key that is the bytes of the state is that of an entry with the state
  same_canon : (ps : List Pair) → IsKeyed ps → (i : ℕ) (p : Pair) → slice_get ps i ≡ Some p → is_key key p.0 ≡ true → p.1.canon ≡ C
  same_canon ps keyed i p at h =
      let k = keyed i p at in
      same_bytes p.1.canon C k.1 c (sym k.0 ∙ sym ((bytes_eq-Decides key p.0.items).0 h) ∙ own)

  own_key : (ps : List Pair) → IsKeyed ps → (i : ℕ) (p : Pair) → slice_get ps i ≡ Some p → p.1.canon ≡ C → is_key key p.0 ≡ true
  own_key ps keyed i p at h = (bytes_eq-Decides key p.0.items).1 (own ∙ ap bytes_of (sym h) ∙ sym (keyed i p at).0)

  has_key : (ps : List Pair) → IsKeyed ps → (i : ℕ) → position (is_key key) (keys_of ps) ≡ Some i → Has (values_of ps) i (λ e. e.canon ≡ C)
  has_key [] keyed i h = absurd (none-some i h)
  has_key (q ∷ ps) keyed i h =
      let r = position-Some (is_key key) (keys_of (q ∷ ps)) i q.0 h in
      let long : length (keys_of (q ∷ ps)) ≡ length (q ∷ ps) = length_keys (q ∷ ps) in
      let inside : i < length (q ∷ ps) = omega (arith, r.0, long) in
      let at : slice_get (q ∷ ps) i ≡ Some (get_or (q ∷ ps) i q) = slice_get-get_or (q ∷ ps) i q inside in
      record {
        entry = (get_or (q ∷ ps) i q).1;
        at = value_at (q ∷ ps) i (get_or (q ∷ ps) i q) at;
        holds = same_canon (q ∷ ps) keyed i (get_or (q ∷ ps) i q) at (ap (is_key key) (sym (get_or-map (λ (p : Pair). p.0) (q ∷ ps) i q q.0 inside)) ∙ r.1);
      }
    where
      length_keys : (ps : List Pair) → length (keys_of ps) ≡ length ps
      length_keys [] = refl
      length_keys (p ∷ ps) = ap suc (length_keys ps)

  -- the entry that is found has the state
  pub found_state : (ps : List Pair) → IsKeyed ps → (i : ℕ) (f : Entry) → Some i ≡ position (is_key key) (keys_of ps) → slice_get (values_of ps) i ≡ Some f → f.canon ≡ C
  found_state ps keyed i f found at =
      let has = has_key ps keyed i (sym found) in
      ap (λ (e : Entry). e.canon) (same_Some f has.entry (sym at ∙ has.at)) ∙ has.holds

  -- where no key is the bytes of the state, no entry has it
  pub lacks_state : (ps : List Pair) → IsKeyed ps → lookup (is_key key) ps ≡ None → Lacks (values_of ps) C
  lacks_state ps keyed none i e at h =
      let p = pair_at ps i e at in
      let passes : is_key key p.0.0 ≡ true = own_key ps keyed i p.0 p.1 (ap (λ (e : Entry). e.canon) p.2 ∙ h) in
      let fails : is_key key p.0.0 ≡ false = at_place (λ (p : Pair). is_key key p.0 ≡ false) ps i p.0 (none_passes_from_lookup (is_key key) ps none) p.1 in
      false≢true (sym fails ∙ passes)

  pub lacks_key : (ps : List Pair) → IsKeyed ps → Lacks (values_of ps) C → lookup (is_key key) ps ≡ None
  lacks_key ps keyed lacks = lookup-none (is_key key) ps (each_place (λ (p : Pair). is_key key p.0 ≡ false) ps
      (λ i p at. false_from_ne_true (is_key key p.0) (λ h. lacks i p.1 (value_at ps i p at) (same_canon ps keyed i p at h))))
