-- What is kept where an entry is put at the end or written.
use Rattle.std.proofs.Common.{◌≡◌, ◌≢◌, ℕ, zero, suc, ◌+◌, ◌<◌, ◌≤◌, ◌⊎◌, inl, inr, ⊎_elim, List, [], ◌∷◌, ◌++◌, set, length, slice_get, Vec, Option, Some, None, refl, sym, ap, subst, ◌∙◌, arith}
use Rattle.std.specs.declared.alloc.Global.{Global}
use Rattle.std.specs.Map.{values_of}
use Rattle.indexmap.specs.IndexMap.{set_value_at}
use Rattle.std.proofs.lemmas.List.{map-append}
use Rattle.std.proofs.lemmas.Option.{same_Some, none-some}
use Rattle.std.proofs.lemmas.Bool.Decides.{eqb_tells}
use Rattle.ep_theory.specs.Kripke.{IsState}
use Rattle.ep_bytes.specs.Bytes.{bytes_of}
use Rattle.ep_store.specs.declared.entry.Step.{Step}
use Rattle.ep_store.specs.declared.entry.Entry.{Entry}
use Rattle.ep_store.specs.Stored.{Has, Lacks, AreDistinct, MayCome}
use Rattle.ep_store.specs.Inside.{Comes, IsTree, IsKeyed}
use Rattle.ep_store.proofs.KeyLemmas.{Pair}
use Rattle.ep_store.proofs.PlaceLemmas.{at_push_old, at_push_cases, at_set_same, at_set_other, at_set_cases}

-- values
pub values-push : (ps : List Pair) (p : Pair) → values_of (ps ++ p ∷ []) ≡ values_of ps ++ p.1 ∷ []
values-push ps p = map-append (λ (q : Pair). q.1) ps (p ∷ [])

pub values-set : (ps : List Pair) (i : ℕ) (e : Entry) → values_of (set_value_at ps i e) ≡ set (values_of ps) i e
values-set [] i e = refl
values-set (p ∷ ps) zero e = refl
values-set (p ∷ ps) (suc i) e = ap (λ es. p.1 ∷ es) (values-set ps i e)

pub length-values : (ps : List Pair) → length (values_of ps) ≡ length ps
length-values [] = refl
length-values (p ∷ ps) = ap suc (length-values ps)

-- an entry at the end
has_push : (es : List Entry) (e : Entry) (i : ℕ) (P : Entry → Type 0) → Has es i P → Has (es ++ e ∷ []) i P
has_push es e i P h = record { entry = h.entry; at = at_push_old es e i h.entry h.at; holds = h.holds }

comes_push : (es : List Entry) (e : Entry) (i weight : ℕ) (from : Option Step) → Comes es i weight from → Comes (es ++ e ∷ []) i weight from
comes_push es e i weight None h = h
comes_push es e i weight (Some step) h = (h.0, has_push es e step.parent.n (λ f. f.weight + step.toll ≤ weight) h.1)

comes_last : (es : List Entry) (e : Entry) (weight : ℕ) (from : Option Step) → MayCome es weight from → Comes (es ++ e ∷ []) (length es) weight from
comes_last es e weight None h = (ap length h.0, h.1)
comes_last es e weight (Some step) h = (h.0, has_push es e step.parent.n (λ f. f.weight + step.toll ≤ weight) h.1)

pub tree_push : (es : List Entry) (e : Entry) → IsTree es → MayCome es e.weight e.from → IsTree (es ++ e ∷ [])
tree_push es e tree comes i f at = ⊎_elim
    (λ (h : slice_get es i ≡ Some f). comes_push es e i f.weight f.from (tree i f h))
    (λ (h : (i ≡ length es) × (e ≡ f)).
    subst (λ (g : Entry). Comes (es ++ e ∷ []) i g.weight g.from) h.1 (subst (λ n. Comes (es ++ e ∷ []) n e.weight e.from) (sym h.0) (comes_last es e e.weight e.from comes)))
    (at_push_cases es e i f at)

pub distinct_push : (es : List Entry) (e : Entry) → AreDistinct es → Lacks es e.canon → AreDistinct (es ++ e ∷ [])
distinct_push es e distinct lacks i j f g at_f at_g same = go (at_push_cases es e i f at_f) (at_push_cases es e j g at_g)
  where
    go : (slice_get es i ≡ Some f) ⊎ ((i ≡ length es) × (e ≡ f)) → (slice_get es j ≡ Some g) ⊎ ((j ≡ length es) × (e ≡ g)) → i ≡ j
    go (inl a) (inl b) = distinct i j f g a b same
    go (inl a) (inr b) = absurd (lacks i f a (same ∙ ap (λ (x : Entry). x.canon) (sym b.1)))
    go (inr a) (inl b) = absurd (lacks j g b (sym same ∙ ap (λ (x : Entry). x.canon) (sym a.1)))
    go (inr a) (inr b) = a.0 ∙ sym b.0

pub keyed_push : (ps : List Pair) (key : Vec ℕ Global) (e : Entry) → IsKeyed ps → key.items ≡ bytes_of e.canon → IsState e.canon → IsKeyed (ps ++ (key, e) ∷ [])
keyed_push ps key e keyed own valid i p at = ⊎_elim
    (λ (h : slice_get ps i ≡ Some p). keyed i p h)
    (λ (h : (i ≡ length ps) × ((key, e) ≡ p)). subst (λ (q : Pair). (q.0.items ≡ bytes_of q.1.canon) × IsState q.1.canon) h.1 (own, valid))
    (at_push_cases ps (key, e) i p at)

-- an entry that is written with a lesser weight
module _ (es : List Entry) (i : ℕ) (old e : Entry) (at_old : slice_get es i ≡ Some old) (less : e.weight < old.weight) where
  -- an entry from which a step leads stays one
  has_set : (j toll weight : ℕ) → Has es j (λ f. f.weight + toll ≤ weight) → Has (set es i e) j (λ f. f.weight + toll ≤ weight)
  has_set j toll weight h = elim (eqb_tells i j) [
    | inl q ↦
        let same : old ≡ h.entry = same_Some old h.entry (sym at_old ∙ ap (slice_get es) q.1 ∙ h.at) in
        let below : old.weight + toll ≤ weight = subst (λ (x : Entry). x.weight + toll ≤ weight) (sym same) h.holds in
        record { entry = e; at = ap (slice_get (set es i e)) (sym q.1) ∙ at_set_same es i e old at_old; holds = omega (arith, below, less) }
    | inr q ↦ record { entry = h.entry; at = at_set_other es i j e q.1 ∙ h.at; holds = h.holds }
  ]

  comes_set : (j weight : ℕ) (from : Option Step) → Comes es j weight from → Comes (set es i e) j weight from
  comes_set j weight None h = h
  comes_set j weight (Some step) h = (h.0, has_set step.parent.n step.toll weight h.1)

  comes_written : (from : Option Step) → MayCome es e.weight from → Comes (set es i e) i e.weight from
  comes_written None h = absurd (none-some old (sym (ap (λ xs. slice_get xs i) h.0) ∙ at_old))
  comes_written (Some step) h = (h.0, has_set step.parent.n step.toll e.weight h.1)

  pub tree_set : IsTree es → MayCome es e.weight e.from → IsTree (set es i e)
  tree_set tree comes j f at = ⊎_elim
      (λ (h : (i ≡ j) × (e ≡ f)).
      subst (λ (g : Entry). Comes (set es i e) j g.weight g.from) h.1 (subst (λ n. Comes (set es i e) n e.weight e.from) h.0 (comes_written e.from comes)))
      (λ (h : (i ≢ j) × (slice_get es j ≡ Some f)). comes_set j f.weight f.from (tree j f h.1))
      (at_set_cases es i j e f at)

  pub distinct_set : AreDistinct es → e.canon ≡ old.canon → AreDistinct (set es i e)
  distinct_set distinct same j k f g at_f at_g h =
      let a = before j f at_f in
      let b = before k g at_g in
      distinct j k a.0 b.0 a.1 b.1 (a.2 ∙ h ∙ sym b.2)
    where
      before : (j : ℕ) (f : Entry) → slice_get (set es i e) j ≡ Some f → (d : Entry) × (slice_get es j ≡ Some d) × (d.canon ≡ f.canon)
      before j f at = ⊎_elim
          (λ (h : (i ≡ j) × (e ≡ f)). (old, ap (slice_get es) (sym h.0) ∙ at_old, sym same ∙ ap (λ (x : Entry). x.canon) h.1))
          (λ (h : (i ≢ j) × (slice_get es j ≡ Some f)). (f, h.1, refl))
          (at_set_cases es i j e f at)

-- a value that is written under its key
pub keyed_set : (ps : List Pair) (i : ℕ) (old e : Entry) → IsKeyed ps → slice_get (values_of ps) i ≡ Some old → e.canon ≡ old.canon → IsKeyed (set_value_at ps i e)
keyed_set [] i old e keyed at same j p h = absurd (none-some p h)
keyed_set (q ∷ ps) zero old e keyed at same zero p h =
    let k = keyed 0 q refl in
    let is_old : q.1 ≡ old = same_Some q.1 old at in
    let now : e.canon ≡ q.1.canon = same ∙ ap (λ (x : Entry). x.canon) (sym is_old) in
    subst (λ (r : Pair). (r.0.items ≡ bytes_of r.1.canon) × IsState r.1.canon) (same_Some (q.0, e) p h) (k.0 ∙ ap bytes_of (sym now), subst IsState (sym now) k.1)
keyed_set (q ∷ ps) zero old e keyed at same (suc j) p h = keyed (suc j) p h
keyed_set (q ∷ ps) (suc i) old e keyed at same zero p h = keyed 0 p h
keyed_set (q ∷ ps) (suc i) old e keyed at same (suc j) p h = keyed_set ps i old e (λ k r g. keyed (suc k) r g) at same j p h
