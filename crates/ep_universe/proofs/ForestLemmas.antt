-- The types above a type are a chain, so that the sets of objects of two types are disjoint or one lies in the other.
use Rattle.std.proofs.Common.{◌≡◌, ℕ, zero, suc, ◌<◌, Bool, true, false, cond, ◌||◌, ◌⊎◌, inl, inr, List, [], ◌∷◌, Option, Some, None, length, get_or, refl, ap, sym, ◌∙◌, subst, arith}
use Rattle.std.specs.Prelude.{Contains}
use Rattle.std.specs.Option.{option_map_or}
use Rattle.std.proofs.lemmas.Bool.{cases_eq}
use Rattle.std.proofs.lemmas.List.Elements.{Contains-append_left, Contains-append_right, Contains-append_cases}
use Rattle.ep_logic.specs.Numbers.{numbers_where}
use Rattle.ep_binding.specs.Laminar.{LiesIn, AreNested, IsLaminar}
use Rattle.ep_binding.proofs.CallerLemmas.{pairs-map}
use Rattle.ep_tree.specs.declared.tree.ParamTree.{ParamTree}
use Rattle.ep_tree.specs.declared.tree.TaskTree.{TaskTree}
use Rattle.ep_types.specs.Names.{Text, Typings, declared, is_text, climbs, is_below}
use Rattle.ep_types.specs.Tasks.{HasNoFault, declarations}
use Rattle.ep_universe.specs.Objects.{type_at, has_type, objects_of, candidates}
use Rattle.ep_universe.proofs.LookupLemmas.{by_bool}
use Rattle.ep_universe.proofs.TypeOrder.{below_trans, climbs_more, same_text}

-- ---- types

module _ (T : Typings) where
  -- on the way up from the parent, where the type itself is another
  from_parent : (k a : Text) (m : ℕ) → is_text k a ≡ false → climbs (suc m) T k a ≡ true → option_map_or (λ p. climbs m T p a) (declared k T) false ≡ true
  from_parent k a m e h = sym (ap (λ b. b || option_map_or (λ p. climbs m T p a) (declared k T) false) e) ∙ h

  -- of two types above one, one is above the other
  chain_above : (m n : ℕ) (k a b : Text) → climbs m T k a ≡ true → climbs n T k b ≡ true → (climbs n T a b ≡ true) ⊎ (climbs m T b a ≡ true)
  chain_above zero n k a b h i = inl (ap (λ x. climbs n T x b) (sym (same_text k a h)) ∙ i)
  chain_above (suc m) zero k a b h i = inr (ap (λ x. climbs (suc m) T x a) (sym (same_text k b i)) ∙ h)
  chain_above (suc m) (suc n) k a b h i =
      by_bool (is_text k a)
      (λ e. inl (ap (λ x. climbs (suc n) T x b) (sym (same_text k a e)) ∙ i))
      (λ e. by_bool (is_text k b)
      (λ f. inr (ap (λ x. climbs (suc m) T x a) (sym (same_text k b f)) ∙ h))
      (λ f. by (declared k T) (λ p. chain_above m n p a b) (from_parent k a m e h) (from_parent k b n f i)))
    where
      by : (o : Option Text) → ((p : Text) → climbs m T p a ≡ true → climbs n T p b ≡ true → (climbs n T a b ≡ true) ⊎ (climbs m T b a ≡ true)) →
          option_map_or (λ p. climbs m T p a) o false ≡ true → option_map_or (λ p. climbs n T p b) o false ≡ true → (climbs (suc n) T a b ≡ true) ⊎ (climbs (suc m) T b a ≡ true)
      by None rest u v = absurd (cc)
      by (Some p) rest u v = elim (rest p u v) [
        | inl w ↦ inl (climbs_more T n a b w)
        | inr w ↦ inr (climbs_more T m b a w)
      ]

-- ---- numbers that pass a test

last_passes : (p : ℕ → Bool) (n o : ℕ) (b : Bool) → p n ≡ b → Contains (cond b (n ∷ []) []) o → (p o ≡ true) × (o < suc n)
last_passes p n o true e (zero, l, f) = (ap p (sym f) ∙ e, omega (arith, f))
last_passes p n o true e (suc k, l, f) = absurd (omega arith)
last_passes p n o false e (k, l, f) = absurd (omega arith)

passes : (p : ℕ → Bool) (n o : ℕ) → Contains (numbers_where p n) o → (p o ≡ true) × (o < n)
passes p zero o (k, l, f) = absurd (omega arith)
passes p (suc n) o h = elim (Contains-append_cases (numbers_where p n) (cond (p n) (n ∷ []) []) o h) [
  | inl g ↦ let r = passes p n o g in (r.0, omega (arith, r.1))
  | inr g ↦ last_passes p n o (p n) refl g
]

among : (p : ℕ → Bool) (n o : ℕ) → p o ≡ true → o < n → Contains (numbers_where p n) o
among p zero o h l = absurd (omega arith)
among p (suc n) o h l = elim (cases_eq o n) [
  | inl e ↦
      Contains-append_right (numbers_where p n) (cond (p n) (n ∷ []) []) o
      (subst (λ b. Contains (cond b (n ∷ []) []) o) (sym h ∙ ap p e) (0, omega arith, sym e))
  | inr e ↦ Contains-append_left (numbers_where p n) (cond (p n) (n ∷ []) []) o (among p n o h (omega (arith, e)))
]

-- ---- objects

module _ (t : TaskTree) (h : HasNoFault t) where
  -- the objects of a type are among those of one above it
  lies_in : (a b : Text) → is_below (declarations t).types a b ≡ true → LiesIn (objects_of (declarations t) a) (objects_of (declarations t) b)
  lies_in a b below o m =
      let d = declarations t in
      let here = passes (has_type d a) (length d.objects) o m in
      among (has_type d b) (length d.objects) o (below_trans t h (type_at d o) a b here.0 below) here.1

  nested_objects : (a b : Text) → AreNested (objects_of (declarations t) a) (objects_of (declarations t) b)
  nested_objects a b =
      let T = (declarations t).types in
      by_bool (is_below T a b)
      (λ e. inr (inl (lies_in a b e)))
      (λ e. by_bool (is_below T b a)
      (λ f. inr (inr (lies_in b a f)))
      (λ f. inl (λ o m n. neither o (is_below T a b) (is_below T b a) e f
      (chain_above T (length T) (length T) (type_at (declarations t) o) a b
      (passes (has_type (declarations t) a) (length (declarations t).objects) o m).0
      (passes (has_type (declarations t) b) (length (declarations t).objects) o n).0))))
    where
      neither : (o : ℕ) (x y : Bool) → x ≡ false → y ≡ false → (x ≡ true) ⊎ (y ≡ true) → ⊥
      neither o x y e f (inl u) = cc
      neither o x y e f (inr u) = cc

  -- the objects to which parameters may be bound
  pub candidates_laminar : (ps : List ParamTree) → IsLaminar (candidates (declarations t) ps)
  candidates_laminar ps =
      let f : ParamTree → List ℕ = λ p. objects_of (declarations t) p.kind.text in
      pairs-map AreNested f ps (λ i j p l m. nested_objects (get_or ps i p).kind.text (get_or ps j p).kind.text)
