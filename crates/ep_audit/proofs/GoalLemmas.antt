-- Where a formula is not true at every designated world, it is false at one.
use Rattle.std.proofs.Common.{◌≡◌, ℕ, ◌<◌, ◌&&◌, Bool, true, false, List, [], ◌∷◌, IsTrue, refl, sym, ◌∙◌, inl, inr}
use Rattle.std.specs.List.{list_all}
use Rattle.std.proofs.lemmas.Bool.{false≢true}
use Rattle.ep_logic.specs.declared.formula.Node.{Node}
use Rattle.ep_theory.specs.Rising.{IsIn}
use Rattle.ep_theory.specs.Kripke.{Kripke, IsState}
use Rattle.ep_theory.specs.Truth.{Truth, Satisfies}
use Rattle.ep_theory.specs.Tested.{is_true}
use Rattle.ep_theory.proofs.CallerLemmas.{all_at, at_All, decided, is_true_decides}

rest_false : (a b : Bool) → IsTrue a → (a && b) ≡ false → b ≡ false
rest_false true b t h = h
rest_false false b t h = absurd (false≢true t)

some_false : (p : ℕ → Bool) (xs : List ℕ) → list_all p xs ≡ false → (x : ℕ) × IsIn x xs × (p x ≡ false)
some_false p [] h = absurd (false≢true (sym h))
some_false p (y ∷ ys) h = elim (decided (p y)) as (λ _. (x : ℕ) × IsIn x (y ∷ ys) × (p x ≡ false)) [
  | inl t ↦ let r = some_false p ys (rest_false (p y) (list_all p ys) t h) in (r.0, inr r.1, r.2)
  | inr f ↦ (y, inl refl, f)
]

module _ (S : Kripke) (f : Node) (s : IsState S) where
  within : (w : ℕ) → IsIn w S.designated → w < S.worlds
  within w i = at_All (λ v. v < S.worlds) w S.designated s.designated_within i

  abbrev test : ℕ → Bool
  test w = is_true S w f

  pub false_somewhere : (Satisfies S f → ⊥) → (w : ℕ) × IsIn w S.designated × (Truth S w f → ⊥)
  false_somewhere never = elim (decided (list_all test S.designated)) as (λ _. (w : ℕ) × IsIn w S.designated × (Truth S w f → ⊥)) [
    | inl t ↦ absurd (never (λ w i. (is_true_decides S s w (within w i) f).0 (all_at test w S.designated t i)))
    | inr e ↦
        let r = some_false test S.designated e in
        (r.0, r.1, λ t. false≢true (sym r.2 ∙ (is_true_decides S s r.0 (within r.0 r.1) f).1 t))
  ]
