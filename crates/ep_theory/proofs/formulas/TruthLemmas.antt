-- The equations of `Truth`, variant by variant.
use Rattle.std.proofs.Common.{◌≡◌, ℕ, ◌⊎◌, List, [], ◌∷◌, map, refl, ap, ◌∙◌, sym, subst}
use Rattle.std.specs.List.{AllByRecursion}
use Rattle.ep_logic.specs.declared.formula.Node.{Node, roll-Node}
use Rattle.ep_logic.specs.declared.formula.Node.TheOpen.{Node-F}
use Rattle.ep_logic.specs.declared.formula.Node.TheVariants.{And, Knows, rolls-And, rolls-Knows}
use Rattle.ep_logic.specs.declared.formula.Node.TheFolds.{map-Node, rec-roll-Node}
use Rattle.ep_logic.specs.declared.ids.AgentId.{AgentId}
use Rattle.ep_theory.specs.Rising.{IsIn}
use Rattle.ep_theory.specs.Kripke.{Kripke, links_of}
use Rattle.ep_theory.specs.Truth.{Truth, truth_step, Either}

pub Each-map : {X Y : Type 0} (P : Y → Type 0) (v : X → Y) (xs : List X) → AllByRecursion (λ x. P (v x)) xs ≡ AllByRecursion P (map v xs)
Each-map P v [] = refl
Each-map P v (x ∷ xs) = ap (λ T. P (v x) × T) (Each-map P v xs)

pub Either-map : {X Y : Type 0} (P : Y → Type 0) (v : X → Y) (xs : List X) → Either (λ x. P (v x)) xs ≡ Either P (map v xs)
Either-map P v [] = refl
Either-map P v (x ∷ xs) = ap (λ T. P (v x) ⊎ T) (Either-map P v xs)

natural : (s : Kripke) (X : Type 0) (v : X → Node) (holds : Node → ℕ → Type 0) (x : Node-F X) →
    truth_step s X (λ p. holds (v p)) x ≡ truth_step s Node holds (map-Node X Node v x)
natural s X v holds Node-F.True = refl
natural s X v holds Node-F.False = refl
natural s X v holds (Node-F.Atom p) = refl
natural s X v holds (Node-F.Not f) = refl
natural s X v holds (Node-F.And fs) = λ i w. Each-map (λ f. holds f w) v fs i
natural s X v holds (Node-F.Or fs) = λ i w. Either-map (λ f. holds f w) v fs i
natural s X v holds (Node-F.Knows a f) = refl
natural s X v holds (Node-F.Common g f) = refl

-- one level
pub truth-roll : (s : Kripke) (w : ℕ) (x : Node-F Node) → Truth s w (roll-Node x) ≡ truth_step s Node (λ f v. Truth s v f) x w
unfolding Truth
truth-roll s w x = λ i. rec-roll-Node (ℕ → Type 0) (λ X v holds x. truth_step s X holds x) (natural s) x i w

pub truth-And : (s : Kripke) (w : ℕ) (fs : List Node) → Truth s w (And fs) ≡ AllByRecursion (Truth s w) fs
truth-And s w fs = ap (Truth s w) (sym (rolls-And fs)) ∙ truth-roll s w (Node-F.And fs)

pub truth-Knows : (s : Kripke) (w : ℕ) (a : AgentId) (f : Node) → Truth s w (Knows a f) ≡ ((v : ℕ) → IsIn (w, v) (links_of s a.n) → Truth s v f)
truth-Knows s w a f = ap (Truth s w) (sym (rolls-Knows a f)) ∙ truth-roll s w (Node-F.Knows a f)

-- a proof along an equation of facts
pub along : {A B : Type 0} → A ≡ B → A → B
along e a = subst (λ (T : Type 0). T) e a
