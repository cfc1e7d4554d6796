-- Relations that are no equivalences: agent by agent, and action by action.
use Rattle.std.proofs.Common.{◌≡◌, ◌↔◌, ℕ, zero, suc, ◌+◌, ◌≤◌, ◌<◌, Bool, true, false, cond, not, IsTrue, List, [], ◌∷◌, length, map, drop, get_or, Option, Some, None, Result, Ok, Err, IsErrAnd, option_map, refl, sym, ap, ◌∙◌, subst, arith, drop-cons, add-one}
use Rattle.std.specs.Prelude.{find, zip}
use Rattle.std.specs.List.{AllByRecursion}
use Rattle.std.proofs.lemmas.Bool.{false≢true}
use Rattle.ep_base.specs.Refusals.{IsJudged, Reports, first_some}
use Rattle.ep_base.proofs.CallerLemmas.{reports_whole}
use Rattle.ep_theory.specs.Events.{EventModel}
use Rattle.ep_theory.specs.Kripke.{Kripke}
use Rattle.ep_theory.specs.Equivalences.{IsEquivalence, IsS5, IsS5Action, is_equivalence}
use Rattle.ep_theory.proofs.CallerLemmas.{equivalences_are_tried}
use Rattle.ep_types.specs.Names.{Text}
use Rattle.ep_ground.specs.Frames.{first_unequal, unequal_action, unequal_agent, unequal_state}
use Rattle.ep_ground.specs.declared.fault.GroundError.{GroundError}
use Rattle.ep_ground.specs.declared.fault.GroundError.TheVariants as fault

-- two tests of one fact are equal
one_test : {P : Type 0} (a b : Bool) → IsTrue a ↔ P → IsTrue b ↔ P → a ≡ b
one_test true true f g = refl
one_test false false f g = refl
one_test true false f g = absurd (false≢true (g.1 (f.0 refl)))
one_test false true f g = absurd (false≢true (f.1 (g.0 refl)))

pub tried : (b : Bool) (n : ℕ) (pairs : List (ℕ × ℕ)) → IsTrue b ↔ IsEquivalence n pairs → is_equivalence n pairs ≡ b
tried b n pairs f = sym (one_test b (is_equivalence n pairs) f (equivalences_are_tried n pairs))

pub drop-next : {A : Type 0} (xs : List A) (k : ℕ) (d : A) → k < length xs → drop k xs ≡ get_or xs k d ∷ drop (k + 1) xs
drop-next xs k d l = drop-cons xs k d l ∙ ap (λ n. get_or xs k d ∷ drop n xs) (sym (add-one k))

pub drop-past : {A : Type 0} (xs : List A) (k : ℕ) → length xs ≤ k → drop k xs ≡ []
drop-past [] zero l = refl
drop-past [] (suc k) l = refl
drop-past (x ∷ xs) zero l = absurd (omega (arith, l))
drop-past (x ∷ xs) (suc k) l = drop-past xs k (omega (arith, l))

-- ---- agents

module _ (agents : List Text) (n : ℕ) (links : List (List (ℕ × ℕ))) (k : ℕ) (i : k < length agents) (j : k < length links) (d : Text) where
  abbrev rest : Option (Text × List (ℕ × ℕ))
  rest = find (λ p. not (is_equivalence n p.1)) (zip (drop (k + 1) agents) (drop (k + 1) links))

  from_here : unequal_agent (drop k agents) n (drop k links) ≡ option_map (λ p. p.0) (cond (not (is_equivalence n (get_or links k []))) (Some (get_or agents k d, get_or links k [])) rest)
  from_here = (λ m. unequal_agent (drop-next agents k d i m) n (drop-next links k [] j m))

  pub equal_here : is_equivalence n (get_or links k []) ≡ true → unequal_agent (drop (k + 1) agents) n (drop (k + 1) links) ≡ unequal_agent (drop k agents) n (drop k links)
  equal_here e = sym (from_here ∙ ap (λ b. option_map (λ (p : Text × List (ℕ × ℕ)). p.0) (cond (not b) (Some (get_or agents k d, get_or links k [])) rest)) e)

  pub unequal_here : is_equivalence n (get_or links k []) ≡ false → unequal_agent (drop k agents) n (drop k links) ≡ Some (get_or agents k d)
  unequal_here e = from_here ∙ ap (λ b. option_map (λ (p : Text × List (ℕ × ℕ)). p.0) (cond (not b) (Some (get_or agents k d, get_or links k [])) rest)) e

pub none_left : (agents : List Text) (n : ℕ) (links : List (List (ℕ × ℕ))) (k : ℕ) → length agents ≤ k → unequal_agent (drop k agents) n (drop k links) ≡ None
none_left agents n links k l = ap (λ names. unequal_agent names n (drop k links)) (drop-past agents k l)

-- the first agent is told, or one of the others
first_agent : (a : Text) (n : ℕ) (ps : List (ℕ × ℕ)) (o : Option (Text × List (ℕ × ℕ))) (b : Bool) → is_equivalence n ps ≡ b
    → option_map (λ p. p.0) (cond (not (is_equivalence n ps)) (Some (a, ps)) o) ≡ None → IsEquivalence n ps × (option_map (λ p. p.0) o ≡ None)
first_agent a n ps o true e h = ((equivalences_are_tried n ps).0 e, sym (ap (λ b. option_map (λ (p : Text × List (ℕ × ℕ)). p.0) (cond (not b) (Some (a, ps)) o)) e) ∙ h)
first_agent a n ps o false e h =
    let s : Some a ≡ None = sym (ap (λ b. option_map (λ (p : Text × List (ℕ × ℕ)). p.0) (cond (not b) (Some (a, ps)) o)) e) ∙ h in
    absurd (cc)

-- where no agent is told, all relations are equivalences
pub all_equal : (agents : List Text) (n : ℕ) (links : List (List (ℕ × ℕ))) → length agents ≡ length links → unequal_agent agents n links ≡ None → AllByRecursion (IsEquivalence n) links
all_equal agents n [] l h = tt
all_equal [] n (ps ∷ links) l h = absurd (omega (arith, l))
all_equal (a ∷ agents) n (ps ∷ links) l h =
    let p = first_agent a n ps (find (λ p. not (is_equivalence n p.1)) (zip agents links)) (is_equivalence n ps) refl h in
    (p.0, all_equal agents n links (omega (arith, l)) p.1)

-- ---- actions

abbrev pub actions_told : List Text → List Text → List EventModel → Option GroundError
actions_told agents names actions = first_some (map (unequal_action agents) (zip names actions))

some-action : EventModel
some-action = record { events = []; links = []; designated = [] }

first-none : {X : Type 0} (o : Option X) (os : List (Option X)) → o ≡ None → first_some (o ∷ os) ≡ first_some os
first-none o os e = ap (λ z. first_some (z ∷ os)) e

first-some : {X : Type 0} (o : Option X) (os : List (Option X)) (x : X) → o ≡ Some x → first_some (o ∷ os) ≡ Some x
first-some o os x e = ap (λ z. first_some (z ∷ os)) e

module _ (agents names : List Text) (actions : List EventModel) (k : ℕ) (i : k < length names) (j : k < length actions) where
  actions_from : (d : EventModel) → actions_told agents (drop k names) (drop k actions)
      ≡ first_some (unequal_action agents (get_or names k [], get_or actions k d) ∷ map (unequal_action agents) (zip (drop (k + 1) names) (drop (k + 1) actions)))
  actions_from d = (λ m. actions_told agents (drop-next names k [] i m) (drop-next actions k d j m))

  pub equal_action : (d : EventModel) → unequal_action agents (get_or names k [], get_or actions k d) ≡ None → actions_told agents (drop (k + 1) names) (drop (k + 1) actions) ≡ actions_told agents (drop k names) (drop k actions)
  equal_action d e = sym (actions_from d ∙ first-none _ _ e)

  pub action_told : (d : EventModel) (x : GroundError) → unequal_action agents (get_or names k [], get_or actions k d) ≡ Some x → actions_told agents (drop k names) (drop k actions) ≡ Some x
  action_told d x e = actions_from d ∙ first-some _ _ x e

-- the error of an action is that of all
pub handed : (row whole : Option GroundError) (r : Result (Unit {0}) GroundError) (e : GroundError) → IsErrAnd r (λ x. x ≡ e) → Reports fault.OutOfMemory row e → (row ≡ Some e → whole ≡ Some e) → IsJudged fault.OutOfMemory whole r
handed row whole (Ok a) e h k f = absurd h
handed row whole (Err x) e h k f = subst (Reports fault.OutOfMemory whole) (sym h) (reports_whole fault.OutOfMemory row whole e f k)

pub no_action_left : (agents names : List Text) (actions : List EventModel) (k : ℕ) → length names ≤ k → actions_told agents (drop k names) (drop k actions) ≡ None
no_action_left agents names actions k l = ap (λ ns. actions_told agents ns (drop k actions)) (drop-past names k l)

-- ---- tasks

mapped-none : {X Y : Type 0} (f : X → Y) (o : Option X) → option_map f o ≡ None → o ≡ None
mapped-none f None e = refl
mapped-none f (Some x) e = absurd (cc)

first-of-none : {X : Type 0} (o : Option X) (os : List (Option X)) → first_some (o ∷ os) ≡ None → (o ≡ None) × (first_some os ≡ None)
first-of-none None os e = (refl, e)
first-of-none (Some x) os e = absurd (cc)

all_actions : (agents names : List Text) (actions : List EventModel) → length names ≡ length actions → AllByRecursion (λ (A : EventModel). length agents ≡ length A.links) actions
    → actions_told agents names actions ≡ None → AllByRecursion IsS5Action actions
all_actions agents names [] l fit h = tt
all_actions agents [] (A ∷ actions) l fit h = absurd (omega (arith, l))
all_actions agents (name ∷ names) (A ∷ actions) l fit h =
    let p = first-of-none (unequal_action agents (name, A)) (map (unequal_action agents) (zip names actions)) h in (
      all_equal agents (length A.events) A.links fit.0 (mapped-none _ (unequal_agent agents (length A.events) A.links) p.0),
      all_actions agents names actions (omega (arith, l)) fit.1 p.1,
    )

-- where nothing is told, all relations are equivalences
pub none_unequal : (agents names : List Text) (S : Kripke) (actions : List EventModel) → length agents ≡ length S.links → length names ≡ length actions
    → AllByRecursion (λ (A : EventModel). length agents ≡ length A.links) actions → first_unequal agents names S actions ≡ None → IsS5 S × AllByRecursion IsS5Action actions
none_unequal agents names S actions a l fit h =
    let p = first-of-none (unequal_state agents S) (map (unequal_action agents) (zip names actions)) h in (
      all_equal agents S.worlds S.links a (mapped-none _ (unequal_agent agents S.worlds S.links) p.0),
      all_actions agents names actions l fit p.1,
    )
