-- Groups, one member more at a time, and their members.
use Rattle.std.proofs.Common.{◌≡◌, ℕ, zero, suc, ◌+◌, ◌<◌, ◌≤◌, Bool, true, false, ◌||◌, not, IsTrue, Option, Some, None, unwrap_or, position, List, [], ◌∷◌, ◌++◌, length, map, take, drop, get_or, set, refl, ap, sym, ◌∙◌, arith, nat_lt}
use Rattle.std.specs.Prelude.{◌==◌}
use Rattle.std.specs.List.{list_any}
use Rattle.std.proofs.lemmas.Bool.Decides.{nat_tests}
use Rattle.std.proofs.lemmas.List.{take_more, map-append, length-drop, get_or-drop}
use Rattle.std.proofs.lemmas.List.Quantifiers.{position-Some}
use Rattle.ep_logic.specs.AgentSets.{first_agents, is_nobody}
use Rattle.ep_logic.specs.Numbers.{has_number}
use Rattle.ep_tree.specs.declared.tree.Name.{Name}
use Rattle.ep_tree.specs.declared.tree.GroupTree.TheVariants.{Members}
use Rattle.ep_types.specs.declared.scope.Declared.{Declared}
use Rattle.ep_universe.specs.Universe.{HasFewNames}
use Rattle.ep_universe.specs.Objects.{Binding, object_at, agent_at, agents_of, eight}
use Rattle.ep_universe.specs.Sizes.{has_member}

-- one number more among the eight
eight-set : (p : ℕ → Bool) (a : ℕ) → a < 8 → set (eight p) a true ≡ eight (λ i. (a == i) || p i)
eight-set p zero h = refl
eight-set p (suc zero) h = refl
eight-set p (suc (suc zero)) h = refl
eight-set p (suc (suc (suc zero))) h = refl
eight-set p (suc (suc (suc (suc zero)))) h = refl
eight-set p (suc (suc (suc (suc (suc zero))))) h = refl
eight-set p (suc (suc (suc (suc (suc (suc zero)))))) h = refl
eight-set p (suc (suc (suc (suc (suc (suc (suc zero))))))) h = refl
eight-set p (suc (suc (suc (suc (suc (suc (suc (suc a)))))))) h = absurd (omega arith)

any-push : (p : ℕ → Bool) (xs : List ℕ) (x : ℕ) → list_any p (xs ++ x ∷ []) ≡ (p x || list_any p xs)
any-push p [] x = refl
any-push p (y ∷ ys) x = ap (λ b. p y || b) (any-push p ys x) ∙ swap (p y) (p x) (list_any p ys)
  where
    swap : (a b c : Bool) → (a || (b || c)) ≡ (b || (a || c))
    swap true true c = refl
    swap true false c = refl
    swap false true c = refl
    swap false false c = refl

pub group-more : {X : Type 0} (f : X → ℕ) (xs : List X) (i : ℕ) (d : X) → i < length xs → f (get_or xs i d) < 8 →
    set (eight (has_number (map f (take i xs)))) (f (get_or xs i d)) true ≡ eight (has_number (map f (take (i + 1) xs)))
group-more f xs i d h k =
    let numbers : map f (take (i + 1) xs) ≡ map f (take i xs) ++ f (get_or xs i d) ∷ [] = ap (map f) (take_more xs i d h) ∙ map-append f (take i xs) (get_or xs i d ∷ []) in
    eight-set (has_number (map f (take i xs))) (f (get_or xs i d)) k
    ∙ (λ j. eight (λ n. sym (any-push (λ y. y == n) (map f (take i xs)) (f (get_or xs i d))) j))
    ∙ ap (λ z. eight (has_number z)) (sym numbers)

-- ---- some member, and none from the number of agents on

any_at : (bs : List Bool) (a : ℕ) → get_or bs a false ≡ true → list_any (λ b. b) bs ≡ true
any_at [] a h = cc
any_at (true ∷ bs) a h = refl
any_at (false ∷ bs) zero h = cc
any_at (false ∷ bs) (suc a) h = any_at bs a h

eight_at : (p : ℕ → Bool) (a : ℕ) → a < 8 → get_or (eight p) a false ≡ p a
eight_at p zero h = refl
eight_at p (suc zero) h = refl
eight_at p (suc (suc zero)) h = refl
eight_at p (suc (suc (suc zero))) h = refl
eight_at p (suc (suc (suc (suc zero)))) h = refl
eight_at p (suc (suc (suc (suc (suc zero))))) h = refl
eight_at p (suc (suc (suc (suc (suc (suc zero)))))) h = refl
eight_at p (suc (suc (suc (suc (suc (suc (suc zero))))))) h = refl
eight_at p (suc (suc (suc (suc (suc (suc (suc (suc a)))))))) h = absurd (omega arith)

pub somebody : (p : ℕ → Bool) (a : ℕ) → a < 8 → p a ≡ true → is_nobody (eight p) ≡ false
somebody p a h e = ap not (any_at (eight p) a (eight_at p a h ∙ e))

-- where no number from n on passes
pub nobody : (p : ℕ → Bool) (n : ℕ) → ((a : ℕ) → n ≤ a → p a ≡ false) → is_nobody (drop n (eight p)) ≡ true
nobody p n none = ap not (none_of (drop n (eight p)) (λ k. at k))
  where
    none_of : (bs : List Bool) → ((k : ℕ) → k < length bs → get_or bs k false ≡ false) → list_any (λ b. b) bs ≡ false
    none_of [] h = refl
    none_of (b ∷ bs) h = let here : b ≡ false = h 0 (omega arith) in ap (λ c. c || list_any (λ b. b) bs) here ∙ none_of bs (λ k l. h (suc k) (omega arith))

    at : (k : ℕ) → k < length (drop n (eight p)) → get_or (drop n (eight p)) k false ≡ false
    at k l =
        let long = length-drop n (eight p) in
        get_or-drop n (eight p) k false ∙ eight_at p (n + k) (omega (arith, long)) ∙ none (n + k) (omega arith)

-- ---- agents of a task

found-below : (p : ℕ → Bool) (xs : List ℕ) → 0 < length xs → unwrap_or (position p xs) 0 < length xs
found-below p xs h = by (position p xs) refl
  where
    by : (o : Option ℕ) → position p xs ≡ o → unwrap_or o 0 < length xs
    by None e = h
    by (Some i) e = (position-Some p xs i 0 e).0

-- an agent's number is below the number of agents, where there is one
pub agent_below : (d : Declared) (b : Binding) (x : Name) → 0 < length (agents_of d) → agent_at d b x < length (agents_of d)
agent_below d b x h = found-below (λ y. y == object_at d b x.text) (agents_of d) h

equal : (i j : ℕ) → i < j → (i == j) ≡ false
equal i j h = grind arith

same : (i : ℕ) → (i == i) ≡ true
same i = grind arith

members_below : (d : Declared) (b : Binding) (xs : List Name) → 0 < length (agents_of d) → (a : ℕ) → length (agents_of d) ≤ a → has_number (map (agent_at d b) xs) a ≡ false
members_below d b [] h a l = refl
members_below d b (x ∷ xs) h a l =
    let below = agent_below d b x h in
    ap (λ c. c || has_number (map (agent_at d b) xs) a) (equal (agent_at d b x) a (omega (arith, below))) ∙ members_below d b xs h a l

pub members-within : (d : Declared) (b : Binding) (xs : List Name) → HasFewNames d → is_nobody (drop (length (agents_of d)) (eight (has_number (map (agent_at d b) xs)))) ≡ true
members-within d b xs w = nobody (has_number (map (agent_at d b) xs)) (length (agents_of d)) (λ a l. members_below d b xs w.some_agent a l)

pub members-some : (d : Declared) (b : Binding) (t : ℕ) (xs : List Name) → HasFewNames d → IsTrue (has_member (Members t xs)) → is_nobody (eight (has_number (map (agent_at d b) xs))) ≡ false
members-some d b t [] w h = absurd (cc)
members-some d b t (x ∷ xs) w h =
    let below = agent_below d b x w.some_agent in
    let few = w.few_agents in
    somebody (has_number (map (agent_at d b) (x ∷ xs))) (agent_at d b x) (omega (arith, below, few)) (ap (λ c. c || has_number (map (agent_at d b) xs) (agent_at d b x)) (same (agent_at d b x)))

not_below : (a n : ℕ) → n ≤ a → nat_lt a n ≡ false
not_below a n h = grind (arith, nat_tests)

pub all-within : (n : ℕ) → is_nobody (drop n (first_agents n)) ≡ true
all-within n = nobody (λ i. nat_lt i n) n (λ a l. not_below a n l)
