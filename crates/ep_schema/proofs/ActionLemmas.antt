-- What the builder of actions answers for parts that a body gives.
use Rattle.std.proofs.Common.{◌≡◌, ◌≢◌, ℕ, zero, suc, ◌<◌, ◌≤◌, Bool, true, false, not, ◌&&◌, ◌||◌, ◌==◌, Option, Some, None, is_some, option_map, option_and_then, Result, Ok, Err, IfOk, IfErr, OnOk, List, [], ◌∷◌, ◌++◌, length, map, get_or, position, refl, ap, sym, ◌∙◌, subst, arith, ⊎_elim, nat_lt}
use Rattle.std.specs.List.{list_any, AllByRecursion}
use Rattle.std.proofs.lemmas.Bool.{ne_eqb}
use Rattle.std.proofs.lemmas.Bool.Decides.{nat_tests}
use Rattle.std.proofs.lemmas.Option.{none-some}
use Rattle.std.proofs.lemmas.List.{length-map, get_or-map}
use Rattle.std.proofs.lemmas.List.Folds.{list_any-append}
use Rattle.std.proofs.lemmas.List.Quantifiers.{position-Some}
use Rattle.ep_logic.specs.declared.limits.TheConstants.{MOST_EVENTS, MOST_AGENTS}
use Rattle.ep_lex.specs.declared.limits.TheConstants.{MOST_TOKENS}
use Rattle.ep_logic.specs.declared.formula.Node.{Node}
use Rattle.ep_logic.specs.declared.formula.Node.TheVariants.{True}
use Rattle.ep_logic.specs.declared.ids.EventId.{EventId}
use Rattle.ep_binding.specs.Bindings.{all_different}
use Rattle.ep_event.specs.declared.parts.Assign.{Assign}
use Rattle.ep_event.specs.declared.parts.EventParts.{EventParts}
use Rattle.ep_event.specs.declared.parts.EventLink.{EventLink}
use Rattle.ep_event.specs.declared.parts.ActionParts.{ActionParts}
use Rattle.ep_event.specs.declared.refusal.ActionError.{ActionError}
use Rattle.ep_event.specs.declared.refusal.ActionError.TheVariants as error
use Rattle.ep_event.specs.Built.{set_of, event_of, has_link, has_event, built}
use Rattle.ep_base.specs.Refusals.{Answers, first_some}
use Rattle.ep_event.specs.Refusals.{refusal_of, atom_twice, repeated_atom, sets_at}
use Rattle.ep_event.proofs.CallerLemmas.{are_fine}
use Rattle.ep_theory.specs.Rising.{IsIn}
use Rattle.ep_theory.specs.Events.{Event, EventModel}
use Rattle.ep_theory.specs.FourActions.{assign}
use Rattle.ep_logic.specs.Numbers.{numbers_where, pairs_where, has_number, has_pair, table}
use Rattle.ep_theory.proofs.CallerLemmas.{from_map, test_itself, IsIn-at, to_any, last_or_before}
use Rattle.ep_tree.specs.declared.tree.Name.{Name}
use Rattle.ep_tree.specs.declared.tree.LinkTree.{LinkTree}
use Rattle.ep_tree.specs.declared.tree.EventTree.{EventTree}
use Rattle.ep_tree.specs.declared.tree.PairsTree.TheVariants.{Same}
use Rattle.ep_types.specs.Names.{Text}
use Rattle.ep_types.specs.Tasks.{event_names}
use Rattle.ep_types.specs.declared.scope.Declared.{Declared}
use Rattle.ep_universe.specs.Objects.{Binding, agents_of}
use Rattle.ep_schema.specs.Actions.{assigns_twice, events_of, event_of as event_at}
use Rattle.ep_schema.specs.Answers.{Refuses, IsOfBody, of_body}
use Rattle.ep_schema.specs.Bodies.{AreBuildableEvents}
use Rattle.ep_universe.specs.Links.{agent_count, place_of, linked, links_of, designated_numbers, last_pairs}
use Rattle.ep_schema.specs.Parts.{AreParts}
use Rattle.ep_universe.specs.Links.{made_links, agent_pairs}
use Rattle.ep_schema.specs.Made.{event, event_link}
use Rattle.ep_universe.proofs.CallerLemmas.{no_position, place_below, pairs_below, few_of_agent, few_made, from_made}
use Rattle.ep_schema.proofs.RepeatLemmas.{firsts, none_repeated, one_repeated}

-- ---- a reply

-- the builder's answer is the action, or that an atom is set twice, or that memory is wanting
pub record IsReply (A : EventModel) (r : Result EventModel ActionError) : Type 0 where
  pub error : IfErr r IsOfBody
  pub value : IfOk (of_body r) (λ B. B ≡ A)
  pub once : OnOk (of_body r) (assigns_twice A ≡ false)
  pub twice : IfErr (of_body r) (Refuses A)

-- that an atom is set twice, where one is
abbrev pub IsTwice : EventModel → ActionError → Type 0
IsTwice A (error.AtomTwice e a) = assigns_twice A ≡ true
IsTwice A _ = ⊥

pub replied : (A : EventModel) (o : Option ActionError) (r : Result EventModel ActionError) → Answers error.OutOfMemory o (λ B. B ≡ A) r → (o ≡ None → assigns_twice A ≡ false) → ((e : ActionError) → o ≡ Some e → IsTwice A e) → IsReply A r
replied A None (Ok B) h none some = record { error = tt; value = h; once = none refl; twice = tt }
replied A None (Err e) h none some = subst (λ e. IsReply A (Err e)) (sym h) (record { error = tt; value = tt; once = tt; twice = tt })
replied A (Some (error.AtomTwice k a)) r h none some = subst (IsReply A) (sym h) (record { error = tt; value = tt; once = tt; twice = some (error.AtomTwice k a) refl })
replied A (Some error.NoEvent) r h none some = absurd (some error.NoEvent refl)
replied A (Some (error.TooManyEvents n)) r h none some = absurd (some (error.TooManyEvents n) refl)
replied A (Some (error.AgentOutOfRange n)) r h none some = absurd (some (error.AgentOutOfRange n) refl)
replied A (Some (error.EventOutOfRange n)) r h none some = absurd (some (error.EventOutOfRange n) refl)
replied A (Some (error.DesignatedOutOfRange n)) r h none some = absurd (some (error.DesignatedOutOfRange n) refl)
replied A (Some error.NoDesignated) r h none some = absurd (some error.NoDesignated refl)
replied A (Some error.OutOfMemory) r h none some = absurd (some error.OutOfMemory refl)

-- ---- assignments under a guard

or-false : (b : Bool) → (b || false) ≡ b
or-false true = refl
or-false false = refl

one_event : (n : ℕ) (f : Node) (sets : List (ℕ × Node)) → assigns_twice (assign n f sets) ≡ not (all_different (firsts sets))
one_event n f sets = or-false (not (all_different (firsts sets)))

assign-twice : (n : ℕ) (f : Node) (sets : List Assign) (o : Option ℕ) → repeated_atom sets ≡ o → (e : ActionError) → option_map (error.AtomTwice 0) o ≡ Some e → IsTwice (assign n f (map set_of sets)) e
assign-twice n f sets None h e q = absurd (none-some e q)
assign-twice n f sets (Some a) h e q =
    let same : error.AtomTwice 0 a ≡ e = cc in
    subst (IsTwice (assign n f (map set_of sets))) same (one_event n f (map set_of sets) ∙ ap not (one_repeated sets (ap is_some h)))

no_error : (o : Option ℕ) → option_map (error.AtomTwice 0) o ≡ None → o ≡ None
no_error None h = refl
no_error (Some a) h = absurd (none-some (error.AtomTwice 0 a) (sym h))

pub reply-assign : (n : ℕ) (f : Node) (sets : List Assign) (r : Result EventModel ActionError) → Answers error.OutOfMemory (option_map (error.AtomTwice 0) (repeated_atom sets)) (λ B. B ≡ assign n f (map set_of sets)) r → IsReply (assign n f (map set_of sets)) r
reply-assign n f sets r h =
    replied (assign n f (map set_of sets)) (option_map (error.AtomTwice 0) (repeated_atom sets)) r h
    (λ none. one_event n f (map set_of sets) ∙ ap not (none_repeated sets (no_error (repeated_atom sets) none)))
    (assign-twice n f sets (repeated_atom sets) refl)

-- ---- events

no_parts : EventParts
no_parts = record { pre = True; sets = [] }

-- whether the assignments of an event repeat an atom
abbrev twice_at : Event → Bool
twice_at e = not (all_different (firsts e.sets))

events-once : (events : List EventParts) → AllByRecursion (λ (x : EventParts). repeated_atom x.sets ≡ None) events → list_any twice_at (map event_of events) ≡ false
events-once [] h = refl
events-once (x ∷ xs) h = rw (none_repeated x.sets h.0) (events-once xs h.1)

any_there : (events : List EventParts) (k : ℕ) → k < length events → is_some (repeated_atom (get_or events k no_parts).sets) ≡ true → list_any twice_at (map event_of events) ≡ true
any_there events k l h =
    let x = get_or events k no_parts in
    to_any twice_at (event_of x) (map event_of events)
    (let i = IsIn-at (map event_of events) k (event_of no_parts) (omega (arith, l, length-map events event_of)) in
    subst (λ y. IsIn y (map event_of events)) (get_or-map event_of events k no_parts (event_of no_parts) l) i)
    (ap not (one_repeated x.sets h))

events-twice : (A : EventModel) (events : List EventParts) → A.events ≡ map event_of events → (o : Option ℕ) → position (λ x. is_some (repeated_atom x.sets)) events ≡ o →
    (e : ActionError) → option_and_then (λ k. option_map (error.AtomTwice k) (repeated_atom (sets_at events k))) o ≡ Some e → IsTwice A e
events-twice A events same None h e q = absurd (none-some e q)
events-twice A events same (Some k) h e q =
    let found = position-Some (λ (x : EventParts). is_some (repeated_atom x.sets)) events k no_parts h in
    named (repeated_atom (sets_at events k)) q (ap (list_any twice_at) same ∙ any_there events k found.0 found.1)
  where
    named : (a : Option ℕ) → option_map (error.AtomTwice k) a ≡ Some e → assigns_twice A ≡ true → IsTwice A e
    named None p t = absurd (none-some e p)
    named (Some a) p t = let here : error.AtomTwice k a ≡ e = cc in subst (IsTwice A) here t

-- ---- no other refusal

-- parts of events that are in range
pub record AreInRange (p : ActionParts) : Type 0 where
  pub some_event : 0 < length p.events
  pub few_events : length p.events ≤ MOST_EVENTS
  pub agents : (l : EventLink) → IsIn l p.links → l.agent.n < p.agents
  pub ends : (l : EventLink) → IsIn l p.links → (l.from.n < length p.events) × (l.to.n < length p.events)
  pub designated : (x : EventId) → IsIn x p.designated → x.n < length p.events
  pub some_designated : 0 < length p.designated

positive : (n : ℕ) → 0 < n → (n == 0) ≡ false
positive n h = grind arith

below : (i n : ℕ) → i < n → not (nat_lt i n) ≡ false
below i n h = grind (arith, nat_tests)

both_below : (i j n : ℕ) → i < n → j < n → not (nat_lt i n && nat_lt j n) ≡ false
both_below i j n h k = grind (arith, nat_tests)

few : (n : ℕ) → n ≤ 16 → nat_lt MOST_EVENTS n ≡ false
few n h = grind (arith, nat_tests)

first-alone : {X : Type 0} (o : Option X) → first_some (o ∷ None ∷ []) ≡ o
first-alone (Some x) = refl
first-alone None = refl

only_twice : (p : ActionParts) → AreInRange p → refusal_of p ≡ atom_twice p.events
only_twice p h =
    let n = length p.events in
    let a : position (λ (l : EventLink). not (nat_lt l.agent.n p.agents)) p.links ≡ None = no_position (λ (l : EventLink). not (nat_lt l.agent.n p.agents)) p.links (λ l i. below l.agent.n p.agents (h.agents l i)) in
    let b : position (λ (l : EventLink). not (nat_lt l.from.n n && nat_lt l.to.n n)) p.links ≡ None =
    no_position (λ (l : EventLink). not (nat_lt l.from.n n && nat_lt l.to.n n)) p.links (λ l i. let e = h.ends l i in both_below l.from.n l.to.n n e.0 e.1) in
    let d : position (λ (x : EventId). not (nat_lt x.n n)) p.designated ≡ None = no_position (λ (x : EventId). not (nat_lt x.n n)) p.designated (λ x i. below x.n n (h.designated x i)) in
    rw (positive n h.some_event, few n h.few_events, a, b, d, positive (length p.designated) h.some_designated) (first-alone (atom_twice p.events))

pub reply-build : (p : ActionParts) (A : EventModel) (r : Result EventModel ActionError) → AreInRange p → built p ≡ A → Answers error.OutOfMemory (refusal_of p) (λ B. B ≡ built p) r → IsReply A r
reply-build p A r h same answers =
    let events : A.events ≡ map event_of p.events = ap (λ (B : EventModel). B.events) (sym same) in
    replied A (refusal_of p) r (subst (λ B. Answers error.OutOfMemory (refusal_of p) (λ C. C ≡ B) r) same answers)
    (λ none. ap (list_any twice_at) events ∙ events-once p.events (are_fine p none).distinct)
    (λ e q. events-twice A p.events events (position (λ x. is_some (repeated_atom x.sets)) p.events) refl e (sym (only_twice p h) ∙ q))

-- ---- the links and the designated events of parts

pub table_below : {X : Type 0} (f g : ℕ → X) (n : ℕ) → ((i : ℕ) → i < n → f i ≡ g i) → table f n ≡ table g n
table_below f g zero h = refl
table_below f g (suc n) h = rw (table_below f g n (λ i l. h i (omega arith)), h n (omega arith)) refl

other_agent : (k a i j : ℕ) (ps : List (ℕ × ℕ)) → k ≢ a → has_link (map (event_link k) ps) a i j ≡ false
other_agent k a i j [] d = refl
other_agent k a i j (p ∷ ps) d = rw (ne_eqb k a d) (other_agent k a i j ps d)

same_agent : (a i j : ℕ) (ps : List (ℕ × ℕ)) → has_link (map (event_link a) ps) a i j ≡ has_pair ps i j
same_agent a i j [] = refl
same_agent a i j (p ∷ ps) = rw (test_itself a) (ap (λ b. ((p.0 == i) && (p.1 == j)) || b) (same_agent a i j ps))

abbrev links_to : (ℕ → List (ℕ × ℕ)) → ℕ → List EventLink
links_to g n = made_links event_link g n

link-append : (xs ys : List EventLink) (a i j : ℕ) → has_link (xs ++ ys) a i j ≡ (has_link xs a i j || has_link ys a i j)
link-append xs ys a i j = list_any-append (λ (l : EventLink). (l.agent.n == a) && ((l.from.n == i) && (l.to.n == j))) xs ys

past_agents : (g : ℕ → List (ℕ × ℕ)) (n a i j : ℕ) → n ≤ a → has_link (links_to g n) a i j ≡ false
past_agents g zero a i j h = refl
past_agents g (suc n) a i j h =
    link-append (links_to g n) (map (event_link n) (g n)) a i j
    ∙ rw (past_agents g n a i j (omega arith), other_agent n a i j (g n) (λ e. omega arith)) refl

link-made : (g : ℕ → List (ℕ × ℕ)) (n a i j : ℕ) → a < n → has_link (links_to g n) a i j ≡ has_pair (g a) i j
link-made g zero a i j h = absurd (omega arith)
link-made g (suc n) a i j h = link-append (links_to g n) (map (event_link n) (g n)) a i j ∙ ⊎_elim
    (λ (e : a ≡ n). rw (past_agents g n a i j (omega arith)) (subst (λ k. has_link (map (event_link k) (g k)) a i j ≡ has_pair (g a) i j) e (same_agent a i j (g a))))
    (λ (l : a < n). rw (link-made g n a i j l, other_agent n a i j (g n) (λ e. omega arith)) (or-false (has_pair (g a) i j)))
    (last_or_before a n h)

event-named : (f : Name → ℕ) (xs : List Name) (e : ℕ) → has_event (map (λ x. event (f x)) xs) e ≡ has_number (map f xs) e
event-named f [] e = refl
event-named f (x ∷ xs) e = ap (λ b. (f x == e) || b) (event-named f xs e)

-- ---- the parts of a general action

module _ (d : Declared) (b : Binding) (events : List EventTree) (designated : List Name) (links : List LinkTree) (p : ActionParts) (are : AreParts d b events designated links p) (fine : AreBuildableEvents d events designated links) where
  abbrev names : List Text
  names = event_names events

  as_many : length p.events ≡ length names
  as_many = sym (length-map p.events event_of) ∙ ap length are.events ∙ length-map events (event_at d b) ∙ sym (length-map events (λ e. e.name.text))

  pub parts_in_range : AreInRange p
  parts_in_range = record {
    some_event = omega (arith, as_many, fine.ends.some_name);
    few_events = omega (arith, as_many, length-map events (λ e. e.name.text), fine.few_events);
    agents = λ l i.
        let r = from_made event_link (agent_pairs d b names links) (agent_count d) l (subst (IsIn l) are.links i) in
        let e = ap (λ (x : EventLink). x.agent.n) r.4 in
        omega (arith, e, r.2, are.agents);
    ends = λ l i.
        let r = from_made event_link (agent_pairs d b names links) (agent_count d) l (subst (IsIn l) are.links i) in
        let q = pairs_below names (last_pairs d b r.0 Same links) fine.ends.some_name r.1 r.3 in
        let e = ap (λ (x : EventLink). x.from.n) r.4 in
        let f = ap (λ (x : EventLink). x.to.n) r.4 in
        (omega (arith, e, q.0, as_many), omega (arith, f, q.1, as_many));
    designated = λ x i.
        let r = from_map (λ y. event (place_of names y)) x designated (subst (IsIn x) are.designated i) in
        let e = ap (λ (z : EventId). z.n) r.2 in
        omega (arith, e, place_below names r.0 fine.ends.some_name, as_many);
    some_designated = omega (arith, ap length are.designated, length-map designated (λ y. event (place_of names y)), fine.ends.some_designated);
  }

  pub few_links : length (agents_of d) ≤ MOST_AGENTS → length p.links < 4294967296
  few_links few =
      let all = few_made event_link (agent_pairs d b names links) MOST_TOKENS (agent_count d) (λ a. few_of_agent d b names links a fine.ends.few_names fine.ends.few_pairs) in
      omega (arith, all, ap length are.links, few)

  pub few_ids : length p.designated < 4294967296
  few_ids = omega (arith, ap length are.designated, length-map designated (λ y. event (place_of names y)), fine.ends.few_designated)

  pub few_parts : length p.events < 4294967296
  few_parts = omega (arith, parts_in_range.few_events)

  pub same_model : built p ≡ events_of d b events designated links
  same_model =
      let of_agent : (a : ℕ) → a < agent_count d → pairs_where (has_link p.links a) (length p.events) ≡ linked names (last_pairs d b a Same links) = λ a h.
      ap (λ ls. pairs_where (has_link ls a) (length p.events)) are.links
      ∙ (λ k. pairs_where (λ i j. link-made (agent_pairs d b names links) (agent_count d) a i j h k) (as_many k)) in
      let all_links : table (λ a. pairs_where (has_link p.links a) (length p.events)) p.agents ≡ links_of d b names links =
      ap (table (λ a. pairs_where (has_link p.links a) (length p.events))) are.agents
      ∙ table_below (λ a. pairs_where (has_link p.links a) (length p.events)) (λ a. linked names (last_pairs d b a Same links)) (agent_count d) of_agent in
      let ids : numbers_where (has_event p.designated) (length p.events) ≡ designated_numbers names designated =
      ap (λ xs. numbers_where (has_event xs) (length p.events)) are.designated
      ∙ (λ k. numbers_where (λ e. event-named (place_of names) designated e k) (as_many k)) in
      λ k. record { events = are.events k; links = all_links k; designated = ids k }

  pub general_reply : (r : Result EventModel ActionError) → Answers error.OutOfMemory (refusal_of p) (λ B. B ≡ built p) r → IsReply (events_of d b events designated links) r
  general_reply r answers = reply-build p (events_of d b events designated links) r parts_in_range same_model answers
