-- What the builder of states answers for parts that an explicit state gives.
use Rattle.std.proofs.Common.{◌≡◌, ℕ, zero, suc, ◌<◌, ◌≤◌, Bool, true, false, not, ◌||◌, ◌==◌, None, Result, Ok, Err, IfOk, IfErr, MatchOption, List, [], ◌∷◌, ◌++◌, length, map, get_or, set, position, refl, ap, sym, ◌∙◌, subst, arith, inl, inr, nat_lt, eq-eqb}
use Rattle.std.specs.List.{AllByRecursion}
use Rattle.std.proofs.lemmas.Bool.{ne_eqb, cases_eq, cases_lt}
use Rattle.std.proofs.lemmas.Bool.Decides.{nat_tests}
use Rattle.std.proofs.lemmas.Option.{none-some}
use Rattle.std.proofs.lemmas.List.{length-map, same_lists, get_or_past, length-set, get_or-set_same, get_or-set_other}
use Rattle.std.proofs.lemmas.List.Folds.{list_any-append}
use Rattle.ep_lex.specs.declared.limits.TheConstants.{MOST_TOKENS}
use Rattle.ep_logic.specs.declared.limits.TheConstants.{MOST_AGENTS}
use Rattle.ep_logic.specs.declared.ids.WorldId.{WorldId}
use Rattle.ep_theory.specs.Rising.{IsIn, IsRising}
use Rattle.ep_theory.specs.Kripke.{Kripke, IsState, pair_cmp}
use Rattle.ep_logic.specs.Numbers.{has_number, has_pair, table}
use Rattle.ep_theory.proofs.CallerLemmas.{from_map, IsIn-map, All-from_each, test_itself, from_table, in_numbers, from_numbers, in_pairs, from_pairs, rising_numbers, rising_pairs, to_has_number, from_has_number, to_has_pair, from_has_pair}
use Rattle.ep_logic.proofs.CallerLemmas.{length-table, get_or-table}
use Rattle.ep_kripke.specs.declared.parts.Link.{Link}
use Rattle.ep_kripke.specs.declared.parts.StateParts.{StateParts}
use Rattle.ep_kripke.specs.declared.parts.StateError.{StateError}
use Rattle.ep_kripke.specs.declared.parts.StateError.TheVariants as error
use Rattle.ep_base.specs.Refusals.{IsRefusal}
use Rattle.ep_kripke.specs.Parts.{link, world, IsMadeOf, fault_of, is_world}
use Rattle.ep_kripke.proofs.CallerLemmas.{one_state}
use Rattle.ep_tree.specs.declared.tree.Name.{Name}
use Rattle.ep_tree.specs.declared.tree.LinkTree.{LinkTree}
use Rattle.ep_tree.specs.declared.tree.WorldTree.{WorldTree}
use Rattle.ep_tree.specs.declared.tree.PairsTree.TheVariants.{Same}
use Rattle.ep_types.specs.Names.{Text}
use Rattle.ep_types.specs.Tasks.{world_names}
use Rattle.ep_types.specs.declared.scope.Declared.{Declared}
use Rattle.ep_universe.specs.Objects.{agents_of}
use Rattle.ep_universe.specs.Atoms.{atoms_of}
use Rattle.ep_initial.specs.Explicit.{IsBuildableState}
use Rattle.ep_initial.specs.Explicit.{explicit_state, truth_at}
use Rattle.ep_universe.specs.Links.{agent_count, place_of, linked, links_of, designated_numbers, last_pairs}
use Rattle.ep_initial.specs.Made.{world_link}
use Rattle.ep_universe.specs.Links.{agent_pairs}
use Rattle.ep_initial.specs.Parts.{AreStateParts}
use Rattle.ep_universe.proofs.CallerLemmas.{no_position, place_below, pairs_below, few_of_agent, few_made, from_made, to_made}

-- ---- the state

module _ (d : Declared) (worlds : List WorldTree) (designated : List Name) (links : List LinkTree) (p : StateParts) (are : AreStateParts d worlds designated links p) (fine : IsBuildableState worlds designated links) where
  abbrev names : List Text
  names = world_names worlds

  abbrev S : Kripke
  S = explicit_state d worlds designated links

  abbrev of_agent : ℕ → List (ℕ × ℕ)
  of_agent = agent_pairs d [] names links

  as_many : length p.truth ≡ length names
  as_many = ap length are.truth ∙ length-map worlds (truth_at d) ∙ sym (length-map worlds (λ w. w.name.text))

  many_worlds : length worlds ≡ length names
  many_worlds = sym (length-map worlds (λ w. w.name.text))

  -- ---- no refusal

  below : (i n : ℕ) → i < n → not (nat_lt i n) ≡ false
  below i n h = grind (arith, nat_tests)

  both_below : (i j n : ℕ) → i < n → j < n → (not (nat_lt i n) || not (nat_lt j n)) ≡ false
  both_below i j n h k = grind (arith, nat_tests)

  positive : (n : ℕ) → 0 < n → (n == 0) ≡ false
  positive n h = grind arith

  wide : (row : List Bool) → IsIn row p.truth → not (length row == p.atoms) ≡ false
  wide row i =
      let r = from_map (truth_at d) row worlds (subst (IsIn row) are.truth i) in
      ap not (eq-eqb (length row) p.atoms (ap length r.2 ∙ length-table _ (length (atoms_of d)) ∙ sym are.atoms))

  link_agent : (l : Link) → IsIn l p.links → not (nat_lt l.agent.n p.agents) ≡ false
  link_agent l i =
      let r = from_made world_link of_agent (agent_count d) l (subst (IsIn l) are.links i) in
      below l.agent.n p.agents (let e = ap (λ (x : Link). x.agent.n) r.4 in omega (arith, e, r.2, are.agents))

  link_ends : (l : Link) → IsIn l p.links → (not (is_world p l.from) || not (is_world p l.to)) ≡ false
  link_ends l i =
      let r = from_made world_link of_agent (agent_count d) l (subst (IsIn l) are.links i) in
      let q = pairs_below names (last_pairs d [] r.0 Same links) fine.some_name r.1 r.3 in
      let e = ap (λ (x : Link). x.from.n) r.4 in
      let f = ap (λ (x : Link). x.to.n) r.4 in
      both_below l.from.n l.to.n (length p.truth) (omega (arith, e, q.0, as_many)) (omega (arith, f, q.1, as_many))

  named_world : (x : WorldId) → IsIn x p.designated → not (is_world p x) ≡ false
  named_world x i =
      let r = from_map (λ y. world (place_of names y)) x designated (subst (IsIn x) are.designated i) in
      below x.n (length p.truth) (let e = ap (λ (z : WorldId). z.n) r.2 in omega (arith, e, place_below names r.0 fine.some_name, as_many))

  some_chosen : 0 < length p.designated
  some_chosen = omega (arith, ap length are.designated, length-map designated (λ y. world (place_of names y)), fine.some_designated)

  no_fault : fault_of p ≡ None
  no_fault =
      let a : position (λ (row : List Bool). not (length row == p.atoms)) p.truth ≡ None = no_position (λ (row : List Bool). not (length row == p.atoms)) p.truth wide in
      let b : position (λ (l : Link). not (nat_lt l.agent.n p.agents)) p.links ≡ None = no_position (λ (l : Link). not (nat_lt l.agent.n p.agents)) p.links link_agent in
      let c : position (λ (l : Link). not (is_world p l.from) || not (is_world p l.to)) p.links ≡ None = no_position (λ (l : Link). not (is_world p l.from) || not (is_world p l.to)) p.links link_ends in
      let e : position (λ (x : WorldId). not (is_world p x)) p.designated ≡ None = no_position (λ (x : WorldId). not (is_world p x)) p.designated named_world in
      rw (positive (length p.truth) (omega (arith, as_many, fine.some_name)), a, b, c, e, positive (length p.designated) some_chosen) refl

  pub memory_wanting : (r : Result Kripke StateError) → IfErr r (IsRefusal error.OutOfMemory (fault_of p)) → IfErr r (λ e. e ≡ error.OutOfMemory)
  memory_wanting (Ok R) h = tt
  memory_wanting (Err e) h = subst (λ f. MatchOption f (e ≡ error.OutOfMemory) (λ x. e ≡ x)) no_fault h

  -- ---- the explicit state is one, made of the parts

  chosen_within : (w : ℕ) → IsIn w (designated_numbers names designated) → w < length worlds
  chosen_within w i = let r = from_numbers (has_number (map (place_of names) designated)) (length names) w i in omega (arith, r.0, many_worlds)

  to_chosen : (x : Name) → IsIn x designated → IsIn (place_of names x) (designated_numbers names designated)
  to_chosen x i = in_numbers (has_number (map (place_of names) designated)) (length names) (place_of names x) (place_below names x fine.some_name)
      (to_has_number (map (place_of names) designated) (place_of names x) (IsIn-map (place_of names) x designated i))

  from_chosen : (w : ℕ) → IsIn w (designated_numbers names designated) → (x : Name) × IsIn x designated × (w ≡ place_of names x)
  from_chosen w i =
      let r = from_numbers (has_number (map (place_of names) designated)) (length names) w i in
      from_map (place_of names) w designated (from_has_number (map (place_of names) designated) w r.1)

  abbrev pairs_at : ℕ → List (ℕ × ℕ)
  pairs_at a = linked names (last_pairs d [] a Same links)

  links_rising : (pairs : List (ℕ × ℕ)) → IsIn pairs (links_of d [] names links) → IsRising pair_cmp pairs
  links_rising pairs i =
      let r = from_table pairs_at (agent_count d) pairs i in
      subst (IsRising pair_cmp) (sym r.2) (rising_pairs (has_pair (of_agent r.0)) (length names) (length names))

  links_within : (pairs : List (ℕ × ℕ)) → IsIn pairs (links_of d [] names links) → AllByRecursion (λ (q : ℕ × ℕ). (q.0 < length worlds) × (q.1 < length worlds)) pairs
  links_within pairs i =
      let r = from_table pairs_at (agent_count d) pairs i in
      All-from_each (λ (q : ℕ × ℕ). (q.0 < length worlds) × (q.1 < length worlds)) pairs (λ q j.
      let c = from_pairs (has_pair (of_agent r.0)) (length names) (length names) q (subst (IsIn q) r.2 j) in
      (omega (arith, c.0, many_worlds), omega (arith, c.1, many_worlds)))

  first_of : (xs : List Name) → 0 < length xs → (x : Name) × IsIn x xs
  first_of [] h = absurd (omega arith)
  first_of (x ∷ xs) h = (x, inl refl)

  is_state : IsState S
  is_state = record {
    some_world = omega (arith, many_worlds, fine.some_name);
    truths = length-map worlds (truth_at d);
    each_truth = All-from_each (λ (t : List Bool). length t ≡ length (atoms_of d)) (map (truth_at d) worlds) (λ t i. let r = from_map (truth_at d) t worlds i in ap length r.2 ∙ length-table _ (length (atoms_of d)));
    relations = length-table pairs_at (agent_count d);
    rising = All-from_each (IsRising pair_cmp) (links_of d [] names links) links_rising;
    within = All-from_each (λ pairs. AllByRecursion (λ (q : ℕ × ℕ). (q.0 < length worlds) × (q.1 < length worlds)) pairs) (links_of d [] names links) links_within;
    designated_rising = rising_numbers (has_number (map (place_of names) designated)) (length names);
    designated_within = All-from_each (λ w. w < length worlds) (designated_numbers names designated) chosen_within;
    some_designated = λ none. let x = first_of designated fine.some_designated in subst (IsIn (place_of names x.0)) none (to_chosen x.0 x.1);
  }

  past : (f : ℕ → List (ℕ × ℕ)) (n a : ℕ) (q : ℕ × ℕ) → IsIn q (get_or (table f n) a []) → a < n
  past f n a q i = elim (cases_lt a n) [
    | inl l ↦ l
    | inr g ↦ absurd (subst (IsIn q) (get_or_past (table f n) a [] (omega (arith, g, length-table f n))) i)
  ]

  linked_from : (a w v : ℕ) → IsIn (w, v) (get_or (links_of d [] names links) a []) → IsIn (link a w v) p.links
  linked_from a w v i =
      let l = past pairs_at (agent_count d) a (w, v) i in
      let c = from_pairs (has_pair (of_agent a)) (length names) (length names) (w, v) (subst (IsIn (w, v)) (get_or-table pairs_at (agent_count d) a [] l) i) in
      subst (IsIn (link a w v)) (sym are.links) (to_made world_link of_agent (agent_count d) a (w, v) l (from_has_pair (of_agent a) w v c.2))

  linked_to : (a w v : ℕ) → IsIn (link a w v) p.links → IsIn (w, v) (get_or (links_of d [] names links) a [])
  linked_to a w v i =
      let r = from_made world_link of_agent (agent_count d) (link a w v) (subst (IsIn (link a w v)) are.links i) in
      let agent : a ≡ r.0 = ap (λ (x : Link). x.agent.n) r.4 in
      let from : w ≡ r.1.0 = ap (λ (x : Link). x.from.n) r.4 in
      let to : v ≡ r.1.1 = ap (λ (x : Link). x.to.n) r.4 in
      let q = pairs_below names (last_pairs d [] r.0 Same links) fine.some_name r.1 r.3 in
      let here : IsIn r.1 (pairs_at r.0) = in_pairs (has_pair (of_agent r.0)) (length names) (length names) r.1.0 r.1.1 q.0 q.1 (to_has_pair (of_agent r.0) r.1.0 r.1.1 r.3) in
      let there : IsIn r.1 (get_or (links_of d [] names links) r.0 []) = subst (IsIn r.1) (sym (get_or-table pairs_at (agent_count d) r.0 [] r.2)) here in
      transp there agent from to
    where
      transp : {a b w x v y : ℕ} → IsIn (x, y) (get_or (links_of d [] names links) b []) → a ≡ b → w ≡ x → v ≡ y → IsIn (w, v) (get_or (links_of d [] names links) a [])
      transp {a} {b} {w} {x} {v} {y} h e f g =
          subst (λ k. IsIn (k, v) (get_or (links_of d [] names links) a [])) (sym f)
          (subst (λ k. IsIn (x, k) (get_or (links_of d [] names links) a [])) (sym g)
          (subst (λ k. IsIn (x, y) (get_or (links_of d [] names links) k [])) (sym e) h))

  named_from : (w : ℕ) → IsIn w (designated_numbers names designated) → IsIn (world w) p.designated
  named_from w i =
      let r = from_chosen w i in
      subst (IsIn (world w)) (sym are.designated) (subst (λ k. IsIn (world k) (map (λ y. world (place_of names y)) designated)) (sym r.2) (IsIn-map (λ y. world (place_of names y)) r.0 designated r.1))

  named_to : (w : ℕ) → IsIn (world w) p.designated → IsIn w (designated_numbers names designated)
  named_to w i =
      let r = from_map (λ y. world (place_of names y)) (world w) designated (subst (IsIn (world w)) are.designated i) in
      let same : w ≡ place_of names r.0 = ap (λ (x : WorldId). x.n) r.2 in
      subst (λ k. IsIn k (designated_numbers names designated)) (sym same) (to_chosen r.0 r.1)

  is_made : IsMadeOf p S
  is_made = record {
    worlds = many_worlds ∙ sym as_many;
    agents = sym are.agents;
    atoms = sym are.atoms;
    truth = sym are.truth;
    links = λ a w v. (linked_from a w v, linked_to a w v);
    designated = λ w. (named_from w, named_to w);
  }

  pub same_explicit : (R : Kripke) → IsState R → IsMadeOf p R → R ≡ S
  same_explicit R r made = one_state p R S r is_state made is_made

  pub made_explicit : {E : Type 0} (m : Result Kripke E) (r : Result Kripke StateError) → IfOk m (λ R. r ≡ Ok R) → IfOk r (IsMadeOf p) → IfOk r IsState → IfOk m (λ R. R ≡ S)
  made_explicit (Ok R) r h made valid =
      same_explicit R
      (let P : Result Kripke StateError → Type 0 = λ x. IfOk x IsState in subst P h valid)
      (let P : Result Kripke StateError → Type 0 = λ x. IfOk x (IsMadeOf p) in subst P h made)
  made_explicit (Err e) r h made valid = tt

  pub few_links : length (agents_of d) ≤ MOST_AGENTS → length p.links < 4294967296
  few_links few =
      let all = few_made world_link of_agent MOST_TOKENS (agent_count d) (λ a. few_of_agent d [] names links a fine.few_names fine.few_pairs) in
      omega (arith, all, ap length are.links, few)

  pub few_ids : length p.designated < 4294967296
  few_ids = omega (arith, ap length are.designated, length-map designated (λ y. world (place_of names y)), fine.few_designated)

  pub few_rows : length p.truth ≤ 65536
  few_rows = omega (arith, as_many, fine.few_names)
