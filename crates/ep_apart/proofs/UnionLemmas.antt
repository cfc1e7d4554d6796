-- The state that is built from the parts of two states.
use Rattle.std.proofs.Common.{◌≡◌, ◌≢◌, ℕ, zero, suc, ◌<◌, ◌≤◌, ◌+◌, ◌*◌, ◌⊎◌, inl, inr, ⊎_elim, Bool, true, false, cond, not, ◌||◌, ◌==◌, nat_lt, List, [], ◌∷◌, ◌++◌, length, get_or, position, refl, sym, ap, ap₂, subst, ◌∙◌, arith, length-append, Some, None, Result, Ok, Err, IfErr, eq-eqb, mul-le-mul}
use Rattle.std.specs.List.{position_or_len}
use Rattle.std.proofs.lemmas.Bool.Decides.{nat_tests}
use Rattle.std.proofs.lemmas.List.{length-map, get_or-append-add}
use Rattle.std.proofs.lemmas.List.Sums.{position_or_len_is}
use Rattle.ep_logic.specs.declared.ids.WorldId.{WorldId}
use Rattle.ep_theory.specs.Rising.{IsIn}
use Rattle.ep_logic.specs.Numbers.{numbers_where, has_pair, has_number}
use Rattle.ep_theory.specs.Kripke.{Kripke, IsState, links_of, successors}
use Rattle.ep_theory.proofs.CallerLemmas.{IsIn-at, IsIn-map, IsIn-successors, at_All, from_map, from_successors, in_left, in_parts, in_right, last_or_before, links_within, rising_is_numbers, successors_are_numbers}
use Rattle.ep_kripke.specs.declared.parts.Link.{Link}
use Rattle.ep_kripke.specs.declared.parts.StateParts.{StateParts}
use Rattle.ep_kripke.specs.declared.parts.StateError.{StateError}
use Rattle.ep_kripke.specs.declared.parts.StateError.TheVariants as error
use Rattle.ep_base.specs.Refusals.{IsRefusal}
use Rattle.ep_kripke.specs.Parts.{link, world, IsMadeOf, fault_of, is_world}
use Rattle.ep_apart.specs.Union.{links_from, agent_links, all_links, moved_worlds, AreBoth, IsPart}
use Rattle.ep_apart.proofs.TableLemmas.{get_left}

-- how many links and worlds there are
few_numbers : (p : ℕ → Bool) (n : ℕ) → length (numbers_where p n) ≤ n
few_numbers p zero = omega arith
few_numbers p (suc n) =
    let long = length-append (numbers_where p n) (cond (p n) (n ∷ []) []) in
    let rest = few_numbers p n in
    let one = one_more (p n) n in
    omega (arith, long, rest, one)
  where
    one_more : (b : Bool) (n : ℕ) → length (cond b (n ∷ []) []) ≤ 1
    one_more true n = omega arith
    one_more false n = omega arith

few_from : (S : Kripke) → IsState S → (shift a w b : ℕ) → S.worlds ≤ b → length (links_from S shift a w) ≤ b
few_from S s shift a w b l =
    let m = length-map (successors (links_of S a) w) (λ v. link a (shift + w) (shift + v)) in
    let e = ap length (successors_are_numbers S s a w) in
    let f = few_numbers (has_pair (links_of S a) w) S.worlds in
    omega arith

few_of_agent : (S : Kripke) → IsState S → (shift a n b : ℕ) → S.worlds ≤ b → length (agent_links S shift a n) ≤ n * b
few_of_agent S s shift a zero b l = omega arith
few_of_agent S s shift a (suc n) b l =
    let r = few_of_agent S s shift a n b l in
    let f = few_from S s shift a n b l in
    let m = length-append (agent_links S shift a n) (links_from S shift a n) in
    let e : suc n * b ≡ n * b + b = omega arith in
    omega arith

few_of_all : (S : Kripke) → IsState S → (shift n b : ℕ) → S.worlds ≤ b → length (all_links S shift n) ≤ n * (S.worlds * b)
few_of_all S s shift zero b l = omega arith
few_of_all S s shift (suc n) b l =
    let r = few_of_all S s shift n b l in
    let f = few_of_agent S s shift n S.worlds b l in
    let m = length-append (all_links S shift n) (agent_links S shift n S.worlds) in
    let e : suc n * (S.worlds * b) ≡ n * (S.worlds * b) + S.worlds * b = omega arith in
    omega arith

few_links : (S : Kripke) → IsState S → (shift : ℕ) → S.worlds ≤ 256 → S.agents ≤ 8 → length (all_links S shift S.agents) ≤ 524288
few_links S s shift l a =
    let f = few_of_all S s shift S.agents 256 l in
    let g : S.worlds * 256 ≤ 65536 = omega arith in
    let h = product_le S.agents 8 (S.worlds * 256) 65536 a g in
    omega arith
  where
    product_le : (a b x y : ℕ) → a ≤ b → x ≤ y → a * x ≤ b * y
    product_le a b x y f g = mul-le-mul f g

few_designated : (S : Kripke) → IsState S → length S.designated ≤ S.worlds
few_designated S s =
    let e = ap length (rising_is_numbers S.worlds S.designated s.designated_rising s.designated_within) in
    let f = few_numbers (has_number S.designated) S.worlds in
    omega arith

-- what stands among the links
from_agent : (S : Kripke) (shift a n : ℕ) (l : Link) → IsIn l (agent_links S shift a n) → (w : ℕ) × (v : ℕ) × IsIn (w, v) (links_of S a) × (l ≡ link a (shift + w) (shift + v))
from_agent S shift a zero l i = absurd i
from_agent S shift a (suc n) l i = ⊎_elim
    (λ (j : IsIn l (agent_links S shift a n)). from_agent S shift a n l j)
    (λ (j : IsIn l (links_from S shift a n)).
    let m = from_map (λ v. link a (shift + n) (shift + v)) l (successors (links_of S a) n) j in
    (n, m.0, from_successors n m.0 (links_of S a) m.1, m.2))
    (in_parts l (agent_links S shift a n) (links_from S shift a n) i)

from_links : (S : Kripke) (shift n : ℕ) (l : Link) → IsIn l (all_links S shift n) → (a : ℕ) × (a < n) × (w : ℕ) × (v : ℕ) × IsIn (w, v) (links_of S a) × (l ≡ link a (shift + w) (shift + v))
from_links S shift zero l i = absurd i
from_links S shift (suc n) l i = ⊎_elim
    (λ (j : IsIn l (all_links S shift n)). let r = from_links S shift n l j in (r.0, (let b = r.1 in omega arith), r.2, r.3, r.4, r.5))
    (λ (j : IsIn l (agent_links S shift n S.worlds)). let r = from_agent S shift n S.worlds l j in (n, (omega arith), r.0, r.1, r.2, r.3))
    (in_parts l (all_links S shift n) (agent_links S shift n S.worlds) i)

to_agent : (S : Kripke) (shift a n w v : ℕ) → w < n → IsIn (w, v) (links_of S a) → IsIn (link a (shift + w) (shift + v)) (agent_links S shift a n)
to_agent S shift a zero w v l i = absurd (omega arith)
to_agent S shift a (suc n) w v l i = ⊎_elim
    (λ (q : w ≡ n). in_right (link a (shift + w) (shift + v)) (agent_links S shift a n) (links_from S shift a n)
    (subst (λ z. IsIn (link a (shift + w) (shift + v)) (links_from S shift a z)) q
    (IsIn-map (λ v. link a (shift + w) (shift + v)) v (successors (links_of S a) w) (IsIn-successors w v (links_of S a) i))))
    (λ (b : w < n). in_left (link a (shift + w) (shift + v)) (agent_links S shift a n) (links_from S shift a n) (to_agent S shift a n w v b i))
    (last_or_before w n l)

to_links : (S : Kripke) (shift n a w v : ℕ) → a < n → w < S.worlds → IsIn (w, v) (links_of S a) → IsIn (link a (shift + w) (shift + v)) (all_links S shift n)
to_links S shift zero a w v l b i = absurd (omega arith)
to_links S shift (suc n) a w v l b i = ⊎_elim
    (λ (q : a ≡ n). in_right (link a (shift + w) (shift + v)) (all_links S shift n) (agent_links S shift n S.worlds)
    (subst (λ z. IsIn (link a (shift + w) (shift + v)) (agent_links S shift z S.worlds)) q (to_agent S shift a S.worlds w v b i)))
    (λ (c : a < n). in_left (link a (shift + w) (shift + v)) (all_links S shift n) (agent_links S shift n S.worlds) (to_links S shift n a w v c b i))
    (last_or_before a n l)

-- no part has a fault
outside : (n : ℕ) → nat_lt n n ≡ false
outside n = grind (arith, nat_tests)

no_position : {X : Type 0} (p : X → Bool) (xs : List X) → ((x : X) → IsIn x xs → p x ≡ false) → position p xs ≡ None
no_position p [] h = refl
no_position p (x ∷ xs) h =
    let e : position_or_len p (x ∷ xs) ≡ length (x ∷ xs) = position_or_len_is p (x ∷ xs) (length (x ∷ xs)) x (omega arith)
    (λ k m. h (get_or (x ∷ xs) k x) (IsIn-at (x ∷ xs) k x m)) (λ m. absurd (omega (arith, m))) in
    ap (λ k. cond (nat_lt k (length (x ∷ xs))) (Some k) None) e ∙ ap (λ b. cond b (Some (length (x ∷ xs))) None) (outside (length (x ∷ xs)))

below : (m n : ℕ) → m < n → not (nat_lt m n) ≡ false
below m n h = grind (arith, nat_tests)

both_below : (m k n : ℕ) → m < n → k < n → (not (nat_lt m n) || not (nat_lt k n)) ≡ false
both_below m k n h g = ap₂ (λ a b. a || b) (below m n h) (below k n g)

positive : (n : ℕ) → 0 < n → (n == 0) ≡ false
positive n h = grind (arith, nat_tests)

-- every agent's links are among those of the first ones
linked_agent : (S : Kripke) → IsState S → (a w v : ℕ) → IsIn (w, v) (links_of S a) → a < S.agents
linked_agent S s a w v i = ⊎_elim
    (λ (l : a < S.agents). l)
    (λ (g : S.agents ≤ a). absurd (go S.links a (let r = s.relations in omega arith) i))
    (lt_or_le a S.agents)
  where
    lt_or_le : (m n : ℕ) → (m < n) ⊎ (n ≤ m)
    lt_or_le m n = grind arith

    go : (ls : List (List (ℕ × ℕ))) (a : ℕ) → length ls ≤ a → IsIn {A = ℕ × ℕ} (w, v) (get_or ls a []) → ⊥
    go [] a l i = i
    go (p ∷ ps) zero l i = absurd (omega arith)
    go (p ∷ ps) (suc a) l i = go ps a (omega arith) i

module _ (S T : Kripke) (s : IsState S) (t : IsState T) (agents : S.agents ≡ T.agents) (atoms : S.atoms ≡ T.atoms) (p : StateParts) (b : AreBoth S T p) where
  pub as_many : length p.truth ≡ S.worlds + T.worlds
  as_many =
      let e = ap length b.truth in
      let a = length-append S.truth T.truth in
      let x = s.truths in
      let y = t.truths in
      omega arith

  pub few_parts_links : S.worlds ≤ 256 → T.worlds ≤ 256 → S.agents ≤ 8 → length p.links ≤ 1048576
  few_parts_links l m a =
      let e = ap length b.links in
      let x = length-append (all_links S 0 S.agents) (all_links T S.worlds T.agents) in
      let f = few_links S s 0 l a in
      let g = few_links T t S.worlds m (omega arith) in
      omega arith

  pub few_parts_designated : S.worlds ≤ 256 → T.worlds ≤ 256 → length p.designated ≤ 512
  few_parts_designated l m =
      let e = ap length b.designated in
      let x = length-append (moved_worlds 0 S.designated) (moved_worlds S.worlds T.designated) in
      let f = length-map S.designated (λ w. world (0 + w)) in
      let g = length-map T.designated (λ w. world (S.worlds + w)) in
      let h = few_designated S s in
      let k = few_designated T t in
      omega arith

  wide : (row : List Bool) → IsIn row p.truth → not (length row == p.atoms) ≡ false
  wide row i =
      let e : length row ≡ p.atoms = ⊎_elim
      (λ (j : IsIn row S.truth). at_All (λ r. length r ≡ S.atoms) row S.truth s.each_truth j ∙ sym b.atoms)
      (λ (j : IsIn row T.truth). at_All (λ r. length r ≡ T.atoms) row T.truth t.each_truth j ∙ sym atoms ∙ sym b.atoms)
      (in_parts row S.truth T.truth (subst (IsIn row) b.truth i)) in
      ap not (eq-eqb (length row) p.atoms e)

  -- a link of the parts
  abbrev IsOfOne : Link → Type 0
  IsOfOne l = ((a : ℕ) × (a < S.agents) × (w : ℕ) × (v : ℕ) × IsIn (w, v) (links_of S a) × (l ≡ link a (0 + w) (0 + v)))
      ⊎ ((a : ℕ) × (a < T.agents) × (w : ℕ) × (v : ℕ) × IsIn (w, v) (links_of T a) × (l ≡ link a (S.worlds + w) (S.worlds + v)))

  from_parts : (l : Link) → IsIn l p.links → IsOfOne l
  from_parts l i = ⊎_elim
      (λ (j : IsIn l (all_links S 0 S.agents)). inl (from_links S 0 S.agents l j))
      (λ (j : IsIn l (all_links T S.worlds T.agents)). inr (from_links T S.worlds T.agents l j))
      (in_parts l (all_links S 0 S.agents) (all_links T S.worlds T.agents) (subst (IsIn l) b.links i))

  link_agent : (l : Link) → IsIn l p.links → not (nat_lt l.agent.n p.agents) ≡ false
  link_agent l i = below l.agent.n p.agents (elim (from_parts l i) [
    | inl r ↦ (let e = ap (λ (x : Link). x.agent.n) r.5 in let g = b.agents in let h = r.1 in omega arith)
    | inr r ↦ (let e = ap (λ (x : Link). x.agent.n) r.5 in let g = b.agents in let h = r.1 in omega arith)
  ])

  link_ends : (l : Link) → IsIn l p.links → (not (is_world p l.from) || not (is_world p l.to)) ≡ false
  link_ends l i = elim (from_parts l i) [
    | inl r ↦ (
        let e = ap (λ (x : Link). x.from.n) r.5 in
        let f = ap (λ (x : Link). x.to.n) r.5 in
        let m = links_within S s r.0 r.2 r.3 r.4 in
        let n = as_many in
        both_below l.from.n l.to.n (length p.truth) (omega (arith, e, m.0, n)) (omega (arith, f, m.1, n)))
    | inr r ↦ (
        let e = ap (λ (x : Link). x.from.n) r.5 in
        let f = ap (λ (x : Link). x.to.n) r.5 in
        let m = links_within T t r.0 r.2 r.3 r.4 in
        let n = as_many in
        both_below l.from.n l.to.n (length p.truth) (omega (arith, e, m.0, n)) (omega (arith, f, m.1, n)))
  ]

  named_world : (x : WorldId) → IsIn x p.designated → not (is_world p x) ≡ false
  named_world x i = below x.n (length p.truth) (⊎_elim
      (λ (j : IsIn x (moved_worlds 0 S.designated)).
      let m = from_map (λ w. world (0 + w)) x S.designated j in
      let e = ap (λ (z : WorldId). z.n) m.2 in
      let d = at_All (λ w. w < S.worlds) m.0 S.designated s.designated_within m.1 in
      let n = as_many in
      omega arith)
      (λ (j : IsIn x (moved_worlds S.worlds T.designated)).
      let m = from_map (λ w. world (S.worlds + w)) x T.designated j in
      let e = ap (λ (z : WorldId). z.n) m.2 in
      let d = at_All (λ w. w < T.worlds) m.0 T.designated t.designated_within m.1 in
      let n = as_many in
      omega arith)
      (in_parts x (moved_worlds 0 S.designated) (moved_worlds S.worlds T.designated) (subst (IsIn x) b.designated i)))

  some_chosen : 0 < length p.designated
  some_chosen =
      let e = ap length b.designated in
      let x = length-append (moved_worlds 0 S.designated) (moved_worlds S.worlds T.designated) in
      let f = length-map S.designated (λ w. world (0 + w)) in
      let d = not_empty_long S.designated s.some_designated in
      omega arith
    where
      not_empty_long : (xs : List ℕ) → xs ≢ [] → 0 < length xs
      not_empty_long [] h = absurd (h refl)
      not_empty_long (x ∷ xs) h = omega arith

  no_fault : fault_of p ≡ None
  no_fault =
      let a : position (λ (row : List Bool). not (length row == p.atoms)) p.truth ≡ None = no_position (λ (row : List Bool). not (length row == p.atoms)) p.truth wide in
      let c : position (λ (l : Link). not (nat_lt l.agent.n p.agents)) p.links ≡ None = no_position (λ (l : Link). not (nat_lt l.agent.n p.agents)) p.links link_agent in
      let d : position (λ (l : Link). not (is_world p l.from) || not (is_world p l.to)) p.links ≡ None = no_position (λ (l : Link). not (is_world p l.from) || not (is_world p l.to)) p.links link_ends in
      let e : position (λ (x : WorldId). not (is_world p x)) p.designated ≡ None = no_position (λ (x : WorldId). not (is_world p x)) p.designated named_world in
      rw (positive (length p.truth) (let n = as_many in let w = s.some_world in omega arith), a, c, d, e, positive (length p.designated) some_chosen) refl

  pub memory_wanting : (r : Result Kripke StateError) → IfErr r (IsRefusal error.OutOfMemory (fault_of p)) → IfErr r (λ e. e ≡ error.OutOfMemory)
  memory_wanting (Ok R) h = tt
  memory_wanting (Err e) h = subst (λ o. IsRefusal error.OutOfMemory o e) no_fault h

  -- the parts of the union
  module _ (U : Kripke) (m : IsMadeOf p U) where
    pub union_worlds : U.worlds ≡ S.worlds + T.worlds
    union_worlds = m.worlds ∙ as_many

    first_back : (a w x : ℕ) → w < S.worlds → IsIn (0 + w, x) (links_of U a) → (v : ℕ) × IsIn (w, v) (links_of S a) × (x ≡ 0 + v)
    first_back a w x l i = elim (from_parts (link a (0 + w) x) ((m.links a (0 + w) x).0 i)) [
      | inl r ↦ (
          let e : a ≡ r.0 = ap (λ (z : Link). z.agent.n) r.5 in
          let f : 0 + w ≡ 0 + r.2 = ap (λ (z : Link). z.from.n) r.5 in
          let g : x ≡ 0 + r.3 = ap (λ (z : Link). z.to.n) r.5 in
          let h : w ≡ r.2 = omega arith in
          (r.3, subst (λ z. IsIn (z, r.3) (links_of S a)) (sym h) (subst (λ z. IsIn (r.2, r.3) (links_of S z)) (sym e) r.4), g))
      | inr r ↦ (
          let f : 0 + w ≡ S.worlds + r.2 = ap (λ (z : Link). z.from.n) r.5 in
          absurd (omega arith))
    ]

    second_back : (a w x : ℕ) → w < T.worlds → IsIn (S.worlds + w, x) (links_of U a) → (v : ℕ) × IsIn (w, v) (links_of T a) × (x ≡ S.worlds + v)
    second_back a w x l i = elim (from_parts (link a (S.worlds + w) x) ((m.links a (S.worlds + w) x).0 i)) [
      | inl r ↦ (
          let f : S.worlds + w ≡ 0 + r.2 = ap (λ (z : Link). z.from.n) r.5 in
          let d = links_within S s r.0 r.2 r.3 r.4 in
          absurd (omega arith))
      | inr r ↦ (
          let e : a ≡ r.0 = ap (λ (z : Link). z.agent.n) r.5 in
          let f : S.worlds + w ≡ S.worlds + r.2 = ap (λ (z : Link). z.from.n) r.5 in
          let g : x ≡ S.worlds + r.3 = ap (λ (z : Link). z.to.n) r.5 in
          let h : w ≡ r.2 = omega arith in
          (r.3, subst (λ z. IsIn (z, r.3) (links_of T a)) (sym h) (subst (λ z. IsIn (r.2, r.3) (links_of T z)) (sym e) r.4), g))
    ]

    get_right : (k n : ℕ) → length S.truth ≡ n → get_or (S.truth ++ T.truth) (n + k) [] ≡ get_or T.truth k []
    get_right k n e = subst (λ z. get_or (S.truth ++ T.truth) (z + k) [] ≡ get_or T.truth k []) e (get_or-append-add S.truth T.truth k [])

    pub union_first : IsPart S U 0
    union_first = record {
      agents = sym b.agents ∙ sym m.agents;
      atoms = sym b.atoms ∙ sym m.atoms;
      within = λ w l. let n = union_worlds in omega arith;
      truth = λ w l. sym (ap (λ ts. get_or ts (0 + w) []) (m.truth ∙ b.truth) ∙ ap (λ z. get_or (S.truth ++ T.truth) z []) (zero_left w) ∙ get_left [] S.truth T.truth w (let e = s.truths in omega arith));
      forth = λ a w v i. (m.links a (0 + w) (0 + v)).1 (subst (IsIn (link a (0 + w) (0 + v))) (sym b.links)
          (in_left (link a (0 + w) (0 + v)) (all_links S 0 S.agents) (all_links T S.worlds T.agents) (to_links S 0 S.agents a w v (linked_agent S s a w v i) (links_within S s a w v i).0 i)));
      back = first_back;
    }
      where
        zero_left : (w : ℕ) → 0 + w ≡ w
        zero_left w = omega arith

    pub union_second : IsPart T U S.worlds
    union_second = record {
      agents = sym agents ∙ sym b.agents ∙ sym m.agents;
      atoms = sym atoms ∙ sym b.atoms ∙ sym m.atoms;
      within = λ w l. let n = union_worlds in omega arith;
      truth = λ w l. sym (ap (λ ts. get_or ts (S.worlds + w) []) (m.truth ∙ b.truth) ∙ get_right w S.worlds s.truths);
      forth = λ a w v i. (m.links a (S.worlds + w) (S.worlds + v)).1 (subst (IsIn (link a (S.worlds + w) (S.worlds + v))) (sym b.links)
          (in_right (link a (S.worlds + w) (S.worlds + v)) (all_links S 0 S.agents) (all_links T S.worlds T.agents) (to_links T S.worlds T.agents a w v (linked_agent T t a w v i) (links_within T t a w v i).0 i)));
      back = second_back;
    }
