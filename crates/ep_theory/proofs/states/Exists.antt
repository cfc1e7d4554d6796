-- Each state has a contraction.
use Rattle.std.proofs.Common.{◌≡◌, ℕ, zero, suc, ◌<◌, List, [], ◌∷◌, ◌≢◌, Bool, ◌&&◌, refl, sym, ap, subst, ◌∙◌, arith, Ordering, inl, map, filter, length, get_or, IsTrue}
use Rattle.std.specs.Ordering.{nat_cmp}
use Rattle.std.specs.List.{AllByRecursion, range_with_len}
use Rattle.std.proofs.Math.ListN.{get_or-map}
use Rattle.ep_theory.specs.Rising.{IsIn, IsRising, rising}
use Rattle.ep_theory.specs.Kripke.{Kripke, IsState, pair_cmp, truth_of, links_of}
use Rattle.ep_theory.specs.Kind.{kind, kind_cmp}
use Rattle.ep_theory.specs.Canonical.{start, step, Contracts}
use Rattle.ep_theory.specs.Ranks.{rank_in}
use Rattle.ep_theory.specs.Image.{IsImage}
use Rattle.ep_theory.specs.Contraction.{is_reached, renumbered, image, kinds_of_reached, class_of, contraction}
use Rattle.ep_theory.proofs.lists.Bools.{and_parts, and_whole}
use Rattle.ep_theory.proofs.lists.Orders.{kinds}
use Rattle.ep_theory.proofs.lists.Lists.{at_All, All-from_each, IsIn-map, from_map, IsIn-rising, from_rising, IsRising-rising}
use Rattle.ep_theory.proofs.lists.Filters.{IsIn-filter, from_filter, All-map, All-at}
use Rattle.ep_theory.proofs.kinds.Levels.{equal_earlier}
use Rattle.ep_theory.proofs.states.Unique.{numbers, pairs}
use Rattle.ep_theory.proofs.kinds.Ranked.{rising-map, All-rising}
use Rattle.ep_theory.proofs.kinds.Places.{place-order, at_own_place, place-at, from_range, IsIn-range}
use Rattle.ep_theory.proofs.states.Images.{quotient_contracts}
use Rattle.ep_theory.proofs.states.Reach.{reached_from_test, test_from_reached}

pub length-map : {A B : Type 0} (f : A → B) (xs : List A) → length (map f xs) ≡ length xs
length-map f [] = refl
length-map f (x ∷ xs) = ap suc (length-map f xs)

pub get_or-map_within : {A B : Type 0} (f : A → B) (xs : List A) (i : ℕ) (d : A) (e : B) → i < length xs → get_or (map f xs) i e ≡ f (get_or xs i d)
get_or-map_within f [] i d e h = absurd (omega arith)
get_or-map_within f (x ∷ xs) zero d e h = refl
get_or-map_within f (x ∷ xs) (suc i) d e h = get_or-map_within f xs i d e (omega arith)

pub not_empty : {A : Type 0} (x : A) (xs : List A) → IsIn x xs → xs ≢ []
not_empty x [] i = absurd i
not_empty x (y ∷ ys) i = λ h. cc

pub some_element : {A : Type 0} (xs : List A) → xs ≢ [] → (x : A) × IsIn x xs
some_element [] h = absurd (h refl)
some_element (x ∷ xs) h = (x, inl refl)

-- a state made of the kept worlds
module _ (S : Kripke) (keep : ℕ → Bool) (number : ℕ → ℕ) (worlds : List ℕ) (s : IsState S)
    (each : AllByRecursion (λ w. (w < S.worlds) × IsTrue (keep w)) worlds)
    (below : (w : ℕ) → w < S.worlds → IsTrue (keep w) → number w < length worlds)
    (onto : (c : ℕ) → c < length worlds → number (get_or worlds c 0) ≡ c)
    (truths : (w : ℕ) → w < S.worlds → IsTrue (keep w) → truth_of S w ≡ truth_of S (get_or worlds (number w) 0))
    (kept : (w : ℕ) → IsIn w S.designated → IsTrue (keep w)) where
  designated_within : (w : ℕ) → IsIn w S.designated → w < S.worlds
  designated_within w i = at_All (λ x. x < S.worlds) w S.designated s.designated_within i

  into : (ps : List (ℕ × ℕ)) (w u : ℕ) → IsIn (w, u) ps → IsTrue (keep w) → IsTrue (keep u) → IsIn (number w, number u) (renumbered keep number ps)
  into ps w u i k l =
      IsIn-rising pair_cmp pairs (number w, number u) (map {A = ℕ × ℕ} {B = ℕ × ℕ} (λ p. (number p.0, number p.1)) (filter (λ p. keep p.0 && keep p.1) ps))
      (IsIn-map {A = ℕ × ℕ} {B = ℕ × ℕ} (λ p. (number p.0, number p.1)) (w, u) (filter (λ p. keep p.0 && keep p.1) ps)
      (IsIn-filter (λ p. keep p.0 && keep p.1) (w, u) ps i (and_whole (keep w) (keep u) k l)))

  out_of : (ps : List (ℕ × ℕ)) (p : ℕ × ℕ) → IsIn p (renumbered keep number ps) → (w u : ℕ) × IsIn (w, u) ps × IsTrue (keep w) × IsTrue (keep u) × (number w ≡ p.0) × (number u ≡ p.1)
  out_of ps p i =
      let m = from_map {A = ℕ × ℕ} {B = ℕ × ℕ} (λ p. (number p.0, number p.1)) p (filter (λ p. keep p.0 && keep p.1) ps)
      (from_rising pair_cmp pairs p (map {A = ℕ × ℕ} {B = ℕ × ℕ} (λ p. (number p.0, number p.1)) (filter (λ p. keep p.0 && keep p.1) ps)) i) in
      let f = from_filter (λ p. keep p.0 && keep p.1) m.0 ps m.1 in
      let b = and_parts (keep m.0.0) (keep m.0.1) f.1 in
      (m.0.0, m.0.1, f.0, b.0, b.1, sym (ap {A = ℕ × ℕ} (λ x. x.0) m.2), sym (ap {A = ℕ × ℕ} (λ x. x.1) m.2))

  to_link : (a w u : ℕ) → IsIn (w, u) (links_of S a) → IsTrue (keep w) → IsTrue (keep u) → IsIn (number w, number u) (links_of (image S keep number worlds) a)
  to_link a w u i k l = subst (λ ps. IsIn {A = ℕ × ℕ} (number w, number u) ps) (sym (get_or-map (renumbered keep number) S.links a [])) (into (links_of S a) w u i k l)

  from_link : (a : ℕ) (p : ℕ × ℕ) → IsIn p (links_of (image S keep number worlds) a) → (w u : ℕ) × IsIn (w, u) (links_of S a) × IsTrue (keep w) × IsTrue (keep u) × (number w ≡ p.0) × (number u ≡ p.1)
  from_link a p i = out_of (links_of S a) p (subst (λ ps. IsIn p ps) (get_or-map (renumbered keep number) S.links a []) i)

  pairs_within : (ps : List (ℕ × ℕ)) → IsIn ps S.links → (p : ℕ × ℕ) → IsIn p (renumbered keep number ps) → (p.0 < length worlds) × (p.1 < length worlds)
  pairs_within ps j p i =
      let r = out_of ps p i in
      let h = at_All (λ p. (p.0 < S.worlds) × (p.1 < S.worlds)) (r.0, r.1) ps (at_All (λ l. AllByRecursion (λ p. (p.0 < S.worlds) × (p.1 < S.worlds)) l) ps S.links s.within j) r.2 in
      (subst (λ x. x < length worlds) r.5 (below r.0 h.0 r.3), subst (λ x. x < length worlds) r.6 (below r.1 h.1 r.4))

  from_designated : (c : ℕ) → IsIn c (rising nat_cmp (map number (filter keep S.designated))) → (w : ℕ) × IsIn w S.designated × IsTrue (keep w) × (number w ≡ c)
  from_designated c i =
      let m = from_map number c (filter keep S.designated) (from_rising nat_cmp numbers c (map number (filter keep S.designated)) i) in
      let f = from_filter keep m.0 S.designated m.1 in
      (m.0, f.0, f.1, sym m.2)

  to_designated : (w : ℕ) → IsIn w S.designated → IsTrue (keep w) → IsIn (number w) (rising nat_cmp (map number (filter keep S.designated)))
  to_designated w i k = IsIn-rising nat_cmp numbers (number w) (map number (filter keep S.designated)) (IsIn-map number w (filter keep S.designated) (IsIn-filter keep w S.designated i k))

  pub image-is_state : IsState (image S keep number worlds)
  image-is_state =
      let d = some_element S.designated s.some_designated in
      let b : number d.0 < length worlds = below d.0 (designated_within d.0 d.1) (kept d.0 d.1) in
      record {
        some_world = omega arith;
        truths = length-map (truth_of S) worlds;
        each_truth = All-map (λ t. length t ≡ S.atoms) (truth_of S) worlds
            (λ w i. All-at (λ t. length t ≡ S.atoms) S.truth w [] (subst (λ n. w < n) (sym s.truths) (at_All (λ w. (w < S.worlds) × IsTrue (keep w)) w worlds each i).0) s.each_truth);
        relations = length-map (renumbered keep number) S.links ∙ s.relations;
        rising = All-map (λ ps. IsRising pair_cmp ps) (renumbered keep number) S.links
            (λ ps _. IsRising-rising pair_cmp pairs (map {A = ℕ × ℕ} {B = ℕ × ℕ} (λ p. (number p.0, number p.1)) (filter (λ p. keep p.0 && keep p.1) ps)));
        within = All-map (λ ps. AllByRecursion (λ p. (p.0 < length worlds) × (p.1 < length worlds)) ps) (renumbered keep number) S.links
            (λ ps j. All-from_each (λ p. (p.0 < length worlds) × (p.1 < length worlds)) (renumbered keep number ps) (pairs_within ps j));
        designated_rising = IsRising-rising nat_cmp numbers (map number (filter keep S.designated));
        designated_within = All-from_each (λ c. c < length worlds) (rising nat_cmp (map number (filter keep S.designated)))
            (λ c i. let r = from_designated c i in subst (λ x. x < length worlds) r.3 (below r.0 (designated_within r.0 r.1) r.2));
        some_designated = not_empty (number d.0) (rising nat_cmp (map number (filter keep S.designated))) (to_designated d.0 d.1 (kept d.0 d.1));
      }

  pub image-is_image : IsImage S keep number (image S keep number worlds)
  image-is_image = record {
    agents = refl;
    atoms = refl;
    within = below;
    onto = λ c h. let e = All-at (λ w. (w < S.worlds) × IsTrue (keep w)) worlds c 0 h each in (get_or worlds c 0, e.0, e.1, onto c h);
    truth = λ w h k. truths w h k ∙ sym (get_or-map_within (truth_of S) worlds (number w) 0 [] (below w h k));
    link = to_link;
    linked = λ a c d i. from_link a (c, d) i;
    designated = to_designated;
    from_designated = from_designated;
  }

module _ (S : Kripke) (s : IsState S) where
  reached_worlds : (w : ℕ) → IsIn w (filter (is_reached S) (range_with_len 0 S.worlds)) → (w < S.worlds) × IsTrue (is_reached S w)
  reached_worlds w i =
      let f = from_filter (is_reached S) w (range_with_len 0 S.worlds) i in
      let g = from_range 0 S.worlds w f.0 in
      (omega arith, f.1)

  each : AllByRecursion (λ w. (w < S.worlds) × IsTrue (is_reached S w)) (kinds_of_reached S)
  each =
      let R : ℕ → ℕ → Ordering = λ w v. kind_cmp S.worlds (kind S S.worlds w) (kind S S.worlds v) in
      All-rising (λ w. (w < S.worlds) × IsTrue (is_reached S w)) R R (λ _ _ _ _. refl)
      (filter (is_reached S) (range_with_len 0 S.worlds)) (All-from_each (λ w. (w < S.worlds) × IsTrue (is_reached S w)) (filter (is_reached S) (range_with_len 0 S.worlds)) reached_worlds)

  -- the kinds of the chosen worlds are the distinct kinds of the reached worlds
  listed : rising (kind_cmp S.worlds) (map (kind S S.worlds) (filter (is_reached S) (range_with_len 0 S.worlds))) ≡ map (kind S S.worlds) (kinds_of_reached S)
  listed = rising-map (kind_cmp S.worlds) (kind S S.worlds) (filter (is_reached S) (range_with_len 0 S.worlds))

  rises : IsRising (kind_cmp S.worlds) (map (kind S S.worlds) (kinds_of_reached S))
  rises = subst (λ l. IsRising (kind_cmp S.worlds) l) listed (IsRising-rising (kind_cmp S.worlds) (kinds S.worlds) (map (kind S S.worlds) (filter (is_reached S) (range_with_len 0 S.worlds))))

  stands : (w : ℕ) → w < S.worlds → IsTrue (is_reached S w) → IsIn (kind S S.worlds w) (map (kind S S.worlds) (kinds_of_reached S))
  stands w h k = subst (λ l. IsIn (kind S S.worlds w) l) listed
      (IsIn-rising (kind_cmp S.worlds) (kinds S.worlds) (kind S S.worlds w) (map (kind S S.worlds) (filter (is_reached S) (range_with_len 0 S.worlds)))
      (IsIn-map (kind S S.worlds) w (filter (is_reached S) (range_with_len 0 S.worlds)) (IsIn-filter (is_reached S) w (range_with_len 0 S.worlds) (IsIn-range 0 S.worlds w (omega arith) (omega arith)) k)))

  below : (w : ℕ) → w < S.worlds → IsTrue (is_reached S w) → class_of S w < length (kinds_of_reached S)
  below w h k = subst (λ n. class_of S w < n) (length-map (kind S S.worlds) (kinds_of_reached S))
      (at_own_place (kind_cmp S.worlds) (kinds S.worlds) (kind S S.worlds w) (map (kind S S.worlds) (kinds_of_reached S)) (kind S S.worlds 0) rises (stands w h k)).0

  onto : (c : ℕ) → c < length (kinds_of_reached S) → class_of S (get_or (kinds_of_reached S) c 0) ≡ c
  onto c h =
      ap (λ x. rank_in (kind_cmp S.worlds) x (map (kind S S.worlds) (kinds_of_reached S))) (sym (get_or-map (kind S S.worlds) (kinds_of_reached S) c 0))
      ∙ place-at (kind_cmp S.worlds) (kinds S.worlds) (map (kind S S.worlds) (kinds_of_reached S)) c (kind S S.worlds 0) rises
      (subst (λ n. c < n) (sym (length-map (kind S S.worlds) (kinds_of_reached S))) h)

  truths : (w : ℕ) → w < S.worlds → IsTrue (is_reached S w) → truth_of S w ≡ truth_of S (get_or (kinds_of_reached S) (class_of S w) 0)
  truths w h k =
      let e : kind S S.worlds w ≡ kind S S.worlds (get_or (kinds_of_reached S) (class_of S w) 0) =
      sym (at_own_place (kind_cmp S.worlds) (kinds S.worlds) (kind S S.worlds w) (map (kind S S.worlds) (kinds_of_reached S)) (kind S S.worlds 0) rises (stands w h k)).1
      ∙ get_or-map (kind S S.worlds) (kinds_of_reached S) (class_of S w) 0 in
      equal_earlier S S 0 S.worlds w (get_or (kinds_of_reached S) (class_of S w) 0) (omega arith) e

  kept : (w : ℕ) → IsIn w S.designated → IsTrue (is_reached S w)
  kept w i = test_from_reached S s w (start i)

  closed : (a w u : ℕ) → IsIn (w, u) (links_of S a) → IsTrue (is_reached S w) → IsTrue (is_reached S u)
  closed a w u i k = test_from_reached S s u (step a w (reached_from_test S s S.worlds w k) i)

  pub contraction-is_state : IsState (contraction S)
  contraction-is_state = image-is_state S (is_reached S) (class_of S) (kinds_of_reached S) s each below onto truths kept

  pub contraction-contracts : Contracts S (contraction S)
  contraction-contracts =
      quotient_contracts S (contraction S) (is_reached S) (class_of S) s contraction-is_state
      (image-is_image S (is_reached S) (class_of S) (kinds_of_reached S) s each below onto truths kept)
      closed kept
      (λ w v a b k l. place-order (kind_cmp S.worlds) (kinds S.worlds) (kind S S.worlds w) (kind S S.worlds v) (map (kind S S.worlds) (kinds_of_reached S)) rises (stands w a k) (stands v b l))
      (λ w h k. reached_from_test S s S.worlds w k)
