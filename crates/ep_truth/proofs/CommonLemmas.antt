-- Links of a group backwards, and the worlds from which every walk stays in a row.
use Rattle.std.proofs.Common.{◌≡◌, ℕ, zero, suc, ◌+◌, ◌*◌, ◌<◌, ◌≤◌, Bool, true, false, not, nat_lt, ◌==◌, cond, ◌⊎◌, inl, inr, ◌↔◌, List, [], ◌∷◌, ◌++◌, length, take, drop, filter, sum_by, replicate, IsTrue, refl, ap, ◌∙◌, sym, subst, arith}
use Rattle.std.proofs.lemmas.List.{length-set, get_or-set_same, get_or-set_other, take_more, length-replicate, length-map}
use Rattle.std.proofs.lemmas.List.Sums.{sum_by-append, sum_by-take-le}
use Rattle.std.proofs.lemmas.List.Folds.{sum_by-replicate}
use Rattle.std.proofs.lemmas.Bool.Decides.{eqb_tells, nat_tests}
use Rattle.ep_logic.specs.AgentSets.{Has, is_nobody}
use Rattle.ep_theory.specs.Rising.{IsIn}
use Rattle.ep_theory.specs.Kripke.{Kripke, IsState, links_of, successors}
use Rattle.ep_theory.specs.Walks.{IsStep, IsWalk, last_of}
use Rattle.ep_logic.specs.Numbers.{numbers_where}
use Rattle.ep_theory.specs.Fits.{link_count}
use Rattle.ep_theory.proofs.CallerLemmas.{decided, in_left, in_right, in_parts, last_or_before, from_successors, IsIn-successors, in_numbers, from_numbers, links_within}
use Rattle.ep_logic.specs.Rows.{value_at}
use Rattle.ep_kripke.specs.Sources.{row_at, with_source, with_sources}
use Rattle.ep_kripke.specs.Taking.{without, taken}
use Rattle.ep_truth.specs.Common.{AllWalks, GainsLinks, LeadBack, is_out}
use Rattle.ep_kripke.proofs.CallerLemmas.{sum-with_source}
use Rattle.ep_kripke.proofs.CallerLemmas.{trues, length-without, without_other, without_false, without_here, from_taken, in_taken, trues-without}

-- who is among the sources
from_with_source : (rows : List (List ℕ)) (from to w v : ℕ) → to < length rows → IsIn w (row_at (with_source rows from to) v) → IsIn w (row_at rows v) ⊎ ((w ≡ from) × (v ≡ to))
from_with_source rows from to w v l i = elim (eqb_tells v to) [
  | inl e ↦ first e.1 (subst (IsIn w) (ap (row_at (with_source rows from to)) e.1 ∙ get_or-set_same rows to (from ∷ row_at rows to) [] l) i)
  | inr e ↦ inl (subst (IsIn w) (get_or-set_other rows to v (from ∷ row_at rows to) [] e.1) i)
]
  where
    first : v ≡ to → IsIn w (from ∷ row_at rows to) → IsIn w (row_at rows v) ⊎ ((w ≡ from) × (v ≡ to))
    first e (inl q) = inr (q, e)
    first e (inr j) = inl (subst (λ u. IsIn w (row_at rows u)) (sym e) j)

old_with_source : (rows : List (List ℕ)) (from to w v : ℕ) → to < length rows → IsIn w (row_at rows v) → IsIn w (row_at (with_source rows from to) v)
old_with_source rows from to w v l i = elim (eqb_tells v to) [
  | inl e ↦ subst (IsIn w) (sym (ap (row_at (with_source rows from to)) e.1 ∙ get_or-set_same rows to (from ∷ row_at rows to) [] l)) (inr (subst (λ u. IsIn w (row_at rows u)) e.1 i))
  | inr e ↦ subst (IsIn w) (sym (get_or-set_other rows to v (from ∷ row_at rows to) [] e.1)) i
]

new_with_source : (rows : List (List ℕ)) (from to : ℕ) → to < length rows → IsIn from (row_at (with_source rows from to) to)
new_with_source rows from to l = subst (IsIn from) (sym (get_or-set_same rows to (from ∷ row_at rows to) [] l)) (inl refl)

length-with_source : (rows : List (List ℕ)) (from to : ℕ) → length (with_source rows from to) ≡ length rows
length-with_source rows from to = length-set rows to (from ∷ row_at rows to)

module _ (from : ℕ) where
  length-with_sources : (rows : List (List ℕ)) (tos : List ℕ) → length (with_sources rows from tos) ≡ length rows
  length-with_sources rows [] = refl
  length-with_sources rows (to ∷ tos) = length-with_sources (with_source rows from to) tos ∙ length-with_source rows from to

  later : (rows : List (List ℕ)) (to : ℕ) (tos : List ℕ) → ((v : ℕ) → IsIn v (to ∷ tos) → v < length rows) → (v : ℕ) → IsIn v tos → v < length (with_source rows from to)
  later rows to tos h v i = subst (λ n. v < n) (sym (length-with_source rows from to)) (h v (inr i))

  sum-with_sources : (rows : List (List ℕ)) (tos : List ℕ) → ((v : ℕ) → IsIn v tos → v < length rows) → sum_by length (with_sources rows from tos) ≡ sum_by length rows + length tos
  sum-with_sources rows [] h = omega arith
  sum-with_sources rows (to ∷ tos) h =
      let e = sum-with_sources (with_source rows from to) tos (later rows to tos h) in
      let f = sum-with_source rows from to (h to (inl refl)) in
      omega arith

  old_with_sources : (rows : List (List ℕ)) (tos : List ℕ) (w v : ℕ) → ((v : ℕ) → IsIn v tos → v < length rows) → IsIn w (row_at rows v) → IsIn w (row_at (with_sources rows from tos) v)
  old_with_sources rows [] w v h i = i
  old_with_sources rows (to ∷ tos) w v h i = old_with_sources (with_source rows from to) tos w v (later rows to tos h) (old_with_source rows from to w v (h to (inl refl)) i)

  from_with_sources : (rows : List (List ℕ)) (tos : List ℕ) (w v : ℕ) → ((v : ℕ) → IsIn v tos → v < length rows) → IsIn w (row_at (with_sources rows from tos) v) →
      IsIn w (row_at rows v) ⊎ ((w ≡ from) × IsIn v tos)
  from_with_sources rows [] w v h i = inl i
  from_with_sources rows (to ∷ tos) w v h i = elim (from_with_sources (with_source rows from to) tos w v (later rows to tos h) i) [
    | inl j ↦ elim (from_with_source rows from to w v (h to (inl refl)) j) [ inl k ↦ inl k | inr p ↦ inr (p.0, inl p.1) ]
    | inr p ↦ inr (p.0, inr p.1)
  ]

  new_with_sources : (rows : List (List ℕ)) (tos : List ℕ) (v : ℕ) → ((v : ℕ) → IsIn v tos → v < length rows) → IsIn v tos → IsIn from (row_at (with_sources rows from tos) v)
  new_with_sources rows [] v h i = absurd i
  new_with_sources rows (to ∷ tos) v h (inl e) =
      old_with_sources (with_source rows from to) tos from v (later rows to tos h)
      (subst (λ u. IsIn from (row_at (with_source rows from to) u)) (sym e) (new_with_source rows from to (h to (inl refl))))
  new_with_sources rows (to ∷ tos) v h (inr i) = new_with_sources (with_source rows from to) tos v (later rows to tos h) i

-- how many pairs come from a number below w
abbrev pub linked_before : List (ℕ × ℕ) → ℕ → ℕ
linked_before [] w = 0
linked_before (p ∷ ps) w = cond (nat_lt p.0 w) 1 0 + linked_before ps w

before_step : (x w m n k : ℕ) (rest : List (ℕ × ℕ)) (p : ℕ × ℕ) → m ≡ n + k → length rest ≡ k → cond (nat_lt x (w + 1)) 1 0 + m ≡ cond (nat_lt x w) 1 0 + n + length (cond (x == w) (p ∷ rest) rest)
before_step x w m n k rest p e f = grind (arith, nat_tests)

linked_before-more : (ps : List (ℕ × ℕ)) (w : ℕ) → linked_before ps (w + 1) ≡ linked_before ps w + length (successors ps w)
linked_before-more [] w = omega arith
linked_before-more (p ∷ ps) w =
    let rest : List (ℕ × ℕ) = filter (λ q. q.0 == w) ps in
    let ends : ℕ × ℕ → ℕ = λ q. q.1 in
    before_step p.0 w (linked_before ps (w + 1)) (linked_before ps w) (length (successors ps w)) rest p (linked_before-more ps w) (sym (length-map rest ends))
    ∙ ap (λ n. cond (nat_lt p.0 w) 1 0 + linked_before ps w + n) (sym (length-map (cond (p.0 == w) (p ∷ rest) rest) ends))

linked_before-le : (ps : List (ℕ × ℕ)) (w : ℕ) → linked_before ps w ≤ length ps
linked_before-le [] w = omega arith
linked_before-le (p ∷ ps) w = let r = linked_before-le ps w in grind (arith, nat_tests)

-- how far the links of an agent are added: those from the worlds of the row below w
pub record IsAdding (S : Kripke) (a : ℕ) (inner : List Bool) (old : List (List ℕ)) (w : ℕ) (rows : List (List ℕ)) : Type 0 where
  pub long : length rows ≡ S.worlds
  pub counted : sum_by length rows ≤ sum_by length old + linked_before (links_of S a) w
  pub gained : (x v : ℕ) → v < S.worlds → IsIn x (row_at rows v) ↔ (IsIn x (row_at old v) ⊎ ((x < w) × IsTrue (value_at inner x) × IsIn (x, v) (links_of S a)))

module _ (S : Kripke) (s : IsState S) (a : ℕ) (inner : List Bool) (old : List (List ℕ)) where
  targets_within : (w v : ℕ) → IsIn v (successors (links_of S a) w) → v < S.worlds
  targets_within w v i = (links_within S s a w v (from_successors w v (links_of S a) i)).1

  pub adding_none : length old ≡ S.worlds → IsAdding S a inner old 0 old
  adding_none e = record {
    long = e;
    counted = omega arith;
    gained = λ x v l. (λ i. inl i, λ h. elim h [ inl i ↦ i | inr p ↦ absurd (omega (arith, p.0)) ]);
  }

  pub adding_skip : (w : ℕ) (rows : List (List ℕ)) → value_at inner w ≡ false → IsAdding S a inner old w rows → IsAdding S a inner old (w + 1) rows
  adding_skip w rows f t = record {
    long = t.long;
    counted = omega (arith, t.counted, linked_before-more (links_of S a) w);
    gained = λ x v l. (
      λ i. elim ((t.gained x v l).0 i) [ inl j ↦ inl j | inr p ↦ inr (omega (arith, p.0), p.1, p.2) ],
      λ h. elim h [
        | inl j ↦ (t.gained x v l).1 (inl j)
        | inr p ↦ elim (last_or_before x w (omega (arith, p.0))) [
          | inl q ↦ absurd (cc (p.1, ap (value_at inner) q, f))
          | inr q ↦ (t.gained x v l).1 (inr (q, p.1, p.2))
        ]
      ],
    );
  }

  pub adding_more : (w : ℕ) (rows new : List (List ℕ)) → IsTrue (value_at inner w) → IsAdding S a inner old w rows → new ≡ with_sources rows w (successors (links_of S a) w) → IsAdding S a inner old (w + 1) new
  adding_more w rows new here t e =
      let tos = successors (links_of S a) w in
      let below : (v : ℕ) → IsIn v tos → v < length rows = λ v i. subst (λ n. v < n) (sym t.long) (targets_within w v i) in
      subst (IsAdding S a inner old (w + 1)) (sym e) (record {
        long = length-with_sources w rows tos ∙ t.long;
        counted = omega (arith, t.counted, sum-with_sources w rows tos below, linked_before-more (links_of S a) w);
        gained = λ x v l. (
          λ i. elim (from_with_sources w rows tos x v below i) [
            | inl j ↦ elim ((t.gained x v l).0 j) [ inl k ↦ inl k | inr p ↦ inr (omega (arith, p.0), p.1, p.2) ]
            | inr p ↦ inr (omega (arith, p.0), subst (λ y. IsTrue (value_at inner y)) (sym p.0) here, subst (λ y. IsIn {A = ℕ × ℕ} (y, v) (links_of S a)) (sym p.0) (from_successors w v (links_of S a) p.1))
          ],
          λ h. elim h [
            | inl k ↦ old_with_sources w rows tos x v below ((t.gained x v l).1 (inl k))
            | inr p ↦ last x v l p.0 p.1 p.2 below
          ],
        );
      })
    where
      last : (x v : ℕ) → v < S.worlds → x < w + 1 → IsTrue (value_at inner x) → IsIn {A = ℕ × ℕ} (x, v) (links_of S a) →
          ((v : ℕ) → IsIn v (successors (links_of S a) w) → v < length rows) → IsIn x (row_at (with_sources rows w (successors (links_of S a) w)) v)
      last x v l b in_row i below = elim (last_or_before x w (omega (arith, b))) [
        | inl q ↦ subst (λ y. IsIn y (row_at (with_sources rows w (successors (links_of S a) w)) v)) (sym q)
            (new_with_sources w rows (successors (links_of S a) w) v below (IsIn-successors w v (links_of S a) (subst (λ y. IsIn {A = ℕ × ℕ} (y, v) (links_of S a)) q i)))
        | inr q ↦ old_with_sources w rows (successors (links_of S a) w) x v below ((t.gained x v l).1 (inr (q, in_row, i)))
      ]

  pub adding_room : (w : ℕ) (rows : List (List ℕ)) → IsAdding S a inner old w rows → sum_by length rows + length (successors (links_of S a) w) ≤ sum_by length old + length (links_of S a)
  adding_room w rows t = omega (arith, t.counted, linked_before-more (links_of S a) w, linked_before-le (links_of S a) (w + 1))

  pub adding_all : (w : ℕ) (rows : List (List ℕ)) → w ≡ S.worlds → IsAdding S a inner old w rows → GainsLinks S a inner old rows
  adding_all w rows e t = λ x v l. (
    λ i. elim ((t.gained x v l).0 i) [ inl k ↦ inl k | inr p ↦ inr (p.1, p.2) ],
    λ h. elim h [ inl k ↦ (t.gained x v l).1 (inl k) | inr p ↦ (t.gained x v l).1 (inr (omega (arith, e, (links_within S s a x v p.1).0), p.0, p.1)) ],
  )

  pub adding_counted : (w : ℕ) (rows : List (List ℕ)) → IsAdding S a inner old w rows → sum_by length rows ≤ sum_by length old + length (links_of S a)
  adding_counted w rows t = omega (arith, t.counted, linked_before-le (links_of S a) w)

-- how far the links of a group are added: those of its agents below a
pub record IsGathering (S : Kripke) (g inner : List Bool) (a : ℕ) (rows : List (List ℕ)) : Type 0 where
  pub long : length rows ≡ S.worlds
  pub counted : sum_by length rows ≤ sum_by length (take a S.links)
  pub led : (x v : ℕ) → v < S.worlds → IsIn x (row_at rows v) ↔ ((b : ℕ) × (b < a) × Has g b × IsTrue (value_at inner x) × IsIn (x, v) (links_of S b))

nobody : (g : List Bool) (a : ℕ) → IsTrue (is_nobody g) → Has g a → ⊥
nobody [] a h m = cc m
nobody (true ∷ xs) a h m = cc h
nobody (false ∷ xs) zero h m = cc m
nobody (false ∷ xs) (suc a) h m = nobody xs a h m

-- a member of a group is below the number of agents
pub member_below : (g : List Bool) (n a : ℕ) → IsTrue (is_nobody (drop n g)) → Has g a → a < n
member_below [] n a h m = absurd (cc m)
member_below (x ∷ xs) zero a h m = absurd (nobody (x ∷ xs) a h m)
member_below (x ∷ xs) (suc n) zero h m = omega arith
member_below (x ∷ xs) (suc n) (suc a) h m = let i = member_below xs n a h m in omega arith

empty_row : (n v : ℕ) → row_at (replicate n []) v ≡ []
empty_row zero v = refl
empty_row (suc n) zero = refl
empty_row (suc n) (suc v) = empty_row n v

module _ (S : Kripke) (s : IsState S) (g inner : List Bool) where
  pub gathering_none : (rows : List (List ℕ)) → rows ≡ replicate S.worlds [] → IsGathering S g inner 0 rows
  gathering_none rows e = subst (IsGathering S g inner 0) (sym e) (record {
    long = length-replicate S.worlds [];
    counted = omega (arith, sum_by-replicate (length {A = ℕ}) S.worlds []);
    led = λ x v l. (λ i. absurd (subst (IsIn x) (empty_row S.worlds v) i), λ h. absurd (omega (arith, h.1)));
  })

  take_links : (a : ℕ) → a < S.agents → sum_by length (take (a + 1) S.links) ≡ sum_by length (take a S.links) + length (links_of S a)
  take_links a l =
      let b : a < length S.links = omega (arith, l, s.relations) in
      ap (sum_by length) (take_more S.links a [] b) ∙ sum_by-append length (take a S.links) (links_of S a ∷ []) ∙ omega arith

  pub gathering_skip : (a : ℕ) (rows : List (List ℕ)) → a < S.agents → (Has g a → ⊥) → IsGathering S g inner a rows → IsGathering S g inner (a + 1) rows
  gathering_skip a rows l n t = record {
    long = t.long;
    counted = omega (arith, t.counted, take_links a l);
    led = λ x v b. (
      λ i. let h = (t.led x v b).0 i in (h.0, omega (arith, h.1), h.2, h.3, h.4),
      λ h. elim (last_or_before h.0 a (omega (arith, h.1))) [
        | inl q ↦ absurd (n (subst (Has g) q h.2))
        | inr q ↦ (t.led x v b).1 (h.0, q, h.2, h.3, h.4)
      ],
    );
  }

  pub gathering_room : (a : ℕ) (rows : List (List ℕ)) → a < S.agents → IsGathering S g inner a rows → sum_by length rows + length (links_of S a) ≤ link_count S
  gathering_room a rows l t = omega (arith, t.counted, take_links a l, sum_by-take-le length S.links (a + 1))

  pub gathering_more : (a : ℕ) (rows new : List (List ℕ)) → a < S.agents → Has g a → IsGathering S g inner a rows → length new ≡ S.worlds →
      sum_by length new ≤ sum_by length rows + length (links_of S a) → GainsLinks S a inner rows new → IsGathering S g inner (a + 1) new
  gathering_more a rows new l m t e c f = record {
    long = e;
    counted = omega (arith, t.counted, take_links a l, c);
    led = λ x v b. (
      λ i. elim ((f x v b).0 i) [
        | inl j ↦ let h = (t.led x v b).0 j in (h.0, omega (arith, h.1), h.2, h.3, h.4)
        | inr p ↦ (a, omega arith, m, p.0, p.1)
      ],
      λ h. elim (last_or_before h.0 a (omega (arith, h.1))) [
        | inl q ↦ (f x v b).1 (inr (h.3, subst (λ c. IsIn (x, v) (links_of S c)) q h.4))
        | inr q ↦ (f x v b).1 (inl ((t.led x v b).1 (h.0, q, h.2, h.3, h.4)))
      ],
    );
  }

  pub gathering_all : (a : ℕ) (rows : List (List ℕ)) → a ≡ S.agents → IsTrue (is_nobody (drop S.agents g)) → IsGathering S g inner a rows → LeadBack S g inner rows
  gathering_all a rows e n t = λ x v b. (
    λ i. let h = (t.led x v b).0 i in (h.3, (h.0, h.2, h.4)),
    λ h. (t.led x v b).1 (h.1.0, omega (arith, e, member_below g S.agents h.1.0 n h.1.1), h.1.1, h.0, h.1.2),
  )

-- what holds while worlds are taken out: those that wait are out, and their sources may still be in
pub record IsSpreading (S : Kripke) (g inner good : List Bool) (waiting : List ℕ) : Type 0 where
  pub long : length good ≡ S.worlds
  pub keeps : (w : ℕ) → AllWalks S g inner w → IsTrue (value_at good w)
  pub below : (w : ℕ) → IsTrue (value_at good w) → IsTrue (value_at inner w)
  pub waits : (w v : ℕ) → IsStep S g w v → IsTrue (value_at good w) → IsTrue (value_at good v) ⊎ IsIn v waiting
  pub out : (v : ℕ) → IsIn v waiting → (v < S.worlds) × (value_at good v ≡ false)

module _ (S : Kripke) (s : IsState S) (g inner : List Bool) where
  step_within : (w v : ℕ) → IsStep S g w v → (w < S.worlds) × (v < S.worlds)
  step_within w v p = links_within S s p.0 w v p.2

  false_from_not : (b : Bool) → IsTrue (not b) → b ≡ false
  false_from_not true h = absurd (cc h)
  false_from_not false h = refl

  pub spreading_none : (good : List Bool) (waiting : List ℕ) → length inner ≡ S.worlds → good ≡ inner → waiting ≡ numbers_where (is_out inner) (length inner) →
      IsSpreading S g inner good waiting
  spreading_none good waiting l e f =
      subst (λ good. IsSpreading S g inner good waiting) (sym e) (subst (IsSpreading S g inner inner) (sym f) (record {
        long = l;
        keeps = λ w all. all [] tt;
        below = λ w t. t;
        waits = λ w v p t. elim (decided (value_at inner v)) [
          | inl h ↦ inl h
          | inr h ↦ inr (in_numbers (is_out inner) (length inner) v (omega (arith, l, (step_within w v p).1)) (ap not h))
        ];
        out = λ v i. let r = from_numbers (is_out inner) (length inner) v i in (omega (arith, l, r.0), false_from_not (value_at inner v) r.1);
      }))

  -- the sources of a world are taken out
  pub spreading_more : (rows : List (List ℕ)) (good : List Bool) (rest : List ℕ) (v : ℕ) → LeadBack S g inner rows → IsSpreading S g inner good (rest ++ v ∷ []) →
      IsSpreading S g inner (without (row_at rows v) good) (rest ++ taken (row_at rows v) good)
  spreading_more rows good rest v back t = record {
    long = length-without ws good ∙ t.long;
    keeps = λ w all. without_other ws good w (λ i. no_source w all i) ∙ t.keeps w all;
    below = λ w h. t.below w (was w h);
    waits = λ w u p h. after w u p h;
    out = λ u i. elim (in_parts u rest (taken ws good) i) [
      | inl j ↦ let r = t.out u (in_left u rest (v ∷ []) j) in (r.0, without_false ws good u r.1)
      | inr j ↦ let k = from_taken ws good u j in ((step_within u v ((back u v v_within).0 k).1).0, without_here ws good u k)
    ];
  }
    where
      ws : List ℕ
      ws = row_at rows v

      v_out : (v < S.worlds) × (value_at good v ≡ false)
      v_out = t.out v (in_right v rest (v ∷ []) (inl refl))

      v_within : v < S.worlds
      v_within = v_out.0

      was : (w : ℕ) → IsTrue (value_at (without ws good) w) → IsTrue (value_at good w)
      was w h = elim (decided (value_at good w)) [ inl k ↦ k | inr k ↦ absurd (cc (h, without_false ws good w k)) ]

      no_source : (w : ℕ) → AllWalks S g inner w → IsIn w ws → ⊥
      no_source w all i = cc (v_out.1, t.keeps v (λ vs p. all (v ∷ vs) (((back w v v_within).0 i).1, p)))

      after : (w u : ℕ) → IsStep S g w u → IsTrue (value_at (without ws good) w) → IsTrue (value_at (without ws good) u) ⊎ IsIn u (rest ++ taken ws good)
      after w u p h = elim (t.waits w u p (was w h)) [
        | inl k ↦ elim (decided (value_at (without ws good) u)) [
          | inl q ↦ inl q
          | inr q ↦ inr (in_right u rest (taken ws good) (in_taken ws good u k q))
        ]
        | inr i ↦ elim (in_parts u rest (v ∷ []) i) [
          | inl j ↦ inr (in_left u rest (taken ws good) j)
          | inr j ↦ absurd (elim j [
            | inl q ↦ cc (h, without_here ws good w ((back w v v_within).1 (t.below w (was w h), subst (IsStep S g w) q p)))
            | inr q ↦ q
          ])
        ]
      ]

  -- nothing waits
  walk_stays : (good : List Bool) → IsSpreading S g inner good [] → (w : ℕ) (vs : List ℕ) → IsTrue (value_at good w) → IsWalk S g w vs → IsTrue (value_at good (last_of w vs))
  walk_stays good t w [] h p = h
  walk_stays good t w (v ∷ vs) h p = elim (t.waits w v p.0 h) [
    | inl k ↦ walk_stays good t v vs k p.1
    | inr i ↦ absurd i
  ]

  pub spreading_all : (good : List Bool) (waiting : List ℕ) → waiting ≡ [] → IsSpreading S g inner good waiting → (w : ℕ) → IsTrue (value_at good w) ↔ AllWalks S g inner w
  spreading_all good waiting e t w =
      let u : IsSpreading S g inner good [] = subst (IsSpreading S g inner good) e t in
      (λ h vs p. t.below (last_of w vs) (walk_stays good u w vs h p), t.keeps w)

length-append : {A : Type 0} (xs ys : List A) → length (xs ++ ys) ≡ length xs + length ys
length-append [] ys = omega arith
length-append (x ∷ xs) ys = let e = length-append xs ys in omega arith

-- true places and places that wait
pub weight : List Bool → List ℕ → ℕ
weight good waiting = 2 * trues good + length waiting

pub weight_falls : (ws rest : List ℕ) (v : ℕ) (good : List Bool) → weight (without ws good) (rest ++ taken ws good) < weight good (rest ++ v ∷ [])
unfolding weight
weight_falls ws rest v good = omega (arith, trues-without ws good, length-append rest (taken ws good), length-append rest (v ∷ []))

-- a source is a world
pub source_within : (S : Kripke) → IsState S → (g inner : List Bool) (rows : List (List ℕ)) → LeadBack S g inner rows → (w v : ℕ) → v < S.worlds → IsIn w (row_at rows v) → w < S.worlds
source_within S s g inner rows back w v l i = let p = ((back w v l).0 i).1 in (links_within S s p.0 w v p.2).0
