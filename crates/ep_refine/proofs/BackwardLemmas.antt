-- The links of an agent backwards, row by row.
use Rattle.std.proofs.Common.{◌≡◌, ℕ, zero, suc, ◌+◌, ◌<◌, ◌≤◌, ◌⊎◌, inl, inr, ⊎_elim, Bool, true, false, List, [], ◌∷◌, ◌++◌, length, get_or, set, take, replicate, sum_by, refl, sym, ap, subst, ◌∙◌, arith}
use Rattle.std.specs.List.{AllByRecursion}
use Rattle.std.proofs.lemmas.List.{length-set, get_or-set_same, get_or-set_other, take_more}
use Rattle.std.proofs.lemmas.List.Folds.{sum_by-replicate}
use Rattle.std.proofs.lemmas.List.Sums.{sum_by-append, sum_by-cons, sum_by-take-le, get_or-le-sum_by}
use Rattle.std.proofs.lemmas.Bool.Decides.{eqb_tells}
use Rattle.std.proofs.Math.ListN.{length-replicate, get_or-append}
use Rattle.std.proofs.Math.Seq.{get_or-append_seam}
use Rattle.ep_theory.specs.Rising.{IsIn}
use Rattle.ep_theory.specs.Kripke.{Kripke, IsState, links_of, successors}
use Rattle.ep_theory.proofs.CallerLemmas.{last_or_before, All-at, at_All, All-from_each, from_successors, IsIn-successors, links_within, sum_by-pairs}
use Rattle.ep_theory.specs.Relations.{all_pairs}
use Rattle.ep_theory.specs.Fits.{link_count}
use Rattle.ep_kripke.specs.Sources.{row_at, with_source, with_sources}
use Rattle.ep_kripke.specs.Relations.{named_rows}
use Rattle.ep_kripke.specs.declared.limits.TheConstants.{MOST_WORLDS}
use Rattle.ep_kripke.proofs.CallerLemmas.{length-named, named-at, sum-with_source}
use Rattle.ep_refine.specs.declared.backward.Backward.{Backward}
use Rattle.ep_refine.specs.Touching.{is_listed}
use Rattle.ep_refine.specs.Backward.{Users, Holding, HoldsMore, Holders, IsShaped, LeadsBack}
use Rattle.ep_refine.proofs.TouchLemmas.{listed_here, listed_other, none_listed}

-- who is among the sources
from_with_source : (rows : List (List ℕ)) (from to w v : ℕ) → to < length rows → IsIn w (row_at (with_source rows from to) v) → IsIn w (row_at rows v) ⊎ ((w ≡ from) × (v ≡ to))
from_with_source rows from to w v l i = elim (eqb_tells v to) [
  | inl e ↦ first e.1 (subst (IsIn w) (ap (row_at (with_source rows from to)) e.1 ∙ get_or-set_same rows to (from ∷ row_at rows to) [] l) i)
  | inr e ↦ inl (subst (IsIn w) (get_or-set_other rows to v (from ∷ row_at rows to) [] e.1) i)
]
  where
    first : v ≡ to → IsIn w (from ∷ row_at rows to) → IsIn w (row_at rows v) ⊎ ((w ≡ from) × (v ≡ to))
    first e (inl q) = inr (q, e)
    first e (inr j) = inl (subst (λ u. IsIn w (row_at rows u)) (sym e) j)

old_with_source : (rows : List (List ℕ)) (from to w v : ℕ) → to < length rows → IsIn w (row_at rows v) → IsIn w (row_at (with_source rows from to) v)
old_with_source rows from to w v l i = elim (eqb_tells v to) [
  | inl e ↦ subst (IsIn w) (sym (ap (row_at (with_source rows from to)) e.1 ∙ get_or-set_same rows to (from ∷ row_at rows to) [] l)) (inr (subst (λ u. IsIn w (row_at rows u)) e.1 i))
  | inr e ↦ subst (IsIn w) (sym (get_or-set_other rows to v (from ∷ row_at rows to) [] e.1)) i
]

new_with_source : (rows : List (List ℕ)) (from to : ℕ) → to < length rows → IsIn from (row_at (with_source rows from to) to)
new_with_source rows from to l = subst (IsIn from) (sym (get_or-set_same rows to (from ∷ row_at rows to) [] l)) (inl refl)

length-with_source : (rows : List (List ℕ)) (from to : ℕ) → length (with_source rows from to) ≡ length rows
length-with_source rows from to = length-set rows to (from ∷ row_at rows to)

module _ (from : ℕ) where
  length-with_sources : (rows : List (List ℕ)) (tos : List ℕ) → length (with_sources rows from tos) ≡ length rows
  length-with_sources rows [] = refl
  length-with_sources rows (to ∷ tos) = length-with_sources (with_source rows from to) tos ∙ length-with_source rows from to

  later : (rows : List (List ℕ)) (to : ℕ) (tos : List ℕ) → ((v : ℕ) → IsIn v (to ∷ tos) → v < length rows) → (v : ℕ) → IsIn v tos → v < length (with_source rows from to)
  later rows to tos h v i = subst (λ n. v < n) (sym (length-with_source rows from to)) (h v (inr i))

  sum-with_sources : (rows : List (List ℕ)) (tos : List ℕ) → ((v : ℕ) → IsIn v tos → v < length rows) → sum_by length (with_sources rows from tos) ≡ sum_by length rows + length tos
  sum-with_sources rows [] h = omega arith
  sum-with_sources rows (to ∷ tos) h =
      let e = sum-with_sources (with_source rows from to) tos (later rows to tos h) in
      let f = sum-with_source rows from to (h to (inl refl)) in
      omega (arith, e, f)

  old_with_sources : (rows : List (List ℕ)) (tos : List ℕ) (w v : ℕ) → ((v : ℕ) → IsIn v tos → v < length rows) → IsIn w (row_at rows v) → IsIn w (row_at (with_sources rows from tos) v)
  old_with_sources rows [] w v h i = i
  old_with_sources rows (to ∷ tos) w v h i = old_with_sources (with_source rows from to) tos w v (later rows to tos h) (old_with_source rows from to w v (h to (inl refl)) i)

  from_with_sources : (rows : List (List ℕ)) (tos : List ℕ) (w v : ℕ) → ((v : ℕ) → IsIn v tos → v < length rows) → IsIn w (row_at (with_sources rows from tos) v) →
      IsIn w (row_at rows v) ⊎ ((w ≡ from) × IsIn v tos)
  from_with_sources rows [] w v h i = inl i
  from_with_sources rows (to ∷ tos) w v h i = elim (from_with_sources (with_source rows from to) tos w v (later rows to tos h) i) [
    | inl j ↦ elim (from_with_source rows from to w v (h to (inl refl)) j) [ inl k ↦ inl k | inr p ↦ inr (p.0, inl p.1) ]
    | inr p ↦ inr (p.0, inr p.1)
  ]

  new_with_sources : (rows : List (List ℕ)) (tos : List ℕ) (v : ℕ) → ((v : ℕ) → IsIn v tos → v < length rows) → IsIn v tos → IsIn from (row_at (with_sources rows from tos) v)
  new_with_sources rows [] v h i = absurd i
  new_with_sources rows (to ∷ tos) v h (inl e) =
      old_with_sources (with_source rows from to) tos from v (later rows to tos h)
      (subst (λ u. IsIn from (row_at (with_source rows from to) u)) (sym e) (new_with_source rows from to (h to (inl refl))))
  new_with_sources rows (to ∷ tos) v h (inr i) = new_with_sources (with_source rows from to) tos v (later rows to tos h) i

-- no rows yet
none_at : (n v : ℕ) → row_at (replicate n []) v ≡ []
none_at zero v = refl
none_at (suc n) zero = refl
none_at (suc n) (suc v) = none_at n v

sum_none : (n : ℕ) → sum_by length (replicate {A = List ℕ} n []) ≡ 0
sum_none n = sum_by-replicate length n [] ∙ omega arith

pub users_none : (names : List ℕ) (count : ℕ) (users : List (List ℕ)) → users ≡ replicate count [] → Users names count 0 users
users_none names count users e = subst (Users names count 0) (sym e) (record {
  long = length-replicate count [];
  counted = let s = sum_none count in omega (arith, s);
  every = λ w l. absurd (omega (arith, l));
  only = λ r w i. absurd (subst (IsIn w) (none_at count r) i);
})

pub users_room : (names : List ℕ) (count i : ℕ) (users : List (List ℕ)) → Users names count i users → i < length names → length names ≤ MOST_WORLDS → sum_by length users + 1 < 4294967296
users_room names count i users u l m = let c = u.counted in omega (arith, c, l, m)

-- one world more
pub users_more : (names : List ℕ) (count i : ℕ) (users after : List (List ℕ)) → Users names count i users → i < length names → AllByRecursion (λ r. r < count) names → after ≡ with_source users i (get_or names i 0) → Users names count (i + 1) after
users_more names count i users after u l h e = subst (Users names count (i + 1)) (sym e) (record {
  long = length-with_source users i (get_or names i 0) ∙ u.long;
  counted = let c = u.counted in let s = sum-with_source users i (get_or names i 0) within in omega (arith, c, s);
  every = λ w m. ⊎_elim
      (λ (q : w ≡ i). subst (λ v. IsIn v (row_at (with_source users i (get_or names i 0)) (get_or names v 0))) (sym q) (new_with_source users i (get_or names i 0) within))
      (λ (d : w < i). old_with_source users i (get_or names i 0) w (get_or names w 0) within (u.every w d))
      (last_or_before w i (let z : w < suc i = omega (arith, m) in z));
  only = λ r w j. elim (from_with_source users i (get_or names i 0) w r within j) [
    | inl k ↦ (let a = (u.only r w k).0 in omega (arith, a), (u.only r w k).1)
    | inr p ↦ (let q = p.0 in omega (arith, q), ap (λ v. get_or names v 0) p.0 ∙ sym p.1)
  ];
})
  where
    within : get_or names i 0 < length users
    within = let a = All-at (λ r. r < count) names i 0 l h in let b = u.long in omega (arith, a, b)

pub holding_none : (rows : List (List ℕ)) (m n : ℕ) (left : List Bool) (holders : List (List ℕ)) → left ≡ replicate m true → m ≡ length rows → holders ≡ replicate n [] → Holding rows left holders
holding_none rows m n left holders e q f = subst (λ (l : List Bool). Holding rows l holders) (sym e) (subst (λ (h : List (List ℕ)). Holding rows (replicate m true) h) (sym f) (record {
  long = length-replicate m true ∙ q;
  only = λ v r i. absurd (subst (IsIn r) (none_at n v) i);
  every = λ r v l t i. absurd (clash (is_listed (replicate m true) r) t (none_listed m r (omega (arith, l, q))));
}))
  where
    clash : (b : Bool) → b ≡ true → b ≡ false → ⊥
    clash b p q = cc

-- a row that was added
pub hold_same : (rows : List (List ℕ)) (name : ℕ) (left : List Bool) (holders : List (List ℕ)) → Holding rows left holders → is_listed left name ≡ true → HoldsMore rows name left left holders holders
hold_same rows name left holders h t = record {
  holding = h;
  long = refl;
  counted = omega arith;
  here = t;
  keeps = λ r e. e;
}

-- a row that is added
pub hold_new : (rows : List (List ℕ)) (name : ℕ) (left after : List Bool) (holders new : List (List ℕ)) → Holding rows left holders → name < length rows → AllByRecursion (λ v. v < length holders) (row_at rows name) →
    after ≡ set left name false → new ≡ with_sources holders name (row_at rows name) → HoldsMore rows name left after holders new
hold_new rows name left after holders new h l members e f = subst (λ (a : List Bool). HoldsMore rows name left a holders new) (sym e) (subst (HoldsMore rows name left (set left name false) holders) (sym f) (record {
  holding = record {
    long = length-set left name false ∙ h.long;
    only = λ v r i. elim (from_with_sources name holders (row_at rows name) r v each i) [
      | inl j ↦ h.only v r j
      | inr p ↦ (let q = p.0 in omega (arith, q, l), subst (λ k. IsIn v (row_at rows k)) (sym p.0) p.1)
    ];
    every = λ r v k t i. elim (eqb_tells r name) [
      | inl q ↦ subst (λ x. IsIn x (row_at (with_sources holders name (row_at rows name)) v)) (sym q.1) (new_with_sources name holders (row_at rows name) v each (subst (λ x. IsIn v (row_at rows x)) q.1 i))
      | inr q ↦ old_with_sources name holders (row_at rows name) r v each (h.every r v k (sym (listed_other left name r q.1) ∙ t) i)
    ];
  };
  long = length-with_sources name holders (row_at rows name);
  counted = let s = sum-with_sources name holders (row_at rows name) each in omega (arith, s);
  here = listed_here left name in_left;
  keeps = λ r t. elim (eqb_tells r name) [
    | inl q ↦ subst (λ x. is_listed (set left name false) x ≡ true) (sym q.1) (listed_here left name in_left)
    | inr q ↦ listed_other left name r q.1 ∙ t
  ];
}))
  where
    each : (v : ℕ) → IsIn v (row_at rows name) → v < length holders
    each v i = at_All (λ v. v < length holders) v (row_at rows name) members i

    in_left : name < length left
    in_left = let q = h.long in omega (arith, q, l)

-- the rows of the first i worlds were added
pub record Held (names : List ℕ) (rows : List (List ℕ)) (i : ℕ) (left : List Bool) (holders : List (List ℕ)) : Type 0 where
  pub holding : Holding rows left holders
  pub long : length holders ≡ length names
  pub counted : sum_by length holders ≤ sum_by length (take i (named_rows names rows))
  pub listed : (w : ℕ) → w < i → is_listed left (get_or names w 0) ≡ true

pub held_none : (names : List ℕ) (rows : List (List ℕ)) (m n : ℕ) (left : List Bool) (holders : List (List ℕ)) → left ≡ replicate m true → m ≡ length rows → holders ≡ replicate n [] → n ≡ length names → Held names rows 0 left holders
held_none names rows m n left holders e q f l = record {
  holding = holding_none rows m n left holders e q f;
  long = ap length f ∙ length-replicate n [] ∙ l;
  counted = let s = ap (sum_by length) f ∙ sum_none n in omega (arith, s);
  listed = λ w k. absurd (omega (arith, k));
}

module _ (names : List ℕ) (rows : List (List ℕ)) (i : ℕ) (left : List Bool) (holders : List (List ℕ)) (h : Held names rows i left holders) (l : i < length names) where
  in_named : i < length (named_rows names rows)
  in_named = let e = length-named names rows in omega (arith, e, l)

  row_is : get_or (named_rows names rows) i [] ≡ row_at rows (get_or names i 0)
  row_is = named-at names rows i l

  sum_next : sum_by length (take (i + 1) (named_rows names rows)) ≡ sum_by length (take i (named_rows names rows)) + length (row_at rows (get_or names i 0))
  sum_next =
      let a = ap (sum_by length) (take_more (named_rows names rows) i [] in_named) ∙ sum_by-append length (take i (named_rows names rows)) (get_or (named_rows names rows) i [] ∷ []) in
      let b = sum_by-cons length (get_or (named_rows names rows) i []) [] in
      let c = ap length row_is in
      omega (arith, a, b, c)

  pub held_members : (name : ℕ) → name ≡ get_or names i 0 → AllByRecursion (AllByRecursion (λ v. v < length names)) (named_rows names rows) → AllByRecursion (λ v. v < length holders) (row_at rows name)
  held_members name e fit =
      subst (λ n. AllByRecursion (λ v. v < n) (row_at rows name)) (sym h.long)
      (subst (λ (r : List ℕ). AllByRecursion (λ v. v < length names) r) (row_is ∙ ap (row_at rows) (sym e)) (All-at (AllByRecursion (λ v. v < length names)) (named_rows names rows) i [] in_named fit))

  pub held_room : (name : ℕ) → name ≡ get_or names i 0 → (most : ℕ) → sum_by length (named_rows names rows) < most → sum_by length holders + length (row_at rows name) < most
  held_room name e most few =
      let a = h.counted in
      let b = sum_next in
      let c = sum_by-take-le length (named_rows names rows) (i + 1) in
      let d : length (row_at rows name) ≡ length (row_at rows (get_or names i 0)) = ap (λ (n : ℕ). length (row_at rows n)) e in
      omega (arith, a, b, c, d, few)

  pub held_more : (name : ℕ) (after : List Bool) (new : List (List ℕ)) → name ≡ get_or names i 0 → HoldsMore rows name left after holders new → Held names rows (i + 1) after new
  held_more name after new e m = record {
    holding = m.holding;
    long = m.long ∙ h.long;
    counted = let a = h.counted in let b = m.counted in let c = sum_next in let d : length (row_at rows name) ≡ length (row_at rows (get_or names i 0)) = ap (λ (n : ℕ). length (row_at rows n)) e in omega (arith, a, b, c, d);
    listed = λ w k. ⊎_elim
        (λ (q : w ≡ i). subst (λ x. is_listed after x ≡ true) (e ∙ ap (λ x. get_or names x 0) (sym q)) m.here)
        (λ (d : w < i). m.keeps (get_or names w 0) (h.listed w d))
        (last_or_before w i (let z : w < suc i = omega (arith, k) in z));
  }

pub held_all : (names : List ℕ) (rows : List (List ℕ)) (i : ℕ) (left : List Bool) (holders : List (List ℕ)) → AllByRecursion (λ r. r < length rows) names → length names ≤ i → Held names rows i left holders → Holders names rows holders
held_all names rows i left holders within all h = record {
  long = h.long;
  only = h.holding.only;
  every = λ w v l j. h.holding.every (get_or names w 0) v (All-at (λ r. r < length rows) names w 0 l within) (h.listed w (omega (arith, l, all))) j;
}

-- an agent has fewer links than all agents
pub links_few : (S : Kripke) → IsState S → (a : ℕ) (relation : List (List ℕ)) → a < S.agents → all_pairs relation ≡ links_of S a → (most : ℕ) → link_count S < most → sum_by length relation < most
links_few S s a relation l e most few =
    let b = sum_by-pairs (relation ∷ []) in
    let c = sum_by-cons length (all_pairs relation) [] in
    let d = sum_by-cons (sum_by length) relation [] in
    let f = ap length e in
    let g = get_or-le-sum_by length S.links a [] (let r = s.relations in omega (arith, l, r)) in
    omega (arith, b, c, d, f, g, few)

-- one agent more
pub back_more : (S : Kripke) (all after : List Backward) (i : ℕ) (b : Backward) → length all ≡ i → after ≡ all ++ b ∷ [] → IsShaped S.worlds b → LeadsBack (links_of S i) b →
    ((a : ℕ) (d : Backward) → a < i → IsShaped S.worlds (get_or all a d) × LeadsBack (links_of S a) (get_or all a d)) →
    (a : ℕ) (d : Backward) → a < i + 1 → IsShaped S.worlds (get_or after a d) × LeadsBack (links_of S a) (get_or after a d)
back_more S all after i b long e shaped leads before a d l = subst (λ (bs : List Backward). IsShaped S.worlds (get_or bs a d) × LeadsBack (links_of S a) (get_or bs a d)) (sym e) (⊎_elim
    (λ (q : a ≡ i). subst (λ (x : Backward). IsShaped S.worlds x × LeadsBack (links_of S a) x) (sym (ap (λ k. get_or (all ++ b ∷ []) k d) (q ∙ sym long) ∙ get_or-append_seam all b [] d)) (shaped, subst (λ k. LeadsBack (links_of S k) b) (sym q) leads))
    (λ (m : a < i). subst (λ (x : Backward). IsShaped S.worlds x × LeadsBack (links_of S a) x) (sym (get_or-append all (b ∷ []) d a (omega (arith, m, long)))) (before a d m))
    (last_or_before a i (let z : a < suc i = omega (arith, l) in z)))

-- both together
module _ (S : Kripke) (s : IsState S) (a : ℕ) (names : List ℕ) (rows : List (List ℕ)) (relation : List (List ℕ)) (named : named_rows names rows ≡ relation) (long : length relation ≡ S.worlds)
    (each : (w : ℕ) → w < S.worlds → get_or relation w [] ≡ successors (links_of S a) w) where
  pub names_long : length names ≡ S.worlds
  names_long = sym (length-named names rows) ∙ ap length named ∙ long

  pub row_of : (w : ℕ) → w < S.worlds → row_at rows (get_or names w 0) ≡ successors (links_of S a) w
  row_of w l = sym (named-at names rows w (omega (arith, l, names_long))) ∙ ap (λ (rs : List (List ℕ)). get_or rs w []) named ∙ each w l

  pub rows_fit : AllByRecursion (AllByRecursion (λ v. v < length names)) (named_rows names rows)
  rows_fit = All-from_each (AllByRecursion (λ v. v < length names)) (named_rows names rows) fits
    where
      place : (r : List ℕ) (rs : List (List ℕ)) → IsIn r rs → (w : ℕ) × (w < length rs) × (get_or rs w [] ≡ r)
      place r [] i = absurd i
      place r (x ∷ xs) (inl q) = (0, omega arith, sym q)
      place r (x ∷ xs) (inr i) = let k = place r xs i in (suc k.0, (let l = k.1 in omega (arith, l)), k.2)

      one : (w : ℕ) → w < S.worlds → AllByRecursion (λ v. v < length names) (successors (links_of S a) w)
      one w l = All-from_each (λ v. v < length names) (successors (links_of S a) w) (λ v i. let b = (links_within S s a w v (from_successors w v (links_of S a) i)).1 in omega (arith, b, names_long))

      fits : (r : List ℕ) → IsIn r (named_rows names rows) → AllByRecursion (λ v. v < length names) r
      fits r i =
          let k = place r (named_rows names rows) i in
          let l : k.0 < S.worlds = (let m = k.1 in let e = ap length named in omega (arith, m, e, long)) in
          subst (λ (x : List ℕ). AllByRecursion (λ v. v < length names) x) (sym (each k.0 l) ∙ sym (ap (λ (rs : List (List ℕ)). get_or rs k.0 []) named) ∙ k.2) (one k.0 l)

  module _ (back : Backward) (holders : Holders names rows back.holders) (users : Users names back.count (length names) back.users) (count : back.count ≡ length rows) where
    pub is_shaped : length rows ≤ MOST_WORLDS → IsShaped S.worlds back
    is_shaped few = record {
      few = omega (arith, few, count);
      worlds = holders.long ∙ names_long;
      rows = users.long;
      rows_within = λ v r i. let b = (holders.only v r i).0 in omega (arith, b, count);
      worlds_within = λ r w i. let b = (users.only r w i).0 in omega (arith, b, names_long);
    }

    pub leads_back : LeadsBack (links_of S a) back
    leads_back = record {
      every = λ w v i.
          let l = (links_within S s a w v i).0 in
          (get_or names w 0, holders.every w v (omega (arith, l, names_long)) (subst (IsIn v) (sym (row_of w l)) (IsIn-successors w v (links_of S a) i)), users.every w (omega (arith, l, names_long)));
      only = λ w v r i j.
          let u = users.only r w j in
          let l : w < S.worlds = (let b = u.0 in omega (arith, b, names_long)) in
          from_successors w v (links_of S a) (subst (IsIn v) (ap (row_at rows) (sym u.1) ∙ row_of w l) (holders.only v r i).1);
    }
