-- Worlds that are marked and listed, each once.
use Rattle.std.proofs.Common.{◌≡◌, ◌≢◌, ℕ, suc, ◌<◌, ◌≤◌, ◌+◌, ◌⊎◌, ◌↔◌, inl, inr, ⊎_elim, Bool, true, false, not, cond, List, [], ◌∷◌, ◌++◌, length, get_or, set, take, sum_by, replicate, refl, sym, ap, subst, ◌∙◌, arith, length-append, zero-le, nat_eq}
use Rattle.std.proofs.lemmas.Bool.Decides.{nat_tests}
use Rattle.std.proofs.lemmas.List.Sums.{sum_by-cons}
use Rattle.std.proofs.lemmas.List.{get_or-set_other, get_or-set_same, length-set, take_more, get_or_default, append_assoc, append-nil, get_or-replicate}
use Rattle.std.proofs.Math.ListN.{get_or-append, length-replicate}
use Rattle.std.proofs.Math.Seq.{get_or-append_seam}
use Rattle.ep_theory.specs.Rising.{IsIn}
use Rattle.ep_theory.proofs.CallerLemmas.{in_left, in_right, in_parts, last_or_before, IsIn-at, Contains-from_in}
use Rattle.ep_logic.specs.Rows.{value_at}
use Rattle.ep_theory.specs.Kripke.{Kripke, IsState, links_of}
use Rattle.ep_kripke.specs.Sources.{row_at}
use Rattle.ep_kripke.specs.Taking.{without, taken}
use Rattle.ep_refine.specs.declared.backward.Backward.{Backward}
use Rattle.ep_refine.specs.Backward.{IsShaped, LeadsBack}
use Rattle.ep_refine.specs.Touching.{is_listed, Listed, Adds, InSome, LinksToSome}
use Rattle.ep_refine.specs.Groups.{IsWithin, AreDistinct}
use Rattle.ep_refine.proofs.ReachLemmas.{linked_agent}
use Rattle.ep_refine.proofs.BlockLemmas.{same_or_not}
use Rattle.ep_refine.proofs.Potential.{weight, sum_bump}

-- a world is marked as listed, and no other
pub listed_here : (row : List Bool) (w : ℕ) → w < length row → is_listed (set row w false) w ≡ true
listed_here row w l = ap not (get_or-set_same row w false false l)

pub listed_other : (row : List Bool) (w v : ℕ) → v ≢ w → is_listed (set row w false) v ≡ is_listed row v
listed_other row w v q = ap not (get_or-set_other row w v false false q)

pub none_listed : (m c : ℕ) → c < m → is_listed (replicate m true) c ≡ false
none_listed m c l = ap not (get_or-replicate m c true false l)

pub listed_none : (m n : ℕ) (left : List Bool) (ws : List ℕ) → left ≡ replicate m true → ws ≡ [] → m ≡ n → Listed n left ws
listed_none m n left ws e f q = subst (λ (row : List Bool). Listed n row ws) (sym e) (subst (λ (zs : List ℕ). Listed n (replicate m true) zs) (sym f) (record {
  long = length-replicate m true ∙ q;
  within = λ k l. absurd (omega (arith, l));
  distinct = λ i j l b z. absurd (omega (arith, b));
  marked = λ u l t. absurd (clash (is_listed (replicate m true) u) t (none_listed m u (omega (arith, l, q))));
  listed = λ k l. absurd (omega (arith, l));
}))
  where
    clash : (b : Bool) → b ≡ true → b ≡ false → ⊥
    clash b p q = cc

-- the place of a listed world
pub place_in : (u : ℕ) (ws : List ℕ) → IsIn u ws → (k : ℕ) × (k < length ws) × (get_or ws k 0 ≡ u)
place_in u ws i = let r = Contains-from_in u ws i in (r.0, r.1, get_or_default ws r.0 0 u r.1 ∙ r.2)

pub in_marked : (n : ℕ) (row : List Bool) (ws : List ℕ) → Listed n row ws → (u : ℕ) → IsIn u ws → is_listed row u ≡ true
in_marked n row ws h u i = let k = place_in u ws i in subst (λ v. is_listed row v ≡ true) k.2 (h.listed k.0 k.1)

pub in_within : (n : ℕ) (ws : List ℕ) → IsWithin n ws → (u : ℕ) → IsIn u ws → u < n
in_within n ws h u i = let k = place_in u ws i in subst (λ v. v < n) k.2 (h k.0 k.1)

only : (v y : ℕ) → IsIn v (y ∷ []) → v ≡ y
only v y (inl k) = k
only v y (inr k) = absurd k

module _ (n : ℕ) (row : List Bool) (ws : List ℕ) (w : ℕ) (h : Listed n row ws) (w_n : w < n) (new : is_listed row w ≡ false) where
  at_end : get_or (ws ++ w ∷ []) (length ws) 0 ≡ w
  at_end = get_or-append_seam ws w [] 0

  before : (k : ℕ) → k < length ws → get_or (ws ++ w ∷ []) k 0 ≡ get_or ws k 0
  before k l = get_or-append ws (w ∷ []) 0 k l

  w_in : w < length row
  w_in = let e = h.long in omega (arith, e, w_n)

  long : length (ws ++ w ∷ []) ≡ length ws + 1
  long = length-append ws (w ∷ [])

  clash : (b : Bool) → b ≡ true → b ≡ false → ⊥
  clash b p q = cc

  pub listed_new : Listed n (set row w false) (ws ++ w ∷ [])
  listed_new = record {
    long = length-set row w false ∙ h.long;
    within = λ k l. ⊎_elim (λ (q : k ≡ length ws). subst (λ m. get_or (ws ++ w ∷ []) m 0 < n) (sym q) (subst (λ v. v < n) (sym at_end) w_n))
        (λ (m : k < length ws). subst (λ v. v < n) (sym (before k m)) (h.within k m)) (last_or_before k (length ws) (let e = long in omega (arith, e, l)));
    distinct = λ i j l b q. ⊎_elim
        (λ (e : j ≡ length ws).
        let i_in : i < length ws = omega (arith, e, l) in
        let same : get_or ws i 0 ≡ w = sym (before i i_in) ∙ q ∙ ap (λ m. get_or (ws ++ w ∷ []) m 0) e ∙ at_end in
        clash (is_listed row w) (subst (λ v. is_listed row v ≡ true) same (h.listed i i_in)) new)
        (λ (m : j < length ws). h.distinct i j l m (sym (before i (omega (arith, l, m))) ∙ q ∙ before j m))
        (last_or_before j (length ws) (let e = long in omega (arith, e, b)));
    marked = λ u l e. ⊎_elim
        (λ (q : u ≡ w). in_right u ws (w ∷ []) (inl q))
        (λ (q : u ≢ w). in_left u ws (w ∷ []) (h.marked u l (sym (listed_other row w u q) ∙ e)))
        (same_or_not u w);
    listed = λ k l. ⊎_elim
        (λ (q : k ≡ length ws). subst (λ m. is_listed (set row w false) (get_or (ws ++ w ∷ []) m 0) ≡ true) (sym q) (subst (λ v. is_listed (set row w false) v ≡ true) (sym at_end) (listed_here row w w_in)))
        (λ (m : k < length ws). subst (λ v. is_listed (set row w false) v ≡ true) (sym (before k m)) (kept (get_or ws k 0) (h.listed k m)))
        (last_or_before k (length ws) (let e = long in omega (arith, e, l)));
  }
    where
      kept : (v : ℕ) → is_listed row v ≡ true → is_listed (set row w false) v ≡ true
      kept v e = ⊎_elim
          (λ (q : v ≡ w). subst (λ x. is_listed (set row w false) x ≡ true) (sym q) (listed_here row w w_in))
          (λ (q : v ≢ w). listed_other row w v q ∙ e)
          (same_or_not v w)

  pub adds_new : Adds (λ u. u ≡ w) ws (ws ++ w ∷ [])
  adds_new = record {
    keeps = λ u i. in_left u ws (w ∷ []) i;
    adds = λ u q. in_right u ws (w ∷ []) (inl q);
    only = λ u i. ⊎_elim (λ (j : IsIn u ws). inl j) (λ (j : IsIn u (w ∷ [])). inr (only u w j)) (in_parts u ws (w ∷ []) i);
  }

pub adds_both : (P Q R : ℕ → Type 0) (a b c : List ℕ) → ((u : ℕ) → R u → P u ⊎ Q u) → ((u : ℕ) → P u ⊎ Q u → R u) → Adds P a b → Adds Q b c → Adds R a c
adds_both P Q R a b c from to f g = record {
  keeps = λ u i. g.keeps u (f.keeps u i);
  adds = λ u r. ⊎_elim (λ (p : P u). g.keeps u (f.adds u p)) (λ (q : Q u). g.adds u q) (from u r);
  only = λ u i. ⊎_elim (λ (j : IsIn u b). ⊎_elim (λ (k : IsIn u a). inl k) (λ (p : P u). inr (to u (inl p))) (f.only u j)) (λ (q : Q u). inr (to u (inr q))) (g.only u i);
}

pub in_take : (ws : List ℕ) (i u : ℕ) → i < length ws → IsIn u (take (i + 1) ws) → IsIn u (take i ws) ⊎ (u ≡ get_or ws i 0)
in_take ws i u l h = ⊎_elim (λ (j : IsIn u (take i ws)). inl j) (λ (k : IsIn u (get_or ws i 0 ∷ [])). inr (only u (get_or ws i 0) k))
    (in_parts u (take i ws) (get_or ws i 0 ∷ []) (subst (IsIn u) (take_more ws i 0 l) h))

to_take : (ws : List ℕ) (i u : ℕ) → i < length ws → IsIn u (take i ws) ⊎ (u ≡ get_or ws i 0) → IsIn u (take (i + 1) ws)
to_take ws i u l h = subst (IsIn u) (sym (take_more ws i 0 l))
    (⊎_elim (λ (j : IsIn u (take i ws)). in_left u (take i ws) (get_or ws i 0 ∷ []) j) (λ (k : u ≡ get_or ws i 0). in_right u (take i ws) (get_or ws i 0 ∷ []) (inl k)) h)

-- what is taken out of the row of those that are left is listed
module _ (n : ℕ) where
  taken_step : (b : Bool) (x : ℕ) (xs : List ℕ) (left : List Bool) (ws : List ℕ) → value_at left x ≡ b → ((y : ℕ) → IsIn y (x ∷ xs) → y < n) → Listed n left ws →
      ((row : List Bool) (zs : List ℕ) → Listed n row zs → Listed n (without xs row) (zs ++ taken xs row) × Adds (λ u. IsIn u xs) zs (zs ++ taken xs row)) →
      Listed n (without xs (cond b (set left x false) left)) (ws ++ cond b (x ∷ taken xs (set left x false)) (taken xs left))
      × Adds (λ u. IsIn u (x ∷ xs)) ws (ws ++ cond b (x ∷ taken xs (set left x false)) (taken xs left))
  taken_step true x xs left ws e h l more =
      let one = listed_new n left ws x l (h x (inl refl)) (ap not e) in
      let rest = more (set left x false) (ws ++ x ∷ []) one in
      let q : (ws ++ x ∷ []) ++ taken xs (set left x false) ≡ ws ++ x ∷ taken xs (set left x false) = append_assoc ws (x ∷ []) (taken xs (set left x false)) in (
        subst (λ (zs : List ℕ). Listed n (without xs (set left x false)) zs) q rest.0,
        subst (λ (zs : List ℕ). Adds (λ u. IsIn u (x ∷ xs)) ws zs) q
            (adds_both (λ u. u ≡ x) (λ u. IsIn u xs) (λ u. IsIn u (x ∷ xs)) ws (ws ++ x ∷ []) ((ws ++ x ∷ []) ++ taken xs (set left x false)) (λ u i. i) (λ u i. i)
            (adds_new n left ws x l (h x (inl refl)) (ap not e)) rest.1),
      )
  taken_step false x xs left ws e h l more =
      let rest = more left ws l in
      let had : IsIn x ws = l.marked x (h x (inl refl)) (ap not e) in (
        rest.0,
        adds_both (λ u. u ≡ x) (λ u. IsIn u xs) (λ u. IsIn u (x ∷ xs)) ws ws (ws ++ taken xs left) (λ u i. i) (λ u i. i)
            (record { keeps = λ u i. i; adds = λ u q. subst (λ v. IsIn v ws) (sym q) had; only = λ u i. inl i }) rest.1,
      )

  pub taken_listed : (xs : List ℕ) (left : List Bool) (ws : List ℕ) → ((x : ℕ) → IsIn x xs → x < n) → Listed n left ws → Listed n (without xs left) (ws ++ taken xs left) × Adds (λ u. IsIn u xs) ws (ws ++ taken xs left)
  taken_listed [] left ws h l = (
    subst (λ (zs : List ℕ). Listed n left zs) (sym (append-nil ws)) l,
    subst (λ (zs : List ℕ). Adds (λ u. ⊥) ws zs) (sym (append-nil ws)) (record { keeps = λ u i. i; adds = λ u i. absurd i; only = λ u i. inl i }),
  )
  taken_listed (x ∷ xs) left ws h l = taken_step (value_at left x) x xs left ws refl h l (λ row zs m. taken_listed xs row zs (λ y i. h y (inr i)) m)

pub taken_as : (n : ℕ) (xs : List ℕ) (left : List Bool) (ws : List ℕ) (after : List Bool) (zs : List ℕ) → ((x : ℕ) → IsIn x xs → x < n) → Listed n left ws → after ≡ without xs left → zs ≡ ws ++ taken xs left →
    Listed n after zs × Adds (λ u. IsIn u xs) ws zs
taken_as n xs left ws after zs h l e f =
    let t = taken_listed n xs left ws h l in (
      subst (λ (a : List Bool). Listed n a zs) (sym e) (subst (λ (ys : List ℕ). Listed n (without xs left) ys) (sym f) t.0),
      subst (λ (ys : List ℕ). Adds (λ u. IsIn u xs) ws ys) (sym f) t.1,
    )

-- one list more
pub some_more : (f : ℕ → List ℕ) (xs : List ℕ) (i : ℕ) (a b c : List ℕ) → i < length xs → Adds (InSome f (take i xs)) a b → Adds (λ u. IsIn u (f (get_or xs i 0))) b c → Adds (InSome f (take (i + 1) xs)) a c
some_more f xs i a b c l = adds_both (InSome f (take i xs)) (λ u. IsIn u (f (get_or xs i 0))) (InSome f (take (i + 1) xs)) a b c from to
  where
    from : (u : ℕ) → InSome f (take (i + 1) xs) u → InSome f (take i xs) u ⊎ IsIn u (f (get_or xs i 0))
    from u h = ⊎_elim
        (λ (j : IsIn h.0 (take i xs)). inl (h.0, j, h.2))
        (λ (q : h.0 ≡ get_or xs i 0). inr (subst (λ v. IsIn u (f v)) q h.2))
        (in_take xs i h.0 l h.1)

    to : (u : ℕ) → InSome f (take i xs) u ⊎ IsIn u (f (get_or xs i 0)) → InSome f (take (i + 1) xs) u
    to u h = ⊎_elim
        (λ (j : InSome f (take i xs) u). (j.0, to_take xs i j.0 l (inl j.1), j.2))
        (λ (j : IsIn u (f (get_or xs i 0))). (get_or xs i 0, to_take xs i (get_or xs i 0) l (inr refl), j)) h

pub some_none : (f : ℕ → List ℕ) (xs a : List ℕ) → Adds (InSome f (take 0 xs)) a a
some_none f xs a = record { keeps = λ u i. i; adds = λ u h. absurd h.1; only = λ u i. inl i }

-- the links of the first agents
abbrev pub LinksOfFirst : Kripke → List ℕ → ℕ → ℕ → Type 0
LinksOfFirst S moved a w = (b v : ℕ) × (b < a) × IsIn v moved × IsIn (w, v) (links_of S b)

-- what the rows with a world that moved give is what the agent links to one that moved
pub agent_more : (S : Kripke) (moved : List ℕ) (a : ℕ) (back : Backward) (rows before after : List ℕ) → LeadsBack (links_of S a) back → Adds (InSome (row_at back.holders) moved) [] rows →
    Adds (LinksOfFirst S moved a) [] before → Adds (InSome (row_at back.users) rows) before after → Adds (LinksOfFirst S moved (a + 1)) [] after
agent_more S moved a back rows before after leads r f g = adds_both (LinksOfFirst S moved a) (InSome (row_at back.users) rows) (LinksOfFirst S moved (a + 1)) [] before after from to f g
  where
    here : (w v : ℕ) → IsIn v moved → IsIn (w, v) (links_of S a) → InSome (row_at back.users) rows w
    here w v m l = let e = leads.every w v l in (e.0, r.adds e.0 (v, m, e.1), e.2)

    from : (w : ℕ) → LinksOfFirst S moved (a + 1) w → LinksOfFirst S moved a w ⊎ InSome (row_at back.users) rows w
    from w h = ⊎_elim
        (λ (q : h.0 ≡ a). inr (here w h.1 h.3 (subst (λ b. IsIn (w, h.1) (links_of S b)) q h.4)))
        (λ (l : h.0 < a). inl (h.0, h.1, l, h.3, h.4))
        (last_or_before h.0 a (let k = h.2 in let z : h.0 < suc a = omega (arith, k) in z))

    at_row : (w k : ℕ) → IsIn w (row_at back.users k) → IsIn k rows → LinksOfFirst S moved (a + 1) w
    at_row w k u i = ⊎_elim (λ (j : IsIn k []). absurd j)
        (λ (j : InSome (row_at back.holders) moved k). (a, j.0, omega arith, j.1, leads.only w j.0 k j.2 u))
        (r.only k i)

    to : (w : ℕ) → LinksOfFirst S moved a w ⊎ InSome (row_at back.users) rows w → LinksOfFirst S moved (a + 1) w
    to w h = ⊎_elim
        (λ (j : LinksOfFirst S moved a w). (j.0, j.1, (let k = j.2 in omega (arith, k)), j.3, j.4))
        (λ (j : InSome (row_at back.users) rows w). at_row w j.0 j.2 j.1) h

pub first_links_none : (S : Kripke) (moved ws : List ℕ) → ws ≡ [] → Adds (LinksOfFirst S moved 0) [] ws
first_links_none S moved ws e = subst (λ (zs : List ℕ). Adds (LinksOfFirst S moved 0) [] zs) (sym e) (record { keeps = λ u i. i; adds = λ u h. absurd (let k = h.2 in omega (arith, k)); only = λ u i. inl i })

-- those of all agents
pub links_of_all : (S : Kripke) → IsState S → (moved : List ℕ) (a : ℕ) (ws : List ℕ) → S.agents ≤ a → Adds (LinksOfFirst S moved a) [] ws → (w : ℕ) → IsIn w ws ↔ LinksToSome S moved w
links_of_all S s moved a ws all f w = (
  λ i. ⊎_elim (λ (j : IsIn w []). absurd j) (λ (h : LinksOfFirst S moved a w). (h.0, h.1, h.3, h.4)) (f.only w i),
  λ h. f.adds w (h.0, h.1, (let l = linked_agent S s h.0 w h.1 h.3 in omega (arith, l, all)), h.2, h.3),
)

-- each row that is touched is a row
pub rows_touched : (n : ℕ) (back : Backward) (moved rows : List ℕ) → IsShaped n back → Adds (InSome (row_at back.holders) moved) [] rows → IsWithin back.count rows
rows_touched n back moved rows shaped f k l = ⊎_elim (λ (j : IsIn (get_or rows k 0) []). absurd j)
    (λ (h : InSome (row_at back.holders) moved (get_or rows k 0)). shaped.rows_within h.0 (get_or rows k 0) h.2)
    (f.only (get_or rows k 0) (IsIn-at rows k 0 l))

abbrev but : ℕ → (ℕ → Bool) → ℕ → Bool
but x test y = cond (nat_eq y x) false (test y)

other : (x : ℕ) (test : ℕ → Bool) (y : ℕ) → y ≢ x → but x test y ≡ test y
other x test y q = ap (λ b. cond b false (test y)) (let e : nat_eq y x ≡ false = grind (arith, nat_tests) in e)

kept : (x : ℕ) (test : ℕ → Bool) (y : ℕ) → y ≢ x → test y ≡ true → but x test y ≡ true
kept x test y q t = other x test y q ∙ t

here : (x : ℕ) (test : ℕ → Bool) (v : ℕ) → test x ≡ true → cond (test x) v 0 ≡ cond (but x test x) v 0 + v
here x test v t =
    let e : nat_eq x x ≡ true = grind (arith, nat_tests) in
    let a : cond (test x) v 0 ≡ v = ap (λ b. cond b v 0) t in
    let b : cond (but x test x) v 0 ≡ 0 = ap (λ c. cond (cond c false (test x)) v 0) e in
    omega (arith, a, b)

-- a sum over distinct worlds that are all marked is at most the weight of the marked worlds
pub sum_listed : (f : ℕ → ℕ) (n : ℕ) (test : ℕ → Bool) (ws : List ℕ) → IsWithin n ws → AreDistinct ws → ((k : ℕ) → k < length ws → test (get_or ws k 0) ≡ true) → sum_by f ws ≤ weight f test n
sum_listed f n test [] within distinct marked = zero-le
sum_listed f n test (x ∷ xs) within distinct marked =
    let e = sum_by-cons f x xs in
    let h = sum_listed f n (but x test) xs (λ k l. within (suc k) (omega arith)) (λ i j l b. distinct (suc i) (suc j) (omega arith) (omega arith))
    (λ k l. kept x test (get_or xs k 0) (λ q. distinct 0 (suc k) (omega arith) (omega arith) (sym q)) (marked (suc k) (omega arith))) in
    let b : weight f test n ≡ weight f (but x test) n + f x =
    sum_bump (λ y. cond (but x test y) (f y) 0) (λ y. cond (test y) (f y) 0) n x (f x) (within 0 (omega arith))
    (here x test (f x) (marked 0 (omega arith))) (λ y l q. ap (λ t. cond t (f y) 0) (sym (other x test y q))) in
    omega (arith, e, h, b)

pub sum_more : (f : ℕ → ℕ) (ws : List ℕ) (i : ℕ) → i < length ws → sum_by f (take (i + 1) ws) ≡ sum_by f (take i ws) + f (get_or ws i 0)
sum_more f ws i l = ap (sum_by f) (take_more ws i 0 l) ∙ sum_snoc f (take i ws) (get_or ws i 0)
  where
    sum_snoc : (f : ℕ → ℕ) (xs : List ℕ) (y : ℕ) → sum_by f (xs ++ y ∷ []) ≡ sum_by f xs + f y
    sum_snoc f [] y = let e = sum_by-cons f y [] in omega (arith, e)
    sum_snoc f (x ∷ xs) y = let e = sum_by-cons f x (xs ++ y ∷ []) in let d = sum_by-cons f x xs in let h = sum_snoc f xs y in omega (arith, e, d, h)
