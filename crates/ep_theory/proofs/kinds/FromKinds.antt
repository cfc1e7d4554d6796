-- Worlds of equal kinds are bisimilar.
use Rattle.std.proofs.Common.{◌≡◌, ℕ, suc, ◌<◌, ◌≤◌, ◌+◌, ◌-◌, Bool, true, false, cond, ◌&&◌, refl, sym, ap, ◌∙◌, arith, length, IsTrue, nat_lt}
use Rattle.std.proofs.lemmas.Bool.Decides.{nat_tests}
use Rattle.ep_theory.specs.Kripke.{Kripke, IsState}
use Rattle.ep_theory.specs.Kind.{kind}
use Rattle.ep_theory.specs.Bisimulation.{IsBisimulation, BisimilarWorlds}
use Rattle.ep_theory.proofs.kinds.Alike.{answered, alike}
use Rattle.ep_theory.proofs.states.Unique.{links_within}
use Rattle.ep_theory.proofs.kinds.Levels.{equal_earlier}
use Rattle.ep_theory.proofs.kinds.Points.{same_kind, from_same_kind, to_same_kind, points_settled, moved}

pub less_from_test : (m n : ℕ) → nat_lt m n ≡ true → m < n
less_from_test m n h = grind (arith, nat_tests)

pub test_from_less : (m n : ℕ) → m < n → nat_lt m n ≡ true
test_from_less m n h = grind (arith, nat_tests)

not_less : (m n : ℕ) → n ≤ m → nat_lt m n ≡ false
not_less m n h = grind (arith, nat_tests)

pub three : (a b c : Bool) → (a && b && c) ≡ true → (a ≡ true) × (b ≡ true) × (c ≡ true)
three true true true h = (refl, refl, refl)
three true true false h = cc
three true false c h = cc
three false b c h = cc

pub three_back : (a b c : Bool) → a ≡ true → b ≡ true → c ≡ true → (a && b && c) ≡ true
three_back a b c f g h = rw (f, g, h) refl

-- the worlds that have equal kinds at a level
abbrev pub level_at : ℕ → Kripke → Kripke → ℕ → ℕ → Bool
level_at k S R w v = nat_lt w S.worlds && nat_lt v R.worlds && same_kind k (kind S k w) (kind R k v)

module _ (k : ℕ) (S R : Kripke) (s : IsState S) (r : IsState R)
    (stays : (w v : ℕ) → w < S.worlds → v < R.worlds → kind S k w ≡ kind R k v → kind S (suc k) w ≡ kind R (suc k) v) where
  pub related : (w v : ℕ) → w < S.worlds → v < R.worlds → kind S k w ≡ kind R k v → IsTrue (level_at k S R w v)
  related w v a b e = three_back (nat_lt w S.worlds) (nat_lt v R.worlds) (same_kind k (kind S k w) (kind R k v)) (test_from_less w S.worlds a) (test_from_less v R.worlds b) (to_same_kind k _ _ e)

  from_related : (w v : ℕ) → IsTrue (level_at k S R w v) → (w < S.worlds) × (v < R.worlds) × (kind S k w ≡ kind R k v)
  from_related w v h =
      let t = three (nat_lt w S.worlds) (nat_lt v R.worlds) (same_kind k (kind S k w) (kind R k v)) h in
      (less_from_test w S.worlds t.0, less_from_test v R.worlds t.1, from_same_kind k _ _ t.2)

  pub level_bisimulation : S.agents ≡ R.agents → S.atoms ≡ R.atoms → IsBisimulation (level_at k S R) S R
  level_bisimulation g m = record {
    agents = g;
    atoms = m;
    within = λ w v h. let t = from_related w v h in (t.0, t.1);
    truth = λ w v h. equal_earlier S R 0 k w v (omega arith) (from_related w v h).2;
    forth = λ a w v u h i.
        let t = from_related w v h in
        let x = answered S R k w v (stays w v t.0 t.1 t.2) a u i in
        (x.0, x.1, related u x.0 (links_within S s a w u i).1 (links_within R r a v x.0 x.1).1 x.2);
    back = λ a w v x h i.
        let t = from_related w v h in
        let u = answered R S k v w (sym (stays w v t.0 t.1 t.2)) a x i in
        (u.0, u.1, related u.0 x (links_within S s a w u.0 u.1).1 (links_within R r a v x i).1 (sym u.2));
  }

-- one state
pub one_settled : (S : Kripke) → IsState S → (w v : ℕ) → w < S.worlds → v < S.worlds → kind S S.worlds w ≡ kind S S.worlds v → kind S (suc S.worlds) w ≡ kind S (suc S.worlds) v
one_settled S s w v a b e = points_settled S.worlds (λ _. S) (λ i. i) (λ _. s) (λ _ _. refl) (λ i _ u h. (u, h, refl, refl)) w v a b e

pub bisimilar-from_kinds : (S : Kripke) → IsState S → (w v : ℕ) → w < S.worlds → v < S.worlds → kind S S.worlds w ≡ kind S S.worlds v → BisimilarWorlds S w S v
bisimilar-from_kinds S s w v a b e =
    (level_at S.worlds S S, level_bisimulation S.worlds S S s s (one_settled S s) refl refl, related S.worlds S S s s (one_settled S s) w v a b e)

pub kinds_from_bisimilar : (S R : Kripke) → IsState S → IsState R → (w v : ℕ) → BisimilarWorlds S w R v → (k : ℕ) → kind S k w ≡ kind R k v
kinds_from_bisimilar S R s r w v b k = alike b.0 S R s r b.1 k w v b.2

-- two states: their worlds, those of the first before those of the second
module _ (S R : Kripke) where
  abbrev place_state : ℕ → Kripke
  place_state i = cond (nat_lt i S.worlds) S R

  abbrev place_world : ℕ → ℕ
  place_world i = cond (nat_lt i S.worlds) i (i - S.worlds)

  first_state : (u : ℕ) → u < S.worlds → (place_state u ≡ S) × (place_world u ≡ u)
  first_state u h = let t = test_from_less u S.worlds h in (ap (λ b. cond b S R) t, ap (λ b. cond b u (u - S.worlds)) t)

  second_state : (u : ℕ) → (place_state (S.worlds + u) ≡ R) × (place_world (S.worlds + u) ≡ u)
  second_state u =
      let t : nat_lt (S.worlds + u) S.worlds ≡ false = not_less (S.worlds + u) S.worlds (omega arith) in
      let q : S.worlds + u - S.worlds ≡ u = omega arith in
      (ap (λ b. cond b S R) t, ap (λ b. cond b (S.worlds + u) (S.worlds + u - S.worlds)) t ∙ q)

  find : (b : Bool) (u : ℕ) → u < (cond b S R).worlds → (p : ℕ) × (p < S.worlds + R.worlds) × (place_state p ≡ cond b S R) × (place_world p ≡ u)
  find true u h = let f = first_state u h in (u, omega arith, f.0, f.1)
  find false u h = let f = second_state u in (S.worlds + u, omega arith, f.0, f.1)

  one_of : (b : Bool) → IsState S → IsState R → IsState (cond b S R)
  one_of true s r = s
  one_of false s r = r

  as_many : (b c : Bool) → length S.links ≡ length R.links → length (cond b S R).links ≡ length (cond c S R).links
  as_many true true q = refl
  as_many true false q = q
  as_many false true q = sym q
  as_many false false q = refl

  pub two_settled : IsState S → IsState R → S.agents ≡ R.agents → (w v : ℕ) → w < S.worlds → v < R.worlds → kind S (S.worlds + R.worlds) w ≡ kind R (S.worlds + R.worlds) v → kind S (suc (S.worlds + R.worlds)) w ≡ kind R (suc (S.worlds + R.worlds)) v
  two_settled s r g w v a b e =
      let f = first_state w a in
      let h = second_state v in
      let q : length S.links ≡ length R.links = s.relations ∙ g ∙ sym r.relations in
      let n : ℕ = S.worlds + R.worlds in
      moved (suc n) (sym f.0) (sym f.1)
      ∙ points_settled n place_state place_world (λ i. one_of (nat_lt i S.worlds) s r) (λ i j. as_many (nat_lt i S.worlds) (nat_lt j S.worlds) q) (λ i _ u l. find (nat_lt i S.worlds) u l)
      w (S.worlds + v) (omega arith) (omega arith) (moved n f.0 f.1 ∙ e ∙ moved n (sym h.0) (sym h.1))
      ∙ moved (suc n) h.0 h.1

  pub bisimilar-from_kinds_of_two : IsState S → IsState R → S.agents ≡ R.agents → S.atoms ≡ R.atoms → (w v : ℕ) → w < S.worlds → v < R.worlds → kind S (S.worlds + R.worlds) w ≡ kind R (S.worlds + R.worlds) v → BisimilarWorlds S w R v
  bisimilar-from_kinds_of_two s r g m w v a b e =
      (level_at (S.worlds + R.worlds) S R, level_bisimulation (S.worlds + R.worlds) S R s r (two_settled s r g) g m, related (S.worlds + R.worlds) S R s r (two_settled s r g) w v a b e)
