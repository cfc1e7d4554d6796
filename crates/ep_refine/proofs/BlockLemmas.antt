-- Blocks of worlds under an exchange of two places and under a cut.
use Rattle.std.proofs.Common.{◌≡◌, ◌≢◌, ℕ, ◌<◌, ◌≤◌, sym, ap, subst, ◌∙◌, arith, ◌⊎◌, inl, inr, ⊎_elim}
use Rattle.std.specs.Ordering.{nat_cmp, ordering_then}
use Rattle.ep_refine.specs.Blocks.{IsPartition}
use Rattle.ep_refine.proofs.Splitting.{then_cmp}

pub same_or_not : (a b : ℕ) → (a ≡ b) ⊎ (a ≢ b)
same_or_not a b = grind arith

pub lt_or_le : (m i : ℕ) → (m < i) ⊎ (i ≤ m)
lt_or_le m i = grind arith

-- the world w goes to the place p of its block, and the world that stood there to the place of w
module _ (n : ℕ) (order place rank start end : ℕ → ℕ) (h : IsPartition n order place rank start end) (w p : ℕ) (w_n : w < n)
    (from : start (rank w) ≤ p) (to : p < end (rank w)) (order' place' : ℕ → ℕ)
    (o_from : order' (place w) ≡ order p) (o_p : p ≢ place w → order' p ≡ w) (o_other : (q : ℕ) → q ≢ p → q ≢ place w → order' q ≡ order q)
    (p_w : place' w ≡ p) (p_old : order p ≢ w → place' (order p) ≡ place w) (p_other : (u : ℕ) → u ≢ w → u ≢ order p → place' u ≡ place u) where
  p_n : p < n
  p_n = let e = h.end_in w w_n in omega (arith, e, to)

  -- where p is the place of w already
  at_home : p ≡ place w → order p ≡ w
  at_home q = ap order q ∙ (h.placed w w_n).1

  home : order p ≡ w → p ≡ place w
  home q = sym (h.ordered p p_n).1 ∙ ap place q

  at_p : order' p ≡ w
  at_p = ⊎_elim (λ (q : p ≡ place w). ap order' q ∙ o_from ∙ at_home q) (λ (q : p ≢ place w). o_p q) (same_or_not p (place w))

  placed : (u : ℕ) → u < n → (place' u < n) × (order' (place' u) ≡ u)
  placed u b = ⊎_elim
      (λ (q : u ≡ w). subst (λ v. (place' v < n) × (order' (place' v) ≡ v)) (sym q) (subst (λ z. z < n) (sym p_w) p_n, ap order' p_w ∙ at_p))
      (λ (q : u ≢ w). ⊎_elim
      (λ (r : u ≡ order p). subst (λ v. (place' v < n) × (order' (place' v) ≡ v)) (sym r)
      (let e = p_old (λ z. q (r ∙ z)) in (subst (λ z. z < n) (sym e) (h.placed w w_n).0, ap order' e ∙ o_from)))
      (λ (r : u ≢ order p).
      let e = p_other u q r in (
        subst (λ z. z < n) (sym e) (h.placed u b).0,
        ap order' e ∙ o_other (place u) (λ z. r (sym (h.placed u b).1 ∙ ap order z)) (λ z. q (sym (h.placed u b).1 ∙ ap order z ∙ (h.placed w w_n).1)) ∙ (h.placed u b).1,
      ))
      (same_or_not u (order p)))
      (same_or_not u w)

  ordered : (q : ℕ) → q < n → (order' q < n) × (place' (order' q) ≡ q)
  ordered q b = ⊎_elim
      (λ (e : q ≡ place w). subst (λ z. (order' z < n) × (place' (order' z) ≡ z)) (sym e) (
        subst (λ z. z < n) (sym o_from) (h.ordered p p_n).0,
        ap place' o_from ∙ ⊎_elim (λ (z : order p ≡ w). ap place' z ∙ p_w ∙ home z) (λ (z : order p ≢ w). p_old z) (same_or_not (order p) w),
      ))
      (λ (e : q ≢ place w). ⊎_elim
      (λ (f : q ≡ p). subst (λ z. (order' z < n) × (place' (order' z) ≡ z)) (sym f) (subst (λ z. z < n) (sym at_p) w_n, ap place' at_p ∙ p_w))
      (λ (f : q ≢ p).
      let k = o_other q f e in (
        subst (λ z. z < n) (sym k) (h.ordered q b).0,
        ap place' k ∙ p_other (order q) (λ z. e (sym (h.ordered q b).1 ∙ ap place z)) (λ z. f (sym (h.ordered q b).1 ∙ ap place z ∙ (h.ordered p p_n).1)) ∙ (h.ordered q b).1,
      ))
      (same_or_not q p))
      (same_or_not q (place w))

  rank_p : rank (order p) ≡ rank w
  rank_p = h.alike w p w_n from to

  in_block : (u : ℕ) → u < n → (start (rank u) ≤ place' u) × (place' u < end (rank u))
  in_block u b = ⊎_elim
      (λ (q : u ≡ w). subst (λ v. (start (rank v) ≤ place' v) × (place' v < end (rank v))) (sym q) (subst (λ z. (start (rank w) ≤ z) × (z < end (rank w))) (sym p_w) (from, to)))
      (λ (q : u ≢ w). ⊎_elim
      (λ (r : u ≡ order p). subst (λ v. (start (rank v) ≤ place' v) × (place' v < end (rank v))) (sym r)
      (subst (λ z. (start z ≤ place' (order p)) × (place' (order p) < end z)) (sym rank_p)
      (subst (λ z. (start (rank w) ≤ z) × (z < end (rank w))) (sym (p_old (λ z. q (r ∙ z)))) (h.start_place w w_n, h.place_end w w_n))))
      (λ (r : u ≢ order p). subst (λ z. (start (rank u) ≤ z) × (z < end (rank u))) (sym (p_other u q r)) (h.start_place u b, h.place_end u b))
      (same_or_not u (order p)))
      (same_or_not u w)

  alike : (u q : ℕ) → u < n → start (rank u) ≤ q → q < end (rank u) → rank (order' q) ≡ rank u
  alike u q b f t = ⊎_elim
      (λ (e : q ≡ place w). ap (λ z. rank (order' z)) e ∙ ap rank o_from ∙ rank_p ∙ sym (ap rank (ap order e ∙ (h.placed w w_n).1)) ∙ h.alike u q b f t)
      (λ (e : q ≢ place w). ⊎_elim
      (λ (g : q ≡ p). ap (λ z. rank (order' z)) g ∙ ap rank at_p ∙ sym rank_p ∙ ap (λ z. rank (order z)) (sym g) ∙ h.alike u q b f t)
      (λ (g : q ≢ p). ap rank (o_other q g e) ∙ h.alike u q b f t)
      (same_or_not q p))
      (same_or_not q (place w))

  pub exchanged : IsPartition n order' place' rank start end
  exchanged = record {
    placed = placed;
    ordered = ordered;
    start_rank = h.start_rank;
    rank_end = h.rank_end;
    end_in = h.end_in;
    start_place = λ u b. (in_block u b).0;
    place_end = λ u b. (in_block u b).1;
    alike = alike;
  }

  pub at_target : order' p ≡ w
  at_target = at_p

-- A block from s to e is cut at m: its worlds from s to m get the rank p, and those from m to e the rank q.
module _ (n : ℕ) (order place rank start end : ℕ → ℕ) (h : IsPartition n order place rank start end) (c s e m p q : ℕ)
    (x : ℕ) (x_n : x < n) (x_c : rank x ≡ c) (s_is : start c ≡ s) (e_is : end c ≡ e)
    (s_p : s ≤ p) (p_m : p < m) (m_q : m ≤ q) (q_e : q < e)
    (rank' start' end' : ℕ → ℕ)
    (lower : (u : ℕ) → u < n → s ≤ place u → place u < m → rank' u ≡ p)
    (upper : (u : ℕ) → u < n → m ≤ place u → place u < e → rank' u ≡ q)
    (before : (u : ℕ) → u < n → place u < s → rank' u ≡ rank u)
    (behind : (u : ℕ) → u < n → e ≤ place u → rank' u ≡ rank u)
    (start_p : start' p ≡ s) (end_p : end' p ≡ m) (start_q : start' q ≡ m) (end_q : end' q ≡ e)
    (starts : (d : ℕ) → (d < s) ⊎ (e ≤ d) → start' d ≡ start d) (ends : (d : ℕ) → (d < s) ⊎ (e ≤ d) → end' d ≡ end d) where
  e_n : e ≤ n
  e_n = let k = h.end_in x x_n in let r = ap end x_c ∙ e_is in omega (arith, k, r)

  -- a world of the block stands between s and e, and any other outside
  in_class : (u : ℕ) → u < n → rank u ≡ c → (s ≤ place u) × (place u < e)
  in_class u b r =
      let a = h.start_place u b in let d = h.place_end u b in
      let k = ap start r ∙ s_is in let l = ap end r ∙ e_is in
      (omega (arith, a, k), omega (arith, d, l))

  from_place : (u : ℕ) → u < n → s ≤ place u → place u < e → rank u ≡ c
  from_place u b a d =
      let k = ap start x_c ∙ s_is in let l = ap end x_c ∙ e_is in
      sym (ap rank (h.placed u b).1) ∙ h.alike x (place u) x_n (omega (arith, a, k)) (omega (arith, d, l)) ∙ x_c

  -- where a world stands
  data Where (u : ℕ) : Type 0 where
    low : rank u ≡ c → s ≤ place u → place u < m → rank' u ≡ p → Where u
    high : rank u ≡ c → m ≤ place u → place u < e → rank' u ≡ q → Where u
    out : rank u ≢ c → (place u < s) ⊎ (e ≤ place u) → rank' u ≡ rank u → Where u

  locate : (u : ℕ) → u < n → Where u
  locate u b = ⊎_elim
      (λ (l : place u < s). out (λ r. let k = (in_class u b r).0 in absurd (omega (arith, k, l))) (inl l) (before u b l))
      (λ (l : s ≤ place u). ⊎_elim
      (λ (k : place u < m). low (from_place u b l (omega (arith, k, m_q, q_e))) l k (lower u b l k))
      (λ (k : m ≤ place u). ⊎_elim
      (λ (j : place u < e). high (from_place u b (omega (arith, l)) j) k j (upper u b k j))
      (λ (j : e ≤ place u). out (λ r. let z = (in_class u b r).1 in absurd (omega (arith, z, j))) (inr j) (behind u b j))
      (lt_or_le (place u) e))
      (lt_or_le (place u) m))
      (lt_or_le (place u) s)

  -- the rank of another block is outside
  rank_out : (u : ℕ) → u < n → rank u ≢ c → (rank u < s) ⊎ (e ≤ rank u)
  rank_out u b r = ⊎_elim (λ (l : rank u < s). inl l)
      (λ (l : s ≤ rank u). ⊎_elim
      (λ (k : rank u < e).
      let a = ap start x_c ∙ s_is in let d = ap end x_c ∙ e_is in
      let f = h.alike x (rank u) x_n (omega (arith, l, a)) (omega (arith, k, d)) in
      let g = h.alike u (rank u) b (h.start_rank u b) (h.rank_end u b) in
      absurd (r (sym g ∙ f ∙ x_c)))
      (λ (k : e ≤ rank u). inr k)
      (lt_or_le (rank u) e))
      (lt_or_le (rank u) s)

  start_out : (u : ℕ) → u < n → rank u ≢ c → rank' u ≡ rank u → start' (rank' u) ≡ start (rank u)
  start_out u b r k = ap start' k ∙ starts (rank u) (rank_out u b r)

  end_out : (u : ℕ) → u < n → rank u ≢ c → rank' u ≡ rank u → end' (rank' u) ≡ end (rank u)
  end_out u b r k = ap end' k ∙ ends (rank u) (rank_out u b r)

  record Bounds (u : ℕ) : Type 0 where
    start_rank : start' (rank' u) ≤ rank' u
    rank_end : rank' u < end' (rank' u)
    end_in : end' (rank' u) ≤ n
    start_place : start' (rank' u) ≤ place u
    place_end : place u < end' (rank' u)
    shrinks_from : start (rank u) ≤ start' (rank' u)
    shrinks_to : end' (rank' u) ≤ end (rank u)

  bounds : (u : ℕ) → u < n → Where u → Bounds u
  bounds u b (low r f t k) =
      let a = ap start' k ∙ start_p in let d = ap end' k ∙ end_p in let y = ap start r ∙ s_is in let z = ap end r ∙ e_is in
      record {
        start_rank = omega (arith, a, k, s_p);
        rank_end = omega (arith, d, k, p_m);
        end_in = let l = e_n in omega (arith, d, m_q, q_e, l);
        start_place = omega (arith, a, f);
        place_end = omega (arith, d, t);
        shrinks_from = omega (arith, a, y);
        shrinks_to = omega (arith, d, z, m_q, q_e);
      }
  bounds u b (high r f t k) =
      let a = ap start' k ∙ start_q in let d = ap end' k ∙ end_q in let y = ap start r ∙ s_is in let z = ap end r ∙ e_is in
      record {
        start_rank = omega (arith, a, k, m_q);
        rank_end = omega (arith, d, k, q_e);
        end_in = let l = e_n in omega (arith, d, l);
        start_place = omega (arith, a, f);
        place_end = omega (arith, d, t);
        shrinks_from = omega (arith, a, y, s_p, p_m);
        shrinks_to = omega (arith, d, z);
      }
  bounds u b (out r o k) =
      let a = start_out u b r k in let d = end_out u b r k in
      let f = h.start_rank u b in let g = h.rank_end u b in let i = h.end_in u b in let j = h.start_place u b in let l = h.place_end u b in
      record {
        start_rank = omega (arith, a, k, f);
        rank_end = omega (arith, d, k, g);
        end_in = omega (arith, d, i);
        start_place = omega (arith, a, j);
        place_end = omega (arith, d, l);
        shrinks_from = omega (arith, a);
        shrinks_to = omega (arith, d);
      }

  cut_alike : (u : ℕ) (b : u < n) → Where u → (v : ℕ) → v < n → Where v → start' (rank' u) ≤ place v → place v < end' (rank' u) → rank' v ≡ rank' u
  cut_alike u b (low r f t k) v d w y z =
      let i = ap start' k ∙ start_p in let j = ap end' k ∙ end_p in
      lower v d (omega (arith, i, y)) (omega (arith, j, z)) ∙ sym k
  cut_alike u b (high r f t k) v d w y z =
      let i = ap start' k ∙ start_q in let j = ap end' k ∙ end_q in
      upper v d (omega (arith, i, y)) (omega (arith, j, z)) ∙ sym k
  cut_alike u b (out r o k) v d w y z = other w
    where
      same : rank v ≡ rank u
      same = let i = start_out u b r k in let j = end_out u b r k in
          sym (ap rank (h.placed v d).1) ∙ h.alike u (place v) b (omega (arith, i, y)) (omega (arith, j, z))

      other : Where v → rank' v ≡ rank' u
      other (low a f t l) = absurd (r (sym same ∙ a))
      other (high a f t l) = absurd (r (sym same ∙ a))
      other (out a o l) = l ∙ same ∙ sym k

  pub cut_partition : IsPartition n order place rank' start' end'
  cut_partition = record {
    placed = h.placed;
    ordered = h.ordered;
    start_rank = λ u b. (bounds u b (locate u b)).start_rank;
    rank_end = λ u b. (bounds u b (locate u b)).rank_end;
    end_in = λ u b. (bounds u b (locate u b)).end_in;
    start_place = λ u b. (bounds u b (locate u b)).start_place;
    place_end = λ u b. (bounds u b (locate u b)).place_end;
    alike = λ u y b f t.
        let y_n : y < n = (let i = (bounds u b (locate u b)).end_in in omega (arith, i, t)) in
        let o = h.ordered y y_n in
        cut_alike u b (locate u b) (order y) o.0 (locate (order y) o.0) (let i = o.1 in omega (arith, i, f)) (let i = o.1 in omega (arith, i, t));
  }

  pub cut_from : (u : ℕ) → u < n → start (rank u) ≤ start' (rank' u)
  cut_from u b = (bounds u b (locate u b)).shrinks_from

  pub cut_to : (u : ℕ) → u < n → end' (rank' u) ≤ end (rank u)
  cut_to u b = (bounds u b (locate u b)).shrinks_to

  c_in : (s ≤ c) × (c < e)
  c_in = let a = h.start_rank x x_n in let b = h.rank_end x x_n in
      let f = ap start x_c ∙ s_is in let g = ap end x_c ∙ e_is in (omega (arith, a, f, x_c), omega (arith, b, g, x_c))

  -- the sides of the cut
  module _ (side : ℕ → ℕ) (o : ℕ) (side_low : (u : ℕ) → u < n → s ≤ place u → place u < m → side u ≡ 0) (side_high : (u : ℕ) → u < n → m ≤ place u → place u < e → side u ≡ 1)
      (side_out : (u : ℕ) → u < n → (place u < s) ⊎ (e ≤ place u) → side u ≡ o) where
    first : (u v : ℕ) → rank u < rank v → rank' u < rank' v → ordering_then (nat_cmp (rank u) (rank v)) (nat_cmp (side u) (side v)) ≡ nat_cmp (rank' u) (rank' v)
    first u v l g = then_cmp (rank u) (rank v) (side u) (side v) (rank' u) (rank' v) (λ _. g) (λ d. absurd (omega (arith, d, l))) (λ d _. absurd (omega (arith, d, l))) (λ d _. absurd (omega (arith, d, l))) (λ d _. absurd (omega (arith, d, l)))

    second : (u v : ℕ) → rank v < rank u → rank' v < rank' u → ordering_then (nat_cmp (rank u) (rank v)) (nat_cmp (side u) (side v)) ≡ nat_cmp (rank' u) (rank' v)
    second u v l g = then_cmp (rank u) (rank v) (side u) (side v) (rank' u) (rank' v) (λ d. absurd (omega (arith, d, l))) (λ _. g) (λ d _. absurd (omega (arith, d, l))) (λ d _. absurd (omega (arith, d, l))) (λ d _. absurd (omega (arith, d, l)))

    ranks_cut : (u v : ℕ) → u < n → v < n → Where u → Where v → ordering_then (nat_cmp (rank u) (rank v)) (nat_cmp (side u) (side v)) ≡ nat_cmp (rank' u) (rank' v)
    ranks_cut u v a b (low r f t k) (low r' f' t' k') =
        let i = side_low u a f t in let j = side_low v b f' t' in
        then_cmp (rank u) (rank v) (side u) (side v) (rank' u) (rank' v)
        (λ l. absurd (omega (arith, r, r', l))) (λ l. absurd (omega (arith, r, r', l))) (λ _ l. absurd (omega (arith, i, j, l))) (λ _ l. absurd (omega (arith, i, j, l))) (λ _ _. k ∙ sym k')
    ranks_cut u v a b (low r f t k) (high r' f' t' k') =
        let i = side_low u a f t in let j = side_high v b f' t' in
        then_cmp (rank u) (rank v) (side u) (side v) (rank' u) (rank' v)
        (λ l. absurd (omega (arith, r, r', l))) (λ l. absurd (omega (arith, r, r', l))) (λ _ l. omega (arith, k, k', p_m, m_q)) (λ _ l. absurd (omega (arith, i, j, l))) (λ _ l. absurd (omega (arith, i, j, l)))
    ranks_cut u v a b (high r f t k) (low r' f' t' k') =
        let i = side_high u a f t in let j = side_low v b f' t' in
        then_cmp (rank u) (rank v) (side u) (side v) (rank' u) (rank' v)
        (λ l. absurd (omega (arith, r, r', l))) (λ l. absurd (omega (arith, r, r', l))) (λ _ l. absurd (omega (arith, i, j, l))) (λ _ l. omega (arith, k, k', p_m, m_q)) (λ _ l. absurd (omega (arith, i, j, l)))
    ranks_cut u v a b (high r f t k) (high r' f' t' k') =
        let i = side_high u a f t in let j = side_high v b f' t' in
        then_cmp (rank u) (rank v) (side u) (side v) (rank' u) (rank' v)
        (λ l. absurd (omega (arith, r, r', l))) (λ l. absurd (omega (arith, r, r', l))) (λ _ l. absurd (omega (arith, i, j, l))) (λ _ l. absurd (omega (arith, i, j, l))) (λ _ _. k ∙ sym k')
    ranks_cut u v a b (out r f k) (out r' f' k') =
        let i = side_out u a f in let j = side_out v b f' in
        then_cmp (rank u) (rank v) (side u) (side v) (rank' u) (rank' v)
        (λ l. omega (arith, k, k', l)) (λ l. omega (arith, k, k', l)) (λ _ l. absurd (omega (arith, i, j, l))) (λ _ l. absurd (omega (arith, i, j, l))) (λ l _. k ∙ l ∙ sym k')
    ranks_cut u v a b (out r f k) (low r' f' t' k') = ⊎_elim
        (λ (z : rank u < s). first u v (let y = c_in.0 in omega (arith, z, y, r')) (omega (arith, k, k', z, s_p)))
        (λ (z : e ≤ rank u). second u v (let y = c_in.1 in omega (arith, z, y, r')) (omega (arith, k, k', z, p_m, m_q, q_e)))
        (rank_out u a r)
    ranks_cut u v a b (out r f k) (high r' f' t' k') = ⊎_elim
        (λ (z : rank u < s). first u v (let y = c_in.0 in omega (arith, z, y, r')) (omega (arith, k, k', z, s_p, p_m, m_q)))
        (λ (z : e ≤ rank u). second u v (let y = c_in.1 in omega (arith, z, y, r')) (omega (arith, k, k', z, q_e)))
        (rank_out u a r)
    ranks_cut u v a b (low r f t k) (out r' f' k') = ⊎_elim
        (λ (z : rank v < s). second u v (let y = c_in.0 in omega (arith, z, y, r)) (omega (arith, k, k', z, s_p)))
        (λ (z : e ≤ rank v). first u v (let y = c_in.1 in omega (arith, z, y, r)) (omega (arith, k, k', z, p_m, m_q, q_e)))
        (rank_out v b r')
    ranks_cut u v a b (high r f t k) (out r' f' k') = ⊎_elim
        (λ (z : rank v < s). second u v (let y = c_in.0 in omega (arith, z, y, r)) (omega (arith, k, k', z, s_p, p_m, m_q)))
        (λ (z : e ≤ rank v). first u v (let y = c_in.1 in omega (arith, z, y, r)) (omega (arith, k, k', z, q_e)))
        (rank_out v b r')

    pub cut_ordered : (u v : ℕ) → u < n → v < n → nat_cmp (rank' u) (rank' v) ≡ ordering_then (nat_cmp (rank u) (rank v)) (nat_cmp (side u) (side v))
    cut_ordered u v a b = sym (ranks_cut u v a b (locate u a) (locate v b))
