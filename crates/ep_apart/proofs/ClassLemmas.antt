-- One world for each class of bisimilar worlds.
use Rattle.std.proofs.Common.{◌≡◌, ◌≢◌, ℕ, zero, suc, ◌<◌, ◌≤◌, ◌+◌, ◌⊎◌, ⊎_elim, Bool, true, List, [], ◌∷◌, length, get_or, set, replicate, slice_index, refl, sym, ap, subst, ◌∙◌, arith, IsTrue, ◌↔◌}
use Rattle.std.proofs.lemmas.List.{get_or-set_other, get_or-set_same}
use Rattle.ep_theory.specs.Rising.{IsIn}
use Rattle.ep_theory.specs.Kripke.{Kripke, IsState}
use Rattle.ep_theory.specs.Bisimulation.{BisimilarWorlds}
use Rattle.ep_theory.specs.Image.{IsImage}
use Rattle.ep_theory.proofs.CallerLemmas.{All-from_each, Contains-from_in, IsIn-at, at_All, last_or_before, links_within, some_element}
use Rattle.ep_refine.specs.Numbering.{AreNumbers}
use Rattle.ep_logic.specs.Rows.{value_at}
use Rattle.ep_refine.specs.Choices.{IsChoice}
use Rattle.ep_refine.proofs.CallerLemmas.{image_as}
use Rattle.ep_apart.specs.Classes.{StandFor}

-- rows of true values
pub all_true : (n w : ℕ) → w < n → value_at (replicate n true) w ≡ true
all_true zero w l = absurd (omega arith)
all_true (suc n) zero l = refl
all_true (suc n) (suc w) l = all_true n w (omega arith)

-- one more world stands for its class
pub put_one : (classes chosen : List ℕ) (i : ℕ) → i < length classes → slice_index classes i < length chosen → ((v : ℕ) → v < i → StandFor classes chosen (slice_index classes v)) →
    (v : ℕ) → v < i + 1 → StandFor classes (set chosen (slice_index classes i) i) (slice_index classes v)
put_one classes chosen i l b h v m = ⊎_elim
    (λ (q : slice_index classes v ≡ slice_index classes i).
    let e : slice_index (set chosen (slice_index classes i) i) (slice_index classes v) ≡ i =
    ap (slice_index (set chosen (slice_index classes i) i)) q ∙ get_or-set_same chosen (slice_index classes i) i 0 b in
    record { world = (omega arith); own = ap (slice_index classes) e ∙ sym q })
    (λ (n : slice_index classes v ≢ slice_index classes i). ⊎_elim
    (λ (q : v ≡ i). absurd (n (ap (slice_index classes) q)))
    (λ (k : v < i).
    let s = h v k in
    let e : slice_index (set chosen (slice_index classes i) i) (slice_index classes v) ≡ slice_index chosen (slice_index classes v) =
    get_or-set_other chosen (slice_index classes i) (slice_index classes v) i 0 n in
    record { world = (let w = s.world in omega arith); own = ap (slice_index classes) e ∙ s.own })
    (last_or_before v i (omega arith)))
    (same_or_not (slice_index classes v) (slice_index classes i))
  where
    same_or_not : (x y : ℕ) → (x ≡ y) ⊎ (x ≢ y)
    same_or_not x y = grind arith

pub class_below : (classes : List ℕ) (count i : ℕ) → AreNumbers classes count → i < length classes → slice_index classes i < count
class_below classes count i n l = (n (slice_index classes i)).0 (IsIn-at classes i 0 l)

-- every class has a world
pub each_stands : (classes chosen : List ℕ) (count i : ℕ) → AreNumbers classes count → length classes ≤ i → ((v : ℕ) → v < i → StandFor classes chosen (slice_index classes v)) → (c : ℕ) → c < count → StandFor classes chosen c
each_stands classes chosen count i n l h c b =
    let w = Contains-from_in c classes ((n c).1 b) in
    let e : slice_index classes w.0 ≡ c = read classes w.0 c w.1 w.2 in
    subst (StandFor classes chosen) e (h w.0 (let k = w.1 in omega arith))
  where
    read : (xs : List ℕ) (i c : ℕ) → i < length xs → get_or xs i c ≡ c → get_or xs i 0 ≡ c
    read [] i c l e = absurd (omega arith)
    read (x ∷ xs) zero c l e = e
    read (x ∷ xs) (suc i) c l e = read xs i c (omega arith) e

module _ (S : Kripke) (s : IsState S) (classes chosen : List ℕ) (count : ℕ) (row : List Bool)
    (one_each : length classes ≡ S.worlds) (decides : (w v : ℕ) → w < S.worlds → v < S.worlds → (slice_index classes w ≡ slice_index classes v) ↔ BisimilarWorlds S w S v) (used : AreNumbers classes count)
    (long : length chosen ≡ count) (each : (c : ℕ) → c < count → StandFor classes chosen c) (kept : row ≡ replicate S.worlds true) where
  keeps : (w : ℕ) → w < S.worlds → value_at row w ≡ true
  keeps w b = ap (λ r. value_at r w) kept ∙ all_true S.worlds w b

  below : (w : ℕ) → w < S.worlds → slice_index classes w < count
  below w b = class_below classes count w used (omega arith)

  stands : (w : ℕ) → w < S.worlds → StandFor classes chosen (slice_index classes w)
  stands w b = each (slice_index classes w) (below w b)

  -- a world is bisimilar to the world that stands for its class
  alike : (w : ℕ) → w < S.worlds → BisimilarWorlds S w S (slice_index chosen (slice_index classes w))
  alike w b =
      let r = stands w b in
      (decides w (slice_index chosen (slice_index classes w)) b (let k = r.world in omega arith)).0 (sym r.own)

  pub quotient_choice : IsChoice S (value_at row) (slice_index classes) chosen
  quotient_choice = record {
    each = All-from_each (λ w. (w < S.worlds) × IsTrue (value_at row w)) chosen each_world;
    below = λ w b k. let l = below w b in omega arith;
    onto = λ c b. (each c (omega arith)).own;
    truth = λ w b k. let z = alike w b in z.1.truth w (slice_index chosen (slice_index classes w)) z.2;
    answers = λ a w u i k m.
        let b = links_within S s a w u i in
        let z = alike w b.0 in
        let x = z.1.forth a w (slice_index chosen (slice_index classes w)) u z.2 i in
        let c = (links_within S s a (slice_index chosen (slice_index classes w)) x.0 x.1).1 in
        (x.0, x.1, keeps x.0 c, sym ((decides u x.0 b.1 c).1 (z.0, z.1, x.2)));
    designated =
        let d = some_element S.designated s.some_designated in
        (d.0, d.1, keeps d.0 (at_All (λ x. x < S.worlds) d.0 S.designated s.designated_within d.1));
  }
    where
      each_world : (w : ℕ) → IsIn w chosen → (w < S.worlds) × IsTrue (value_at row w)
      each_world w i =
          let c = Contains-from_in w chosen i in
          let r = each c.0 (let k = c.1 in omega arith) in
          let e : slice_index chosen c.0 ≡ w = read chosen c.0 w c.1 c.2 in
          let b : w < S.worlds = (let k = r.world in omega arith) in
          (b, keeps w b)
        where
          read : (xs : List ℕ) (i c : ℕ) → i < length xs → get_or xs i c ≡ c → get_or xs i 0 ≡ c
          read [] i c l e = absurd (omega arith)
          read (x ∷ xs) zero c l e = e
          read (x ∷ xs) (suc i) c l e = read xs i c (omega arith) e

  pub quotient_image : (Q : Kripke) → IsImage S (value_at row) (slice_index classes) Q → IsImage S (λ _. true) (slice_index classes) Q
  quotient_image Q m = image_as S Q s (value_at row) (λ _. true) (slice_index classes) (slice_index classes) keeps (λ w b. refl) m
