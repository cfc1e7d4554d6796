-- The formula that tells two states apart.
use Rattle.std.proofs.Common.{◌≡◌, ℕ, suc, ◌<◌, ◌≤◌, ◌+◌, ◌*◌, ◌⊎◌, inl, inr, ⊎_elim, ◌↔◌, Bool, true, false, ◌==◌, List, [], ◌∷◌, length, get_or, map, slice_index, refl, sym, ap, subst, ◌∙◌, arith, Option, Some, None}
use Rattle.std.specs.List.{list_any}
use Rattle.std.proofs.Math.Nat.{mul-le-mul}
use Rattle.ep_theory.specs.Rising.{IsIn}
use Rattle.ep_theory.specs.Kripke.{Kripke, IsState}
use Rattle.ep_theory.specs.Bisimulation.{Bisimilar, BisimilarWorlds}
use Rattle.ep_theory.proofs.CallerLemmas.{IsIn-at, at_All, equal_from_test, from_any, from_map, last_or_before, test_itself, to_any}
use Rattle.ep_apart.specs.declared.lines.Line.{Line}
use Rattle.ep_apart.specs.declared.lines.Side.{Side}
use Rattle.ep_apart.specs.declared.lines.Apart.{Apart}
use Rattle.ep_apart.specs.Lines.{formula_of, AreLines, last_line}
use Rattle.ep_apart.specs.Joint.{IsJoint}
use Rattle.ep_apart.specs.Tables.{Tells, IsCell, IsBefore, IsGrid, cell, in_row, IsConjunction, IsToldFrom, IsCut, IsMissing}
use Rattle.ep_apart.specs.Telling.{TellsApart}
use Rattle.ep_apart.proofs.JointLemmas.{bisimilar_from, first_to_second, second_to_first, lone_from, no_lone, tells_states}
use Rattle.ep_apart.proofs.Rounds.{last_level_decides}
use Rattle.ep_apart.proofs.TableLemmas.{grid_of, level_before}
use Rattle.ep_apart.proofs.ToldLemmas.{tells_all, tells_by}

-- numbers that are missing
clash : (b : Bool) → b ≡ true → b ≡ false → ⊥
clash b p q = cc

pub missing_found : (xs ys : List ℕ) (i : ℕ) → i < length xs → list_any (λ y. y == get_or xs i 0) ys ≡ false → IsMissing xs ys (Some (get_or xs i 0))
missing_found xs ys i l e = (IsIn-at xs i 0 l, λ m. clash _ (to_any (λ y. y == get_or xs i 0) (get_or xs i 0) ys m (test_itself (get_or xs i 0))) e)

pub missing_more : (xs ys : List ℕ) (i : ℕ) → ((v : ℕ) → v < i → IsIn (slice_index xs v) ys) → list_any (λ y. y == get_or xs i 0) ys ≡ true → (v : ℕ) → v < i + 1 → IsIn (slice_index xs v) ys
missing_more xs ys i h e v l = ⊎_elim
    (λ (q : v ≡ i). let m = from_any (λ y. y == get_or xs i 0) ys e in
    subst (λ z. IsIn z ys) (equal_from_test m.0 (get_or xs i 0) m.2 ∙ sym (ap (slice_index xs) q)) m.1)
    (λ (b : v < i). h v b)
    (last_or_before v i (omega arith))

pub missing_none : (xs ys : List ℕ) (i : ℕ) → length xs ≤ i → ((v : ℕ) → v < i → IsIn (slice_index xs v) ys) → IsMissing xs ys None
missing_none xs ys i l h x m =
    let p = place_of xs x m in
    subst (λ z. IsIn z ys) p.2 (h p.0 (let b = p.1 in omega arith))
  where
    place_of : (xs : List ℕ) (x : ℕ) → IsIn x xs → (i : ℕ) × (i < length xs) × (slice_index xs i ≡ x)
    place_of [] x m = absurd m
    place_of (z ∷ zs) x (inl q) = (0, (omega arith), sym q)
    place_of (z ∷ zs) x (inr m) = let r = place_of zs x m in (suc r.0, (let b = r.1 in omega arith), r.2)

pub not_among : (ys : List ℕ) (x : ℕ) → list_any (λ y. y == x) ys ≡ false → IsIn x ys → ⊥
not_among ys x e m = clash _ (to_any (λ y. y == x) x ys m (test_itself x)) e

pub nearer_missing : (xs others : List ℕ) (i best next : ℕ) → i < length xs → IsMissing xs others (Some best) → (next ≡ best) ⊎ ((next ≡ get_or xs i 0) × (IsIn (get_or xs i 0) others → ⊥)) → IsMissing xs others (Some next)
nearer_missing xs others i best next l h (inl e) = subst (λ z. IsMissing xs others (Some z)) (sym e) h
nearer_missing xs others i best next l h (inr p) = subst (λ z. IsMissing xs others (Some z)) (sym p.0) (IsIn-at xs i 0 l, p.1)

-- the whole table has a line for each two worlds
pub none_left : (Q : Kripke) → IsState Q → ((x y : ℕ) → x < Q.worlds → y < Q.worlds → BisimilarWorlds Q x Q y → x ≡ y) → (lines : List Line) (table : List (List (Option ℕ))) (row : List (Option ℕ)) (c y : ℕ) →
    IsBefore Q Q.worlds lines table → c < Q.worlds → y < Q.worlds → row ≡ get_or table c [] → in_row row y ≡ None → c ≡ y
none_left Q q apart lines table row c y t a b r e =
    let m = level_before Q Q.worlds lines table (λ z. let p = q.some_world in absurd (omega arith)) t in
    let n : cell table c y ≡ None = ap (λ l. in_row l y) (sym r) ∙ e in
    apart c y a b (last_level_decides Q q m.0 c y m.1 a b (subst (IsCell Q m.0 lines c y) n ((m.2.rows c a).cells y b)))

pub whole_grid : (Q : Kripke) → IsState Q → (lines : List Line) (table : List (List (Option ℕ))) → IsBefore Q Q.worlds lines table → IsGrid Q.worlds lines table
whole_grid Q q lines table t =
    let m = level_before Q Q.worlds lines table (λ z. let p = q.some_world in absurd (omega arith)) t in
    grid_of Q m.0 lines table m.2

pub same_grid : (n : ℕ) (lines : List Line) (table : List (List (Option ℕ))) → IsGrid n lines table → IsGrid (length table) lines table
same_grid n lines table g = subst (λ k. IsGrid k lines table) (sym g.long) g

pub square : (n : ℕ) → n ≤ 512 → n * n ≤ 262144
square n h = mul-le-mul h h

pub told_all : (Q : Kripke) → IsState Q → (old mid new : List Line) (table : List (List (Option ℕ))) (row : List (Option ℕ)) (c r : ℕ) (others js : List ℕ) → AreLines Q.agents Q.atoms 0 mid →
    length old ≤ 4 * (Q.worlds * Q.worlds) → length mid ≤ length old + 1 → IsBefore Q Q.worlds old table → c < Q.worlds → ((y : ℕ) → IsIn y others → y < Q.worlds) → row ≡ get_or table c [] →
    map (in_row row) others ≡ map Some js → IsConjunction old mid js r → IsCut mid r new → IsToldFrom Q c others new
told_all Q q old mid new table row c r others js p f g t a h e k j u =
    let m = level_before Q Q.worlds old table (λ z. let b = q.some_world in absurd (omega arith)) t in
    let tells = tells_all Q m.0 old mid c r row others js (λ y i. subst (λ l. IsCell Q m.0 old c y (in_row l y)) (sym e) ((m.2.rows c a).cells y (h y i))) k j in
    record {
      proper = u.proper Q.agents Q.atoms p;
      few = (let l = u.few in omega arith);
      level = (m.0, m.1, tells_by Q m.0 new (last_line new) c (λ y. IsIn y others) (formula_of mid r) u.formula (let s = u.some_line in omega arith) tells.here tells.nowhere tells.shallow);
    }

module _ (S T Q : Kripke) (s : IsState S) (t : IsState T) (classes : List ℕ)
    (j : IsJoint S T Q (λ w. slice_index classes (0 + w)) (λ v. slice_index classes (S.worlds + v))) where
  abbrev f : ℕ → ℕ
  f w = slice_index classes (0 + w)

  abbrev g : ℕ → ℕ
  g v = slice_index classes (S.worlds + v)

  -- the classes of designated worlds are worlds
  pub first_below : (xs : List ℕ) → xs ≡ map f S.designated → (c : ℕ) → IsIn c xs → c < Q.worlds
  first_below xs e c i =
      let m = from_map f c S.designated (subst (IsIn c) e i) in
      let z = j.first m.0 (at_All (λ x. x < S.worlds) m.0 S.designated s.designated_within m.1) in
      subst (λ x. x < Q.worlds) (sym m.2) (z.1.within m.0 (f m.0) z.2).1

  pub second_below : (xs : List ℕ) → xs ≡ map g T.designated → (c : ℕ) → IsIn c xs → c < Q.worlds
  second_below xs e c i =
      let m = from_map g c T.designated (subst (IsIn c) e i) in
      let z = j.second m.0 (at_All (λ x. x < T.worlds) m.0 T.designated t.designated_within m.1) in
      subst (λ x. x < Q.worlds) (sym m.2) (z.1.within m.0 (g m.0) z.2).1

  same_lines : (lines : List Line) → AreLines Q.agents Q.atoms 0 lines → AreLines S.agents S.atoms 0 lines
  same_lines lines h =
      let z = j.first 0 s.some_world in
      subst (λ n. AreLines n S.atoms 0 lines) (sym z.1.agents) (subst (λ n. AreLines Q.agents n 0 lines) (sym z.1.atoms) h)

  few_enough : (n k : ℕ) → k ≤ 4 * (n * n) + 1 → k ≤ 5 * n * n + 1
  few_enough n k h = let e : 5 * n * n ≡ 5 * (n * n) = omega arith in omega arith

  pub told_first : (lines : List Line) (xs ys : List ℕ) (c : ℕ) → xs ≡ map f S.designated → ys ≡ map g T.designated → IsMissing xs ys (Some c) → IsToldFrom Q c ys lines → TellsApart S T (record { side = Side.First; lines = lines })
  told_first lines xs ys c d e m h = tells_states S T Q f g s t j (record { side = Side.First; lines = lines }) h.level.0 (last_line lines) c (same_lines lines h.proper) refl (few_enough Q.worlds (length lines) h.few) h.level.1
      (subst (λ l. Tells Q h.level.0 lines (last_line lines) c (λ y. IsIn y l)) e h.level.2) (subst (IsIn c) d m.0)
      (λ _. lone_from S T Q f g s t j c (subst (IsIn c) d m.0) (λ i. m.1 (subst (IsIn c) (sym e) i)), λ _. refl)

  pub told_second : (lines : List Line) (xs ys : List ℕ) (c : ℕ) → xs ≡ map f S.designated → ys ≡ map g T.designated → IsMissing xs ys None → IsMissing ys xs (Some c) → IsToldFrom Q c xs lines → TellsApart S T (record { side = Side.Second; lines = lines })
  told_second lines xs ys c d e n m h = tells_states S T Q f g s t j (record { side = Side.Second; lines = lines }) h.level.0 (last_line lines) c (same_lines lines h.proper) refl (few_enough Q.worlds (length lines) h.few) h.level.1
      (subst (λ l. Tells Q h.level.0 lines (last_line lines) c (λ y. IsIn y l)) d h.level.2) (subst (IsIn c) e m.0)
      (λ q. cc, λ l. absurd (no_lone S T Q f g s t j (λ x i. subst (IsIn x) e (n x (subst (IsIn x) (sym d) i))) l))

  pub differ_first : (a : Apart) (xs ys : List ℕ) (c : ℕ) → xs ≡ map f S.designated → ys ≡ map g T.designated → IsMissing xs ys (Some c) → (Some a ≡ None) ↔ Bisimilar S T
  differ_first a xs ys c d e m = (λ q. cc, λ b. absurd (m.1 (subst (IsIn c) (sym e) (first_to_second S T Q f g s t j b c (subst (IsIn c) d m.0)))))

  pub differ_second : (a : Apart) (xs ys : List ℕ) (c : ℕ) → xs ≡ map f S.designated → ys ≡ map g T.designated → IsMissing ys xs (Some c) → (Some a ≡ None) ↔ Bisimilar S T
  differ_second a xs ys c d e m = (λ q. cc, λ b. absurd (m.1 (subst (IsIn c) (sym d) (second_to_first S T Q f g s t j b c (subst (IsIn c) e m.0)))))

  pub not_told : (o : Option Apart) → o ≡ None → (xs ys : List ℕ) → xs ≡ map f S.designated → ys ≡ map g T.designated → IsMissing xs ys None → IsMissing ys xs None → (o ≡ None) ↔ Bisimilar S T
  not_told o q xs ys d e n m = (
    λ _. bisimilar_from S T Q f g s t j (λ c i. subst (IsIn c) e (n c (subst (IsIn c) (sym d) i))) (λ c i. subst (IsIn c) d (m c (subst (IsIn c) (sym e) i))),
    λ _. q,
  )
