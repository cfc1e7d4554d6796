-- Sweeps over a group's agents, which take out the worlds from which a link leaves a row.
use Rattle.std.proofs.Common.{◌≡◌, ℕ, zero, suc, ◌+◌, ◌<◌, Bool, true, false, ◌&&◌, ◌↔◌, List, [], ◌∷◌, ◌++◌, length, drop, IsTrue, refl, ap, ◌∙◌, sym, subst, inl, inr, arith}
use Rattle.std.specs.Prelude.{slice_get, Some}
use Rattle.ep_logic.specs.AgentSets.{Has, is_nobody}
use Rattle.ep_logic.specs.Numbers.{table}
use Rattle.ep_logic.specs.Rows.{value_at, both, Within}
use Rattle.ep_logic.proofs.CallerLemmas.{both_at, both_long, get_or-table, length-table}
use Rattle.ep_theory.specs.Rising.{IsIn}
use Rattle.ep_theory.specs.Kripke.{Kripke, IsState, links_of, successors}
use Rattle.ep_theory.specs.Walks.{IsStep, IsWalk, last_of}
use Rattle.ep_theory.proofs.CallerLemmas.{and_parts, and_whole, all_at, to_all, last_or_before, from_successors, IsIn-successors, links_within}
use Rattle.ep_truth.specs.Common.{AllWalks, IsClosed, IsGreatestClosed, HaveSameWalks}
use Rattle.ep_truth.specs.Labels.{knows_test}
use Rattle.ep_truth.proofs.CommonLemmas.{member_below}

true_within : (row : List Bool) (k : ℕ) → IsTrue (value_at row k) → k < length row
true_within [] k h = absurd (cc h)
true_within (x ∷ xs) zero h = omega arith
true_within (x ∷ xs) (suc k) h = let i = true_within xs k h in omega arith

get_true : (row : List Bool) (k : ℕ) → IsTrue (value_at row k) → slice_get row k ≡ Some true
get_true [] k h = absurd (cc h)
get_true (x ∷ xs) zero h = ap Some h
get_true (x ∷ xs) (suc k) h = get_true xs k h

true_get : (row : List Bool) (k : ℕ) → slice_get row k ≡ Some true → IsTrue (value_at row k)
true_get [] k h = absurd (cc h)
true_get (x ∷ xs) zero h = cc h
true_get (x ∷ xs) (suc k) h = true_get xs k h

module _ (S : Kripke) (g : List Bool) where
  walk_more : (w : ℕ) (vs : List ℕ) (v : ℕ) → IsWalk S g w vs → IsStep S g (last_of w vs) v → IsWalk S g w (vs ++ v ∷ [])
  walk_more w [] v p q = (q, tt)
  walk_more w (u ∷ us) v p q = (p.0, walk_more u us v p.1 q)

  last_more : (w : ℕ) (vs : List ℕ) (v : ℕ) → last_of w (vs ++ v ∷ []) ≡ v
  last_more w [] v = refl
  last_more w (u ∷ us) v = last_more u us v

  closed_stays : (row : List Bool) → IsClosed S g row → (w : ℕ) (vs : List ℕ) → IsTrue (value_at row w) → IsWalk S g w vs → IsTrue (value_at row (last_of w vs))
  closed_stays row c w [] h p = h
  closed_stays row c w (v ∷ vs) h p = closed_stays row c v vs (c w v p.0 h) p.1

  -- no link leaves the row, and the walks are those of an earlier one
  pub closed_walks : (old row : List Bool) → HaveSameWalks S g old row → IsClosed S g row → (w : ℕ) → IsTrue (value_at row w) ↔ AllWalks S g old w
  closed_walks old row same c w = (λ h. (same w).0 (λ vs p. closed_stays row c w vs h p), λ all. (same w).1 all [] tt)

  pub walks_after : (old row new : List Bool) → HaveSameWalks S g old row → HaveSameWalks S g row new → HaveSameWalks S g old new
  walks_after old row new f h w = (λ all. (f w).0 ((h w).0 all), λ all. (h w).1 ((f w).1 all))

  -- the worlds from which every walk stays in a row are the greatest closed part of it
  pub walks_are_greatest : IsState S → (inner row : List Bool) → length inner ≡ S.worlds → length row ≡ S.worlds →
      ((w : ℕ) → w < S.worlds → IsTrue (value_at row w) ↔ AllWalks S g inner w) → IsGreatestClosed S g inner row
  walks_are_greatest s inner row long_inner long each = record {
    within = λ k h. let l : k < S.worlds = omega (arith, true_within row k (true_get row k h), long) in get_true inner k ((each k l).0 (true_get row k h) [] tt);
    closed = λ w v p h.
        let l : w < S.worlds = omega (arith, true_within row w h, long) in
        (each v (links_within S s p.0 w v p.2).1).1 (λ vs q. (each w l).0 h (v ∷ vs) (p, q));
    greatest = λ other within closed k h.
        let l : k < S.worlds = omega (arith, true_within inner k (true_get inner k (within k h)), long_inner) in
        get_true row k ((each k l).1 (λ vs q. let u = last_of k vs in true_get inner u (within u (get_true other u (closed_stays other closed k vs (true_get other k h) q)))));
  }

-- how far the agents of a group have gone: those below a; `none` says that no link of theirs left the row
pub record IsSweeping (S : Kripke) (g old : List Bool) (a : ℕ) (none : Bool) (row : List Bool) : Type 0 where
  pub long : length row ≡ S.worlds
  pub same : HaveSameWalks S g old row
  pub closed : IsTrue none → (b : ℕ) → b < a → Has g b → (w v : ℕ) → IsIn (w, v) (links_of S b) → IsTrue (value_at row w) → IsTrue (value_at row v)

module _ (S : Kripke) (s : IsState S) (g old : List Bool) where
  pub sweeping_none : length old ≡ S.worlds → IsSweeping S g old 0 true old
  sweeping_none l = record {
    long = l;
    same = λ w. (λ all. all, λ all. all);
    closed = λ h b l. absurd (omega (arith, l));
  }

  pub sweeping_skip : (a : ℕ) (none : Bool) (row : List Bool) → (Has g a → ⊥) → IsSweeping S g old a none row → IsSweeping S g old (a + 1) none row
  sweeping_skip a none row n t = record {
    long = t.long;
    same = t.same;
    closed = λ h b l m. elim (last_or_before b a (omega (arith, l))) [
      | inl q ↦ absurd (n (subst (Has g) q m))
      | inr q ↦ t.closed h b q m
    ];
  }

  module _ (a : ℕ) (row new : List Bool) (m : Has g a) (long : length row ≡ S.worlds) (e : new ≡ both row (table (knows_test S a row) S.worlds)) where
    abbrev kept : List Bool
    kept = table (knows_test S a row) S.worlds

    new_at : (w : ℕ) → value_at new w ≡ (value_at row w && value_at kept w)
    new_at w = ap (λ r. value_at r w) e ∙ both_at row kept w

    was : (w : ℕ) → IsTrue (value_at new w) → IsTrue (value_at row w)
    was w h = (and_parts (value_at row w) (value_at kept w) (sym (new_at w) ∙ h)).0

    kept_at : (w : ℕ) → w < S.worlds → value_at kept w ≡ knows_test S a row w
    kept_at w l = get_or-table (knows_test S a row) S.worlds w false l

    still : (w : ℕ) → AllWalks S g row w → AllWalks S g new w
    still w all vs p =
        let u = last_of w vs in
        let in_row : u < S.worlds = omega (arith, true_within row u (all vs p), long) in
        let knows : IsTrue (knows_test S a row u) = to_all (value_at row) (successors (links_of S a) u)
        (λ v i. subst (λ x. IsTrue (value_at row x)) (last_more S g w vs v) (all (vs ++ v ∷ []) (walk_more S g w vs v p (a, m, from_successors u v (links_of S a) i)))) in
        new_at u ∙ and_whole (value_at row u) (value_at kept u) (all vs p) (kept_at u in_row ∙ knows)

    pub sweeping_more : (none stays : Bool) → IsTrue stays ↔ Within row kept → IsSweeping S g old a none row → IsSweeping S g old (a + 1) (none && stays) new
    sweeping_more none stays d t = record {
      long = ap length e ∙ both_long row kept (long ∙ sym (length-table (knows_test S a row) S.worlds)) ∙ long;
      same = λ w. (λ all. (t.same w).0 (λ vs p. was (last_of w vs) (all vs p)), λ all. still w ((t.same w).1 all));
      closed = λ h b l n w v i k.
          let parts = and_parts none stays h in
          let inside = d.0 parts.1 in
          let here : (x : ℕ) → IsTrue (value_at row x) → IsTrue (value_at new x) = λ x j. new_at x ∙ and_whole (value_at row x) (value_at kept x) j (true_get kept x (inside x (get_true row x j))) in
          elim (last_or_before b a (omega (arith, l))) [
            | inl q ↦
                let j : IsIn (w, v) (links_of S a) = subst (λ c. IsIn (w, v) (links_of S c)) q i in
                let knows : IsTrue (knows_test S a row w) = sym (kept_at w (links_within S s a w v j).0) ∙ (and_parts (value_at row w) (value_at kept w) (sym (new_at w) ∙ k)).1 in
                here v (all_at (value_at row) v (successors (links_of S a) w) knows (IsIn-successors w v (links_of S a) j))
            | inr q ↦ here v (t.closed parts.0 b q n w v i (was w k))
          ];
    }

  pub sweeping_all : (a : ℕ) (none : Bool) (row : List Bool) → a ≡ S.agents → IsTrue (is_nobody (drop S.agents g)) → IsSweeping S g old a none row → IsTrue none → IsClosed S g row
  sweeping_all a none row e n t h w v p = t.closed h p.0 (omega (arith, e, member_below g S.agents p.0 n p.1)) p.1 w v p.2
