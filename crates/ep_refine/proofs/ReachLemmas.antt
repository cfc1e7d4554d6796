-- The search for the reached worlds.
use Rattle.std.proofs.Common.{◌≡◌, ℕ, zero, suc, ◌<◌, ◌≤◌, ◌+◌, ◌⊎◌, inl, inr, ⊎_elim, Bool, false, List, [], ◌∷◌, ◌++◌, length, get_or, refl, sym, ap, subst, ◌∙◌, arith, IsTrue, All, ◌↔◌, replicate}
use Rattle.std.proofs.Math.ListN.{get_or-eq_default, length-replicate}
use Rattle.std.proofs.lemmas.Bool.{false≢true}
use Rattle.ep_theory.specs.Rising.{IsIn}
use Rattle.ep_theory.specs.Kripke.{Kripke, IsState, links_of, successors}
use Rattle.ep_theory.specs.Canonical.{Reached, start, step}
use Rattle.ep_theory.proofs.CallerLemmas.{in_left, in_right, in_parts, last_or_before, IsIn-at, at_All, from_successors, IsIn-successors, links_within}
use Rattle.ep_refine.specs.Marking.{Marks, IsTarget}
use Rattle.ep_logic.specs.Rows.{value_at}
use Rattle.ep_refine.proofs.MarkingLemmas.{marks_none, marks_both, marks_same}

-- one of the first i agents links w to the world
abbrev pub TargetOfFirst : Kripke → ℕ → ℕ → ℕ → Type 0
TargetOfFirst S w i v = (a : ℕ) × (a < i) × IsIn v (successors (links_of S a) w)

pub first_none : (S : Kripke) (w : ℕ) (row : List Bool) (o : List ℕ) → Marks (TargetOfFirst S w 0) row row o o
first_none S w row o = marks_same (λ v. ⊥) (TargetOfFirst S w 0) row row o o (λ v h. absurd h) (λ v h. let b = h.1 in absurd (omega arith)) (marks_none row o)

pub first_more : (S : Kripke) (w i : ℕ) (targets : List ℕ) (a b c : List Bool) (o p q : List ℕ) → targets ≡ successors (links_of S i) w →
    Marks (TargetOfFirst S w i) a b o p → Marks (λ v. IsIn v targets) b c p q → Marks (TargetOfFirst S w (i + 1)) a c o q
first_more S w i targets a b c o p q e f g =
    marks_same (λ v. TargetOfFirst S w i v ⊎ IsIn v targets) (TargetOfFirst S w (i + 1)) a c o q
    (λ v h. ⊎_elim
    (λ (k : TargetOfFirst S w i v). (k.0, (let l = k.1 in omega arith), k.2))
    (λ (k : IsIn v targets). (i, omega arith, subst (IsIn v) e k)) h)
    (λ v h. ⊎_elim
    (λ (r : h.0 ≡ i). inr (subst (IsIn v) (sym e) (subst (λ n. IsIn v (successors (links_of S n) w)) r h.2)))
    (λ (l : h.0 < i). inl (h.0, l, h.2))
    (last_or_before h.0 i (let l = h.1 in omega arith)))
    (marks_both (TargetOfFirst S w i) (λ v. IsIn v targets) a b c o p q f g)

-- an agent past the last has no links
pub linked_agent : (S : Kripke) → IsState S → (a w v : ℕ) → IsIn (w, v) (links_of S a) → a < S.agents
linked_agent S s a w v i = ⊎_elim
    (λ (l : a < length S.links). let q = s.relations in omega arith)
    (λ (g : length S.links ≤ a). absurd (subst (λ (ps : List (ℕ × ℕ)). IsIn (w, v) ps) (get_or-eq_default S.links [] g) i))
    (lt_or_le a (length S.links))
  where
    lt_or_le : (m n : ℕ) → (m < n) ⊎ (n ≤ m)
    lt_or_le m n = grind arith

pub first_all : (S : Kripke) → IsState S → (w i : ℕ) (a b : List Bool) (o p : List ℕ) → S.agents ≤ i → Marks (TargetOfFirst S w i) a b o p → Marks (IsTarget S w) a b o p
first_all S s w i a b o p l = marks_same (TargetOfFirst S w i) (IsTarget S w) a b o p
    (λ v h. (h.0, from_successors w v (links_of S h.0) h.2))
    (λ v h. let k = linked_agent S s h.0 w v h.1 in (h.0, omega arith, IsIn-successors w v (links_of S h.0) h.1))

pub targets_within : (S : Kripke) → IsState S → (w i : ℕ) (targets : List ℕ) → targets ≡ successors (links_of S i) w → All (λ v. v < S.worlds) targets
targets_within S s w i targets e k d b =
    let j : IsIn (get_or targets k d) (successors (links_of S i) w) = subst (IsIn (get_or targets k d)) e (IsIn-at targets k d b) in
    (links_within S s i w (get_or targets k d) (from_successors w (get_or targets k d) (links_of S i) j)).1

pub designated_within : (S : Kripke) → IsState S → All (λ v. v < S.worlds) S.designated
designated_within S s k d b = at_All (λ v. v < S.worlds) (get_or S.designated k d) S.designated s.designated_within (IsIn-at S.designated k d b)

-- what the search keeps: marked worlds are reached, and each of them is open or has all its links' ends marked
pub record Searches (S : Kripke) (row : List Bool) (todo : List ℕ) : Type 0 where
  pub long : length row ≡ S.worlds
  pub reached : (w : ℕ) → IsTrue (value_at row w) → Reached S w
  pub designated : (w : ℕ) → IsIn w S.designated → IsTrue (value_at row w)
  pub todo_marked : (w : ℕ) → IsIn w todo → IsTrue (value_at row w)
  pub closed : (w v : ℕ) → IsTrue (value_at row w) → IsTarget S w v → IsIn w todo ⊎ IsTrue (value_at row v)

no_mark : (n w : ℕ) → value_at (replicate n false) w ≡ false
no_mark zero w = refl
no_mark (suc n) zero = refl
no_mark (suc n) (suc w) = no_mark n w

pub searches_start : (S : Kripke) (row : List Bool) (todo : List ℕ) → Marks (λ v. IsIn v S.designated) (replicate S.worlds false) row [] todo → Searches S row todo
searches_start S row todo f = record {
  long = f.long ∙ length-replicate S.worlds false;
  reached = λ w h. ⊎_elim
      (λ (k : IsTrue (value_at (replicate S.worlds false) w)). absurd (false≢true (sym (no_mark S.worlds w) ∙ k)))
      (λ (k : IsIn w S.designated × IsIn w todo). start k.0) (f.marked w h);
  designated = f.adds;
  todo_marked = λ w i. ⊎_elim (λ (k : IsIn w []). absurd k) (f.adds w) (f.opened w i);
  closed = λ w v h t. ⊎_elim
      (λ (k : IsTrue (value_at (replicate S.worlds false) w)). absurd (false≢true (sym (no_mark S.worlds w) ∙ k)))
      (λ (k : IsIn w S.designated × IsIn w todo). inl k.1) (f.marked w h);
}

only : (v y : ℕ) → IsIn v (y ∷ []) → v ≡ y
only v y (inl k) = k
only v y (inr k) = absurd k

pub searches_step : (S : Kripke) (row after : List Bool) (todo left more : List ℕ) (w : ℕ) → todo ≡ left ++ w ∷ [] → Searches S row todo → Marks (IsTarget S w) row after left more → Searches S after more
searches_step S row after todo left more w e s f = record {
  long = f.long ∙ s.long;
  reached = λ v h. ⊎_elim
      (λ (k : IsTrue (value_at row v)). s.reached v k)
      (λ (k : IsTarget S w v × IsIn v more). step k.0.0 w (s.reached w (s.todo_marked w last)) k.0.1) (f.marked v h);
  designated = λ v i. f.keeps v (s.designated v i);
  todo_marked = λ v i. ⊎_elim (λ (k : IsIn v left). f.keeps v (s.todo_marked v (before v k))) (f.adds v) (f.opened v i);
  closed = λ u v h t. ⊎_elim
      (λ (k : IsTrue (value_at row u)). ⊎_elim
      (λ (j : IsIn u todo). ⊎_elim
      (λ (i : IsIn u left). inl (f.keeps_open u i))
      (λ (i : IsIn u (w ∷ [])). inr (f.adds v (subst (λ x. IsTarget S x v) (only u w i) t)))
      (in_parts u left (w ∷ []) (subst (IsIn u) e j)))
      (λ (j : IsTrue (value_at row v)). inr (f.keeps v j))
      (s.closed u v k t))
      (λ (k : IsTarget S w u × IsIn u more). inl k.1) (f.marked u h);
}
  where
    last : IsIn w todo
    last = subst (IsIn w) (sym e) (in_right w left (w ∷ []) (inl refl))

    before : (v : ℕ) → IsIn v left → IsIn v todo
    before v k = subst (IsIn v) (sym e) (in_left v left (w ∷ []) k)

pub searches_end : (S : Kripke) (row : List Bool) (todo : List ℕ) → todo ≡ [] → Searches S row todo → (w : ℕ) → IsTrue (value_at row w) ↔ Reached S w
searches_end S row todo e s w = (s.reached w, all w)
  where
    all : (w : ℕ) → Reached S w → IsTrue (value_at row w)
    all w (start i) = s.designated w i
    all w (step a u r i) = ⊎_elim
        (λ (k : IsIn u todo). absurd (subst (IsIn u) e k))
        (λ (k : IsTrue (value_at row w)). k)
        (s.closed u w (all u r) (a, i))

-- the same in the words of the code
pub searches_from : (S : Kripke) (n : ℕ) (ds : List ℕ) (zeros row : List Bool) (none todo : List ℕ) → n ≡ S.worlds → ds ≡ S.designated → zeros ≡ replicate n false → none ≡ [] →
    Marks (λ v. IsIn v ds) zeros row none todo → Searches S row todo
searches_from S n ds zeros row none todo q d z e f =
    searches_start S row todo
    (subst (λ (l : List ℕ). Marks (λ v. IsIn v S.designated) (replicate S.worlds false) row l todo) e
    (subst (λ (l : List Bool). Marks (λ v. IsIn v S.designated) l row none todo) (z ∙ ap (λ k. replicate k false) q)
    (subst (λ (l : List ℕ). Marks (λ v. IsIn v l) zeros row none todo) d f)))

pub marked_within : (row : List Bool) (w : ℕ) → IsTrue (value_at row w) → w < length row
marked_within row w h = ⊎_elim
    (λ (l : w < length row). l)
    (λ (g : length row ≤ w). absurd (false≢true (sym (get_or-eq_default row false g) ∙ h)))
    (lt_or_le w (length row))
  where
    lt_or_le : (m n : ℕ) → (m < n) ⊎ (n ≤ m)
    lt_or_le m n = grind arith

pub last_todo : (w : ℕ) (todo left : List ℕ) → todo ≡ left ++ w ∷ [] → IsIn w todo
last_todo w todo left e = subst (IsIn w) (sym e) (in_right w left (w ∷ []) (inl refl))

pub empty_todo : (todo : List ℕ) → length todo ≡ 0 → todo ≡ []
empty_todo [] h = refl
empty_todo (x ∷ xs) h = cc
