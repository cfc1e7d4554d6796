-- A test that passes within as many steps of a group as there are worlds passes after every walk of the group.
use Rattle.std.proofs.Common.{◌≡◌, ℕ, zero, suc, ◌<◌, Bool, true, false, not, List, [], ◌∷◌, ◌++◌, get_or, cond, IsTrue, refl, ⊎_elim}
use Rattle.std.specs.List.{list_all}
use Rattle.ep_logic.specs.AgentSets.{Has}
use Rattle.ep_theory.specs.Rising.{IsIn}
use Rattle.ep_theory.specs.Kripke.{Kripke, IsState, successors}
use Rattle.ep_theory.specs.Walks.{IsWalk, last_of}
use Rattle.ep_theory.specs.Tested.{group_successors, holds_within}
use Rattle.ep_theory.proofs.lists.Lists.{from_successors, IsIn-successors}
use Rattle.ep_theory.proofs.states.Unique.{links_within}
use Rattle.ep_theory.proofs.states.Reach.{full}
use Rattle.ep_theory.proofs.lists.Bools.{and_parts, and_whole, not_up, not_down, all_at, to_all, in_left, in_right, in_parts}

no_links : (w v a : ℕ) → IsIn {A = ℕ × ℕ} (w, v) (get_or [] a []) → ⊥
no_links w v zero i = i
no_links w v (suc a) i = i

in_first : (w v : ℕ) (b : Bool) (pairs : List (ℕ × ℕ)) (rest : List ℕ) → b ≡ true → IsIn (w, v) pairs → IsIn v (cond b (successors pairs w) [] ++ rest)
in_first w v true pairs rest e i = in_left v (successors pairs w) rest (IsIn-successors w v pairs i)
in_first w v false pairs rest e i = cc

pub to_next : (g : List Bool) (links : List (List (ℕ × ℕ))) (w v a : ℕ) → Has g a → IsIn (w, v) (get_or links a []) → IsIn v (group_successors g links w)
to_next [] links w v a h i = cc
to_next (b ∷ g) [] w v a h i = absurd (no_links w v a i)
to_next (b ∷ g) (pairs ∷ links) w v zero h i =
    let e : b ≡ true = cc h in
    in_first w v b pairs (group_successors g links w) e i
to_next (b ∷ g) (pairs ∷ links) w v (suc a) h i = in_right v (cond b (successors pairs w) []) (group_successors g links w) (to_next g links w v a h i)

from_first : (w v : ℕ) (b : Bool) (pairs : List (ℕ × ℕ)) → IsIn v (cond b (successors pairs w) []) → (b ≡ true) × IsIn (w, v) pairs
from_first w v true pairs i = (refl, from_successors w v pairs i)
from_first w v false pairs i = absurd i

pub from_next : (g : List Bool) (links : List (List (ℕ × ℕ))) (w v : ℕ) → IsIn v (group_successors g links w) → (a : ℕ) × Has g a × IsIn (w, v) (get_or links a [])
from_next [] links w v i = absurd i
from_next (b ∷ g) [] w v i = absurd i
from_next (b ∷ g) (pairs ∷ links) w v i = ⊎_elim
    (λ (j : IsIn v (cond b (successors pairs w) [])). let r = from_first w v b pairs j in (0, cc r.0, r.1))
    (λ (j : IsIn v (group_successors g links w)). let r = from_next g links w v j in (suc r.0, r.1, r.2))
    (in_parts v (cond b (successors pairs w) []) (group_successors g links w) i)

module _ (S : Kripke) (g : List Bool) (p : ℕ → Bool) where
  -- what passes after every walk passes within any number of steps
  pub within_from_walks : (k w : ℕ) → ((vs : List ℕ) → IsWalk S g w vs → IsTrue (p (last_of w vs))) → IsTrue (holds_within S g p k w)
  within_from_walks zero w h = h [] tt
  within_from_walks (suc k) w h = and_whole (p w) (list_all (holds_within S g p k) (group_successors g S.links w)) (h [] tt)
      (to_all (holds_within S g p k) (group_successors g S.links w) (λ v i. within_from_walks k v (λ vs q. h (v ∷ vs) (from_next g S.links w v i, q))))

  here : (k w : ℕ) → IsTrue (holds_within S g p k w) → IsTrue (p w)
  here zero w h = h
  here (suc k) w h = (and_parts (p w) (list_all (holds_within S g p k) (group_successors g S.links w)) h).0

  next : (k w v : ℕ) → IsTrue (holds_within S g p (suc k) w) → IsIn v (group_successors g S.links w) → IsTrue (holds_within S g p k v)
  next k w v h i = all_at (holds_within S g p k) v (group_successors g S.links w) (and_parts (p w) (list_all (holds_within S g p k) (group_successors g S.links w)) h).1 i

  fewer : (k w : ℕ) → IsTrue (holds_within S g p (suc k) w) → IsTrue (holds_within S g p k w)
  fewer zero w h = here 1 w h
  fewer (suc k) w h = and_whole (p w) (list_all (holds_within S g p k) (group_successors g S.links w)) (here (suc (suc k)) w h)
      (to_all (holds_within S g p k) (group_successors g S.links w) (λ v i. fewer k v (next (suc k) w v h i)))

  module _ (s : IsState S) where
    in_range : (w v : ℕ) → IsIn v (group_successors g S.links w) → v < S.worlds
    in_range w v i = let r = from_next g S.links w v i in (links_within S s r.0 w v r.2).1

    more : (k : ℕ) → ((i : ℕ) → i < S.worlds → IsTrue (holds_within S g p k i) → IsTrue (holds_within S g p (suc k) i)) →
        (i : ℕ) → i < S.worlds → IsTrue (holds_within S g p (suc k) i) → IsTrue (holds_within S g p (suc (suc k)) i)
    more k f w l h = and_whole (p w) (list_all (holds_within S g p (suc k)) (group_successors g S.links w)) (here (suc k) w h)
        (to_all (holds_within S g p (suc k)) (group_successors g S.links w) (λ v i. f v (in_range w v i) (next k w v h i)))

    -- as many steps as there are worlds are enough
    enough : (w : ℕ) → w < S.worlds → IsTrue (holds_within S g p S.worlds w) → IsTrue (holds_within S g p (suc S.worlds) w)
    enough w l = not_down (holds_within S g p S.worlds w) (holds_within S g p (suc S.worlds) w)
        (full S.worlds (λ k i. not (holds_within S g p k i))
        (λ k i. not_up (holds_within S g p k i) (holds_within S g p (suc k) i) (fewer k i))
        (λ k f i b. not_up (holds_within S g p (suc (suc k)) i) (holds_within S g p (suc k) i)
        (more k (λ j c. not_down (holds_within S g p k j) (holds_within S g p (suc k) j) (f j c)) i b))
        w l)

    pub walks_from_within : (w : ℕ) → w < S.worlds → IsTrue (holds_within S g p S.worlds w) → (vs : List ℕ) → IsWalk S g w vs → IsTrue (p (last_of w vs))
    walks_from_within w l h [] q = here S.worlds w h
    walks_from_within w l h (v ∷ vs) q =
        let i = to_next g S.links w v q.0.0 q.0.1 q.0.2 in
        walks_from_within v (in_range w v i) (next S.worlds w v (enough w l h) i) vs q.1
