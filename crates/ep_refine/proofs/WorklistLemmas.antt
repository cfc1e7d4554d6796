-- Rounds of a refinement by a worklist: which worlds rest, when it may stop, and what it has signed.
use Rattle.std.proofs.Common.{◌≡◌, ℕ, suc, ◌<◌, ◌≤◌, ◌+◌, ◌*◌, ◌↔◌, Bool, true, false, not, List, [], ◌∷◌, length, get_or, sum_by, refl, ap, subst, arith, IsTrue}
use Rattle.ep_theory.specs.Rising.{IsIn}
use Rattle.ep_logic.specs.Numbers.{has_number}
use Rattle.ep_theory.specs.Kripke.{Kripke, IsState, links_of}
use Rattle.ep_theory.specs.Ranks.{RanksAt}
use Rattle.ep_theory.proofs.CallerLemmas.{to_has_number, from_has_number, ranks_later, IsIn-at}
use Rattle.ep_theory.proofs.kinds.Later.{settled_later}
use Rattle.ep_refine.specs.declared.blocks.Blocks.{Blocks}
use Rattle.ep_refine.specs.Touching.{is_listed, Listed, LinksToSome}
use Rattle.ep_refine.specs.Bound.{FewSigned}
use Rattle.ep_refine.specs.Blocks.{AreBlocks}
use Rattle.ep_refine.specs.Rounds.{RestAlike, size_of, IsRound, degree}
use Rattle.ep_refine.proofs.Potential.{Budget, budget_first, budget_spend, budget_split, budget_end}
use Rattle.ep_refine.proofs.TouchLemmas.{sum_listed}
use Rattle.ep_refine.proofs.SourceLemmas.{degrees_are_links, few_linked}
use Rattle.ep_refine.proofs.Unsigned.{unsigned_same, all_kept}

-- two worlds of one older class that did not move are of one class
abbrev pub KeepsClasses : ℕ → (ℕ → ℕ) → (ℕ → ℕ) → List ℕ → Type 0
KeepsClasses n old new moved = (u x : ℕ) → u < n → x < n → (IsIn u moved → ⊥) → (IsIn x moved → ⊥) → old u ≡ old x → new u ≡ new x

stays : List ℕ → ℕ → Bool
stays moved u = not (has_number moved u)

from_stays : (moved : List ℕ) (u : ℕ) → IsTrue (not (has_number moved u)) → IsIn u moved → ⊥
from_stays moved u h i = clash (has_number moved u) (to_has_number moved u i) h
  where
    clash : (b : Bool) → b ≡ true → not b ≡ true → ⊥
    clash b p q = cc

to_stays : (moved : List ℕ) (u : ℕ) → (IsIn u moved → ⊥) → IsTrue (not (has_number moved u))
to_stays moved u h = go (has_number moved u) refl
  where
    go : (b : Bool) → has_number moved u ≡ b → not (has_number moved u) ≡ true
    go true e = absurd (h (from_has_number moved u e))
    go false e = ap not e

-- worlds without a link to one that moved have the signature of their class
pub rest_alike : (S : Kripke) → IsState S → (k : ℕ) (old new : ℕ → ℕ) (moved : List ℕ) (row : List Bool) →
    RanksAt S k old → RanksAt S (suc k) new → KeepsClasses S.worlds old new moved →
    ((w : ℕ) → LinksToSome S moved w → is_listed row w ≡ true) → RestAlike S new row
rest_alike S s k old new moved row r q one marks w v a b f g e =
    unsigned_same S s k old new (λ u. not (has_number moved u)) r q
    (λ u x c d h i z. one u x c d (from_stays moved u h) (from_stays moved x i) z)
    w v a b (free w f) (free v g) e
  where
    clash : (b : Bool) → b ≡ true → b ≡ false → ⊥
    clash b p q = cc

    free : (w : ℕ) → is_listed row w ≡ false → (a u : ℕ) → IsIn (w, u) (links_of S a) → IsTrue (not (has_number moved u))
    free w f a u l = to_stays moved u (λ i. clash (is_listed row w) (marks w (a, u, i, l)) f)

-- where no world moved, the ranks serve at the level of the number of worlds
pub settled_ranks : (S : Kripke) → IsState S → (k : ℕ) (old new : ℕ → ℕ) (moved : List ℕ) → RanksAt S k old → RanksAt S (suc k) new → KeepsClasses S.worlds old new moved → length moved ≡ 0 → suc k ≤ S.worlds →
    RanksAt S S.worlds new
settled_ranks S s k old new moved r q one none l =
    ranks_later S s (suc k) S.worlds new l (settled_later S s k (suc k) (omega arith) (all_kept S s k old new r q (λ u x a b e. one u x a b (empty u) (empty x) e))) q
  where
    empty : (u : ℕ) → IsIn u moved → ⊥
    empty u i = go moved none i
      where
        go : (ws : List ℕ) → length ws ≡ 0 → IsIn u ws → ⊥
        go [] e i = i
        go (x ∷ xs) e i = absurd (omega (arith, e))

-- after a round the moved worlds are due
pub split_budget : (S : Kripke) (b b' : Blocks) (moved : List ℕ) (begin now : ℕ) → IsRound S b b' moved →
    Budget S.worlds (size_of b) (degree S) begin now 0 → Budget S.worlds (size_of b') (degree S) begin now (sum_by (degree S) moved)
split_budget S b b' moved begin now h budget =
    budget_split S.worlds (size_of b) (size_of b') (degree S) (has_number moved) begin now (sum_by (degree S) moved) h.shrinks
    (λ x l e. h.halves x (from_has_number moved x e))
    (sum_listed (degree S) S.worlds (has_number moved) moved h.within h.distinct (λ k l. to_has_number moved (get_or moved k 0) (IsIn-at moved k 0 l)))
    budget

pub first_budget : (S : Kripke) (b : Blocks) (begin now : ℕ) → AreBlocks S.worlds b → now ≤ begin + S.worlds → Budget S.worlds (size_of b) (degree S) begin now 0
first_budget S b begin now valid l = budget_first S.worlds (size_of b) (degree S) begin now (λ x a. let e = valid.parts.end_in x a in omega (arith, e)) l

pub spent_budget : (S : Kripke) (b : Blocks) (begin now due touched later : ℕ) → touched ≤ due → later ≤ now + 2 * touched →
    Budget S.worlds (size_of b) (degree S) begin now due → Budget S.worlds (size_of b) (degree S) begin later 0
spent_budget S b begin now due touched later l m budget = budget_spend S.worlds (size_of b) (degree S) begin now due later (omega (arith, l, m)) budget

pub few_signed : (S : Kripke) → IsState S → (b : Blocks) (begin now due : ℕ) → AreBlocks S.worlds b → Budget S.worlds (size_of b) (degree S) begin now due → FewSigned S begin now
few_signed S s b begin now due valid budget = budget_end S (size_of b) (degree S) begin now due
    (λ x a. let f = valid.parts.start_place x a in let t = valid.parts.place_end x a in omega (arith, f, t)) (degrees_are_links S s) budget

pub none_signed : (S : Kripke) (begin now : ℕ) → now ≤ begin → FewSigned S begin now
none_signed S begin now l k log = omega (arith, l)

pub first_signed : (S : Kripke) (begin now : ℕ) → now ≤ begin + S.worlds → FewSigned S begin now
first_signed S begin now l k log = omega (arith, l)

-- the touched worlds are at most the links to those that moved
pub few_touched : (S : Kripke) (moved seen : List ℕ) (left : List Bool) (ws : List ℕ) → seen ≡ moved → Listed S.worlds left ws → ((w : ℕ) → IsIn w ws ↔ LinksToSome S seen w) → length ws ≤ sum_by (degree S) moved
few_touched S moved seen left ws e listed h = few_linked S moved ws listed.distinct (λ w i. subst (λ (m : List ℕ). LinksToSome S m w) e ((h w).0 i))
