-- Worlds that need not be signed again, and the ranks after a round.
use Rattle.std.proofs.Common.{map, ◌≡◌, ℕ, suc, ◌<◌, Bool, refl, sym, subst, ◌∙◌, Equal, IsTrue}
use Rattle.std.specs.Ordering.{nat_cmp}
use Rattle.std.proofs.lemmas.Cmp.{tied_itself}
use Rattle.ep_theory.specs.Rising.{IsIn}
use Rattle.ep_theory.specs.Kripke.{Kripke, IsState, links_of, successors}
use Rattle.ep_theory.specs.Kind.{Kind, kind, kind_cmp, node_cmp}
use Rattle.ep_theory.specs.Ranks.{RanksAt, signature}
use Rattle.ep_theory.proofs.lists.Orders.{kinds, nodes}
use Rattle.ep_theory.proofs.CallerLemmas.{numbers, signatures, IsIn-map, from_map, from_successors, IsIn-successors, links_within}
use Rattle.ep_theory.proofs.lists.Lists.{rising_alike}
use Rattle.ep_theory.proofs.kinds.Alike.{row, rows_alike, answered}
use Rattle.ep_theory.proofs.kinds.Later.{IsSettledAt}
use Rattle.ep_theory.proofs.kinds.Rounds.{kind_from_rank, rank_from_kind}

-- worlds of one class whose links all lead to kept pieces stay in one class; two kept worlds of one old class are in one new class
kept_row_within : (S : Kripke) → IsState S → (k w v : ℕ) (kept : ℕ → Bool) →
    ((u x : ℕ) → u < S.worlds → x < S.worlds → IsTrue (kept u) → IsTrue (kept x) → kind S k u ≡ kind S k x → kind S (suc k) u ≡ kind S (suc k) x) →
    ((a u : ℕ) → IsIn (w, u) (links_of S a) → IsTrue (kept u)) → ((a x : ℕ) → IsIn (v, x) (links_of S a) → IsTrue (kept x)) →
    kind S (suc k) w ≡ kind S (suc k) v → (a : ℕ) (y : Kind (suc k)) →
    IsIn y (map (kind S (suc k)) (successors (links_of S a) w)) → IsIn y (map (kind S (suc k)) (successors (links_of S a) v))
kept_row_within S s k w v kept one f g e a y i =
    let u = from_map (kind S (suc k)) y (successors (links_of S a) w) i in
    let l : IsIn (w, u.0) (links_of S a) = from_successors w u.0 (links_of S a) u.1 in
    let x = answered S S k w v e a u.0 l in
    let q : kind S (suc k) u.0 ≡ kind S (suc k) x.0 = one u.0 x.0 (links_within S s a w u.0 l).1 (links_within S s a v x.0 x.1).1 (f a u.0 l) (g a x.0 x.1) x.2 in
    subst (λ t. IsIn t (map (kind S (suc k)) (successors (links_of S a) v))) (sym (u.2 ∙ q))
    (IsIn-map (kind S (suc k)) x.0 (successors (links_of S a) v) (IsIn-successors v x.0 (links_of S a) x.1))

pub unsigned_alike : (S : Kripke) → IsState S → (k w v : ℕ) (kept : ℕ → Bool) →
    ((u x : ℕ) → u < S.worlds → x < S.worlds → IsTrue (kept u) → IsTrue (kept x) → kind S k u ≡ kind S k x → kind S (suc k) u ≡ kind S (suc k) x) →
    ((a u : ℕ) → IsIn (w, u) (links_of S a) → IsTrue (kept u)) → ((a x : ℕ) → IsIn (v, x) (links_of S a) → IsTrue (kept x)) →
    kind S (suc k) w ≡ kind S (suc k) v → kind S (suc (suc k)) w ≡ kind S (suc (suc k)) v
unsigned_alike S s k w v kept one f g e =
    let q : map (row S (suc k) w) S.links ≡ map (row S (suc k) v) S.links =
    rows_alike (row S (suc k) w) (row S (suc k) v) S.links S.links refl
    (λ a. rising_alike (kind_cmp (suc k)) (kinds (suc k)) (map (kind S (suc k)) (successors (links_of S a) w)) (map (kind S (suc k)) (successors (links_of S a) v))
    (kept_row_within S s k w v kept one f g e a) (kept_row_within S s k v w kept one g f (sym e) a)) in
    λ i. record { older = e i; rows = q i }

-- worlds of one class all of whose links lead to kept pieces of the split from `old` to `new` have one signature
pub unsigned_same : (S : Kripke) → IsState S → (k : ℕ) (old new : ℕ → ℕ) (kept : ℕ → Bool) → RanksAt S k old → RanksAt S (suc k) new →
    ((u x : ℕ) → u < S.worlds → x < S.worlds → IsTrue (kept u) → IsTrue (kept x) → old u ≡ old x → new u ≡ new x) →
    (w v : ℕ) → w < S.worlds → v < S.worlds → ((a u : ℕ) → IsIn (w, u) (links_of S a) → IsTrue (kept u)) → ((a x : ℕ) → IsIn (v, x) (links_of S a) → IsTrue (kept x)) →
    new w ≡ new v → signature S new w ≡ signature S new v
unsigned_same S s k old new kept r q one w v a b f g e =
    let same : kind S (suc (suc k)) w ≡ kind S (suc (suc k)) v =
    unsigned_alike S s k w v kept (λ u x c d h i z. kind_from_rank S (suc k) new q u x c d (one u x c d h i (rank_from_kind S k old r u x c d z))) f g (kind_from_rank S (suc k) new q w v a b e) in
    (nodes nat_cmp numbers).same (signature S new w) (signature S new v)
    (signatures S s (suc k) new q w v a b
    ∙ subst (λ t. kind_cmp (suc (suc k)) (kind S (suc (suc k)) w) t ≡ Equal) same (tied_itself (kinds (suc (suc k))).total (kind S (suc (suc k)) w)))

-- ranks that order the worlds as their signatures do are those of the next level
pub next_level : (S : Kripke) → IsState S → (k : ℕ) (old new : ℕ → ℕ) → RanksAt S k old →
    ((w v : ℕ) → w < S.worlds → v < S.worlds → nat_cmp (new w) (new v) ≡ node_cmp nat_cmp (signature S old w) (signature S old v)) → RanksAt S (suc k) new
next_level S s k old new r f w v a b = f w v a b ∙ signatures S s k old r w v a b

-- where no piece was left out, no class splits any more
pub all_kept : (S : Kripke) → IsState S → (k : ℕ) (old new : ℕ → ℕ) → RanksAt S k old → RanksAt S (suc k) new →
    ((u x : ℕ) → u < S.worlds → x < S.worlds → old u ≡ old x → new u ≡ new x) → IsSettledAt S k
all_kept S s k old new r q one w v a b e = kind_from_rank S (suc k) new q w v a b (one w v a b (rank_from_kind S k old r w v a b e))
