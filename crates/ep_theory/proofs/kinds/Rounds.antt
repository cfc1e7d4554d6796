-- Facts for code that goes by rounds: when it may stop, a flat form of a signature, and worlds that need not be signed again.
use Rattle.std.proofs.Common.{◌≡◌, ℕ, suc, ◌<◌, ◌≤◌, sym, subst, ◌∙◌, Equal}
use Rattle.std.specs.Ordering.{nat_cmp}
use Rattle.std.proofs.lemmas.Cmp.{tied_itself}
use Rattle.ep_theory.specs.Kripke.{Kripke, IsState}
use Rattle.ep_theory.specs.Kind.{kind, kind_cmp}
use Rattle.ep_theory.specs.Ranks.{RanksAt}
use Rattle.ep_theory.proofs.lists.Orders.{kinds}
use Rattle.ep_theory.proofs.kinds.Later.{IsSettledAt, order_later}
use Rattle.ep_theory.proofs.states.Unique.{numbers}

-- equal ranks are equal kinds
pub kind_from_rank : (S : Kripke) (k : ℕ) (rank : ℕ → ℕ) → RanksAt S k rank → (w v : ℕ) → w < S.worlds → v < S.worlds → rank w ≡ rank v → kind S k w ≡ kind S k v
kind_from_rank S k rank r w v a b e = (kinds k).same (kind S k w) (kind S k v)
    (sym (r w v a b) ∙ subst (λ t. nat_cmp (rank w) t ≡ Equal) e (tied_itself numbers.total (rank w)))

pub rank_from_kind : (S : Kripke) (k : ℕ) (rank : ℕ → ℕ) → RanksAt S k rank → (w v : ℕ) → w < S.worlds → v < S.worlds → kind S k w ≡ kind S k v → rank w ≡ rank v
rank_from_kind S k rank r w v a b e = numbers.same (rank w) (rank v)
    (r w v a b ∙ subst (λ t. kind_cmp k (kind S k w) t ≡ Equal) e (tied_itself (kinds k).total (kind S k w)))

-- a round that splits no class: worlds of equal old ranks have equal new ranks
pub stop : (S : Kripke) → IsState S → (k : ℕ) (old new : ℕ → ℕ) → RanksAt S k old → RanksAt S (suc k) new →
    ((w v : ℕ) → w < S.worlds → v < S.worlds → old w ≡ old v → new w ≡ new v) → IsSettledAt S k
stop S s k old new r q f w v a b e = kind_from_rank S (suc k) new q w v a b (f w v a b (rank_from_kind S k old r w v a b e))

-- once no class splits, the ranks serve at every later level
pub ranks_later : (S : Kripke) → IsState S → (k m : ℕ) (rank : ℕ → ℕ) → k ≤ m → IsSettledAt S k → RanksAt S k rank → RanksAt S m rank
ranks_later S s k m rank h f r w v a b = r w v a b ∙ order_later S s k m h f w v a b
