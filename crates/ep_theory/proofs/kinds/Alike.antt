-- Bisimilar worlds have equal kinds at every level, and what equal kinds say of links.
use Rattle.std.proofs.Common.{◌≡◌, ℕ, zero, suc, List, [], ◌∷◌, Bool, refl, sym, ap, ap₂, subst, ◌∙◌, map, length, get_or, IsTrue}
use Rattle.std.proofs.Math.ListN.{get_or-map}
use Rattle.ep_theory.specs.Rising.{IsIn, rising}
use Rattle.ep_theory.specs.Kripke.{Kripke, IsState, successors, links_of}
use Rattle.ep_theory.specs.Kind.{Kind, kind_cmp, kind}
use Rattle.ep_theory.specs.Bisimulation.{IsBisimulation}
use Rattle.ep_theory.proofs.lists.Orders.{kinds}
use Rattle.ep_theory.proofs.lists.Lists.{IsIn-map, from_map, IsIn-rising, from_rising, rising_alike, from_successors, IsIn-successors}

-- the kinds of the successors of w for one agent's pairs
abbrev pub row : Kripke → (k : ℕ) → ℕ → List (ℕ × ℕ) → List (Kind k)
row S k w pairs = rising (kind_cmp k) (map (kind S k) (successors pairs w))

-- w is linked to a world of the kind
pub to_row : (S : Kripke) (k : ℕ) (w u : ℕ) (pairs : List (ℕ × ℕ)) → IsIn (w, u) pairs → IsIn (kind S k u) (row S k w pairs)
to_row S k w u pairs i = IsIn-rising (kind_cmp k) (kinds k) (kind S k u) (map (kind S k) (successors pairs w)) (IsIn-map (kind S k) u (successors pairs w) (IsIn-successors w u pairs i))

pub from_row : (S : Kripke) (k : ℕ) (w : ℕ) (pairs : List (ℕ × ℕ)) (y : Kind k) → IsIn y (row S k w pairs) → (u : ℕ) × IsIn (w, u) pairs × (y ≡ kind S k u)
from_row S k w pairs y i =
    let r = from_map (kind S k) y (successors pairs w) (from_rising (kind_cmp k) (kinds k) y (map (kind S k) (successors pairs w)) i) in
    (r.0, from_successors w r.0 pairs r.1, r.2)

-- two lists of rows are equal if they are so agent by agent
pub rows_alike : {A X : Type 0} (f g : List X → List A) (ls rs : List (List X)) → length ls ≡ length rs → ((a : ℕ) → f (get_or ls a []) ≡ g (get_or rs a [])) → map f ls ≡ map g rs
rows_alike f g [] [] n h = refl
rows_alike f g [] (r ∷ rs) n h = cc
rows_alike f g (l ∷ ls) [] n h = cc
rows_alike f g (l ∷ ls) (r ∷ rs) n h = ap₂ (λ x xs. x ∷ xs) (h 0) (rows_alike f g ls rs (cc) (λ a. h (suc a)))

pub same_agents : (Z : ℕ → ℕ → Bool) (S R : Kripke) → IsState S → IsState R → IsBisimulation Z S R → length S.links ≡ length R.links
same_agents Z S R s r b = s.relations ∙ b.agents ∙ sym r.relations

row_alike : (Z : ℕ → ℕ → Bool) (S R : Kripke) (b : IsBisimulation Z S R) (k w v : ℕ) → ((u x : ℕ) → IsTrue (Z u x) → kind S k u ≡ kind R k x) → IsTrue (Z w v) → (a : ℕ) → row S k w (links_of S a) ≡ row R k v (links_of R a)
row_alike Z S R b k w v ih z a =
    rising_alike (kind_cmp k) (kinds k) (map (kind S k) (successors (links_of S a) w)) (map (kind R k) (successors (links_of R a) v))
    (λ y i. let u = from_map (kind S k) y (successors (links_of S a) w) i in
    let x = b.forth a w v u.0 z (from_successors w u.0 (links_of S a) u.1) in
    subst (λ t. IsIn t (map (kind R k) (successors (links_of R a) v))) (sym (u.2 ∙ ih u.0 x.0 x.2))
    (IsIn-map (kind R k) x.0 (successors (links_of R a) v) (IsIn-successors v x.0 (links_of R a) x.1)))
    (λ y i. let x = from_map (kind R k) y (successors (links_of R a) v) i in
    let u = b.back a w v x.0 z (from_successors v x.0 (links_of R a) x.1) in
    subst (λ t. IsIn t (map (kind S k) (successors (links_of S a) w))) (sym (x.2 ∙ sym (ih u.0 x.0 u.2)))
    (IsIn-map (kind S k) u.0 (successors (links_of S a) w) (IsIn-successors w u.0 (links_of S a) u.1)))

-- bisimilar worlds have equal kinds at every level
pub alike : (Z : ℕ → ℕ → Bool) (S R : Kripke) → IsState S → IsState R → IsBisimulation Z S R → (k w v : ℕ) → IsTrue (Z w v) → kind S k w ≡ kind R k v
alike Z S R s r b zero w v z = b.truth w v z
alike Z S R s r b (suc k) w v z =
    let o : kind S k w ≡ kind R k v = alike Z S R s r b k w v z in
    let q : map (row S k w) S.links ≡ map (row R k v) R.links = rows_alike (row S k w) (row R k v) S.links R.links (same_agents Z S R s r b) (row_alike Z S R b k w v (alike Z S R s r b k) z) in
    λ i. record { older = o i; rows = q i }

-- equal kinds answer each link by a link to an equal kind one level down
pub answered : (S R : Kripke) (k w v : ℕ) → kind S (suc k) w ≡ kind R (suc k) v → (a u : ℕ) → IsIn (w, u) (links_of S a) → (x : ℕ) × IsIn (v, x) (links_of R a) × (kind S k u ≡ kind R k x)
answered S R k w v e a u i =
    let q : row S k w (links_of S a) ≡ row R k v (links_of R a) =
    sym (get_or-map (row S k w) S.links a []) ∙ ap (λ n. get_or n.rows a []) e ∙ get_or-map (row R k v) R.links a [] in
    from_row R k v (links_of R a) (kind S k u) (subst (λ l. IsIn (kind S k u) l) q (to_row S k w u (links_of S a) i))
