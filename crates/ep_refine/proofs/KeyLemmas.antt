-- Signed worlds, in the order of their signatures.
use Rattle.std.proofs.Common.{◌≡◌, ℕ, ◌<◌, inl, inr, List, [], ◌∷◌, get_or, map, sym, ap, subst, ◌∙◌}
use Rattle.std.specs.Ordering.{nat_cmp}
use Rattle.ep_theory.specs.Rising.{IsIn}
use Rattle.ep_theory.specs.Kripke.{Kripke}
use Rattle.ep_theory.specs.Kind.{node_cmp}
use Rattle.ep_theory.specs.Ranks.{signature, ranks_among}
use Rattle.ep_theory.proofs.CallerLemmas.{IsIn-map, numbers}
use Rattle.ep_theory.proofs.lists.Orders.{nodes}
use Rattle.ep_theory.proofs.kinds.Places.{places-order}
use Rattle.ep_refine.specs.Groups.{IsWithin}
use Rattle.ep_refine.specs.declared.signing.Key.{Key}
use Rattle.ep_refine.specs.declared.numbering.Keyed.{Keyed}
use Rattle.ep_refine.specs.Signing.{key_cmp, KeysOrder}
use Rattle.ep_refine.specs.Numbering.{OrdersKeys}
use Rattle.ep_refine.proofs.TouchLemmas.{in_within}

-- the place of a world's signature among all signatures
abbrev pub signature_place : Kripke → (ℕ → ℕ) → ℕ → ℕ
signature_place S rank = ranks_among (node_cmp nat_cmp) S.worlds (signature S rank)

pub by_signature : (S : Kripke) (rank : ℕ → ℕ) (u v : ℕ) → u < S.worlds → v < S.worlds → nat_cmp (signature_place S rank u) (signature_place S rank v) ≡ node_cmp nat_cmp (signature S rank u) (signature S rank v)
by_signature S rank u v a b = places-order (node_cmp nat_cmp) (nodes nat_cmp numbers) S.worlds (signature S rank) u v a b

abbrev tail_of : {Y : Type 0} → List Y → List Y
tail_of [] = []
tail_of (y ∷ ys) = ys

module _ {X Y : Type 0} (world : X → ℕ) (value : X → Y) (f : ℕ → Y) where
  pub keyed_each : (xs : List X) → map value xs ≡ map f (map world xs) → (x : X) → IsIn x xs → value x ≡ f (world x)
  keyed_each [] e x i = absurd i
  keyed_each (y ∷ ys) e x (inl q) = ap value q ∙ ap (λ l. get_or l 0 (value y)) e ∙ sym (ap (λ z. f (world z)) q)
  keyed_each (y ∷ ys) e x (inr i) = keyed_each ys (ap tail_of e) x i

-- keys that compare as the signatures order the worlds by the places of these
pub signed_orders : (S : Kripke) (rank : ℕ → ℕ) (items : List (Keyed Key)) (ws : List ℕ) → map (λ x. x.world) items ≡ ws → KeysOrder (signature S rank) items → IsWithin S.worlds ws →
    OrdersKeys (λ x y. key_cmp x.key y.key) (λ x. x.world) (signature_place S rank) items
signed_orders S rank items ws e keys within x y i j = by_signature S rank x.world y.world (at x i) (at y j) ∙ sym (keys x y i j)
  where
    at : (x : Keyed Key) → IsIn x items → x.world < S.worlds
    at x i = in_within S.worlds ws within x.world (subst (IsIn x.world) e (IsIn-map (λ (z : Keyed Key). z.world) x items i))
