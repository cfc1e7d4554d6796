-- The equations of `dynamic_depth`, variant by variant, and of the test of a depth.
use Rattle.std.proofs.Common.{◌≡◌, ℕ, zero, suc, ◌+◌, ◌-◌, Bool, true, false, ◌&&◌, max, nat_le, List, [], ◌∷◌, map, refl, ap, ◌∙◌, sym, arith}
use Rattle.std.specs.List.{list_all}
use Rattle.ep_base.specs.Numbers.{largest}
use Rattle.ep_logic.specs.declared.ids.ActionId.{ActionId}
use Rattle.ep_logic.specs.declared.ids.AgentId.{AgentId}
use Rattle.ep_logic.specs.declared.ids.AtomId.{AtomId}
use Rattle.ep_dynamic.specs.declared.node.DynNode.{DynNode, roll-DynNode}
use Rattle.ep_dynamic.specs.declared.node.DynNode.TheOpen.{DynNode-F}
use Rattle.ep_dynamic.specs.declared.node.DynNode.TheVariants.{True, False, Atom, Not, And, Or, Knows, Common, After, rolls-True, rolls-False, rolls-Atom, rolls-Not, rolls-And, rolls-Or, rolls-Knows, rolls-Common, rolls-After}
use Rattle.ep_dynamic.specs.declared.node.DynNode.TheFolds.{map-DynNode, ind-DynNode, fold-roll-DynNode}
use Rattle.ep_dynamic.specs.Depths.{dynamic_depth, dynamic_depth_step}

depth-roll : (x : DynNode-F DynNode) → dynamic_depth (roll-DynNode x) ≡ dynamic_depth_step (map-DynNode DynNode ℕ dynamic_depth x)
unfolding dynamic_depth
depth-roll x = fold-roll-DynNode ℕ dynamic_depth_step x

-- whether the depth is no greater
abbrev pub is_within : DynNode → ℕ → Bool
is_within f l = nat_le (dynamic_depth f) l

more : (d l : ℕ) → nat_le (d + 1) (l + 1) ≡ nat_le d l
more zero l = grind arith
more (suc d) l = grind arith

leaf_within : (l : ℕ) → nat_le 1 (l + 1) ≡ true
leaf_within l = grind arith

-- the largest is within where each is
most : (n m l : ℕ) → nat_le (max n m) l ≡ (nat_le n l && nat_le m l)
most n m l = grind arith

each_within : (fs : List DynNode) (l : ℕ) → nat_le (largest (map dynamic_depth fs)) l ≡ list_all (λ f. nat_le (dynamic_depth f) l) fs
each_within [] l = grind arith
each_within (f ∷ fs) l = most (dynamic_depth f) (largest (map dynamic_depth fs)) l ∙ ap (λ b. nat_le (dynamic_depth f) l && b) (each_within fs l)

pub within-True : (l : ℕ) → nat_le (dynamic_depth True) (l + 1) ≡ true
within-True l = ap (λ d. nat_le d (l + 1)) (ap dynamic_depth (sym rolls-True) ∙ depth-roll DynNode-F.True) ∙ leaf_within l

pub within-False : (l : ℕ) → nat_le (dynamic_depth False) (l + 1) ≡ true
within-False l = ap (λ d. nat_le d (l + 1)) (ap dynamic_depth (sym rolls-False) ∙ depth-roll DynNode-F.False) ∙ leaf_within l

pub within-Atom : (p : AtomId) (l : ℕ) → nat_le (dynamic_depth (Atom p)) (l + 1) ≡ true
within-Atom p l = ap (λ d. nat_le d (l + 1)) (ap dynamic_depth (sym (rolls-Atom p)) ∙ depth-roll (DynNode-F.Atom p)) ∙ leaf_within l

pub within-Not : (f : DynNode) (l : ℕ) → nat_le (dynamic_depth (Not f)) (l + 1) ≡ nat_le (dynamic_depth f) l
within-Not f l = ap (λ d. nat_le d (l + 1)) (ap dynamic_depth (sym (rolls-Not f)) ∙ depth-roll (DynNode-F.Not f)) ∙ more (dynamic_depth f) l

pub within-And : (fs : List DynNode) (l : ℕ) → nat_le (dynamic_depth (And fs)) (l + 1) ≡ list_all (λ f. nat_le (dynamic_depth f) l) fs
within-And fs l = ap (λ d. nat_le d (l + 1)) (ap dynamic_depth (sym (rolls-And fs)) ∙ depth-roll (DynNode-F.And fs)) ∙ more (largest (map dynamic_depth fs)) l ∙ each_within fs l

pub within-Or : (fs : List DynNode) (l : ℕ) → nat_le (dynamic_depth (Or fs)) (l + 1) ≡ list_all (λ f. nat_le (dynamic_depth f) l) fs
within-Or fs l = ap (λ d. nat_le d (l + 1)) (ap dynamic_depth (sym (rolls-Or fs)) ∙ depth-roll (DynNode-F.Or fs)) ∙ more (largest (map dynamic_depth fs)) l ∙ each_within fs l

pub within-Knows : (a : AgentId) (f : DynNode) (l : ℕ) → nat_le (dynamic_depth (Knows a f)) (l + 1) ≡ nat_le (dynamic_depth f) l
within-Knows a f l = ap (λ d. nat_le d (l + 1)) (ap dynamic_depth (sym (rolls-Knows a f)) ∙ depth-roll (DynNode-F.Knows a f)) ∙ more (dynamic_depth f) l

pub within-Common : (g : List Bool) (f : DynNode) (l : ℕ) → nat_le (dynamic_depth (Common g f)) (l + 1) ≡ nat_le (dynamic_depth f) l
within-Common g f l = ap (λ d. nat_le d (l + 1)) (ap dynamic_depth (sym (rolls-Common g f)) ∙ depth-roll (DynNode-F.Common g f)) ∙ more (dynamic_depth f) l

pub within-After : (a : ActionId) (f : DynNode) (l : ℕ) → nat_le (dynamic_depth (After a f)) (l + 1) ≡ nat_le (dynamic_depth f) l
within-After a f l = ap (λ d. nat_le d (l + 1)) (ap dynamic_depth (sym (rolls-After a f)) ∙ depth-roll (DynNode-F.After a f)) ∙ more (dynamic_depth f) l

-- no formula has depth 0
above_zero : (n : ℕ) → nat_le (n + 1) 0 ≡ false
above_zero n = grind arith

positive : (x : DynNode-F ℕ) → nat_le (dynamic_depth_step x) 0 ≡ false
positive DynNode-F.True = refl
positive DynNode-F.False = refl
positive (DynNode-F.Atom p) = refl
positive (DynNode-F.Not n) = above_zero n
positive (DynNode-F.And ns) = above_zero (largest ns)
positive (DynNode-F.Or ns) = above_zero (largest ns)
positive (DynNode-F.Knows a n) = above_zero n
positive (DynNode-F.Common g n) = above_zero n
positive (DynNode-F.After a n) = above_zero n

abbrev Never : DynNode → Type 0
Never f = nat_le (dynamic_depth f) 0 ≡ false

rolled : (x : DynNode-F DynNode) (y : DynNode-F ((f : DynNode) × Never f)) → map-DynNode ((f : DynNode) × Never f) DynNode (λ r. r.0) y ≡ x → Never (roll-DynNode x)
rolled x y e = ap (λ d. nat_le d 0) (depth-roll x) ∙ positive (map-DynNode DynNode ℕ dynamic_depth x)

pub never_within : (f : DynNode) → Never f
never_within f = ind-DynNode Never rolled f

-- a node by its variant
pub within_step : (g f : DynNode) (d : ℕ) (b : Bool) → g ≡ f → (d ≡ 0 → ⊥) → b ≡ nat_le (dynamic_depth f) ((d - 1) + 1) → b ≡ nat_le (dynamic_depth g) d
within_step g f d b e n h =
    let whole : (d - 1) + 1 ≡ d = omega (arith, n) in
    h ∙ ap (λ l. nat_le (dynamic_depth f) l) whole ∙ ap (λ f. nat_le (dynamic_depth f) d) (sym e)

pub ruleset depth_laws = (within-True, within-False, within-Atom, within-Not, within-And, within-Or, within-Knows, within-Common, within-After)
