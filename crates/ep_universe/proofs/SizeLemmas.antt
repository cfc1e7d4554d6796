-- A formula that is read and has no type fault can be built where its ground form is small.
use Rattle.std.proofs.Common.{◌≡◌, ℕ, suc, ◌+◌, ◌≤◌, Bool, true, false, ◌&&◌, nat_eq, nat_le, List, [], ◌∷◌, ◌++◌, None, length, map, refl, ap, sym, ◌∙◌, subst, arith}
use Rattle.std.specs.List.{list_all}
use Rattle.std.proofs.lemmas.Bool.Decides.{nat_tests}
use Rattle.std.proofs.lemmas.List.{length-map}
use Rattle.ep_tree.specs.Formed.{formed_layer, formed_formula, formed_group, formed_name, formed_params, is_true}
use Rattle.ep_tree.specs.declared.tree.GroupTree.{GroupTree}
use Rattle.ep_tree.specs.declared.tree.GroupTree.TheVariants.{All, Members}
use Rattle.ep_tree.specs.declared.tree.FormulaTree.{FormulaTree, roll-FormulaTree}
use Rattle.ep_tree.specs.declared.tree.FormulaTree.TheOpen.{FormulaTree-F}
use Rattle.ep_tree.specs.declared.tree.FormulaTree.TheFolds.{map-FormulaTree, fold-roll-FormulaTree, ind-FormulaTree}
use Rattle.ep_types.specs.Faults.{first_fault, first_row, table}
use Rattle.ep_types.specs.Places.{Scope, Uses, with_params, at, each, Group, Knowledge}
use Rattle.ep_types.specs.Uses.{param_uses, agent_uses, group_uses, knower_uses, knowers_uses, production, formula_uses}
use Rattle.ep_universe.specs.Sizes.{is_whole, whole_layer, has_member}
use Rattle.ep_universe.proofs.TreeLemmas.{whole-roll}
use Rattle.ep_universe.proofs.TypedLemmas.{both-none, located-none, row-none}

both_left : (a b : Bool) → (a && b) ≡ true → a ≡ true
both_left true b h = refl
both_left false b h = h

both_right : (a b : Bool) → (a && b) ≡ true → b ≡ true
both_right true b h = h
both_right false b h = absurd (cc)

-- ---- two parts and a member

some : (n : ℕ) → nat_eq n 0 ≡ false → nat_le 1 n ≡ true
some n h = grind (arith, nat_tests)

pub group_some : (g : GroupTree) (s : Scope) → first_fault (group_uses g s) ≡ None → has_member g ≡ true
group_some (All token) s h = refl
group_some (Members token xs) s h =
    let parts = both-none (at token (Group (length xs))) (agent_uses xs s) h in
    let row = row-none (nat_eq (length xs) 0) _ _ (located-none token (first_row (table (Group (length xs)))) parts.0) in
    some (length xs) row.0

abbrev IsWhole : FormulaTree → Type 0
IsWhole f = (s : Scope) → formed_formula f ≡ true → first_fault (formula_uses f s) ≡ None → is_whole f ≡ true

parts_whole : (s : Scope) (fs : List ((f : FormulaTree) × IsWhole f)) → list_all is_true (map formed_formula (map (λ e. e.0) fs)) ≡ true →
    first_fault (each (λ part. part s) (map formula_uses (map (λ e. e.0) fs))) ≡ None → list_all (λ b. b) (map is_whole (map (λ e. e.0) fs)) ≡ true
parts_whole s [] w h = refl
parts_whole s (f ∷ fs) w h =
    let parts = both-none (formula_uses f.0 s) (each (λ part. part s) (map formula_uses (map (λ e. e.0) fs))) h in
    (λ i. f.1 s (both_left (formed_formula f.0) (list_all is_true (map formed_formula (map (λ e. e.0) fs))) w) parts.0 i
    && parts_whole s fs (both_right (formed_formula f.0) (list_all is_true (map formed_formula (map (λ e. e.0) fs))) w) parts.1 i)

many : (fs : List ((f : FormulaTree) × IsWhole f)) → nat_le 2 (length (map formed_formula (map (λ e. e.0) fs))) ≡ true → nat_le 2 (length (map is_whole (map (λ e. e.0) fs))) ≡ true
many fs h =
    ap (nat_le 2) (length-map (map (λ e. e.0) fs) is_whole ∙ sym (length-map (map (λ e. e.0) fs) formed_formula)) ∙ h

whole_level : (s : Scope) (y : FormulaTree-F ((f : FormulaTree) × IsWhole f)) →
    formed_layer (map-FormulaTree FormulaTree Bool formed_formula (map-FormulaTree ((f : FormulaTree) × IsWhole f) FormulaTree (λ e. e.0) y)) ≡ true →
    first_fault (production (map-FormulaTree FormulaTree (Scope → Uses) formula_uses (map-FormulaTree ((f : FormulaTree) × IsWhole f) FormulaTree (λ e. e.0) y)) s) ≡ None →
    whole_layer (map-FormulaTree FormulaTree Bool is_whole (map-FormulaTree ((f : FormulaTree) × IsWhole f) FormulaTree (λ e. e.0) y)) ≡ true
whole_level s (FormulaTree-F.True token) w h = refl
whole_level s (FormulaTree-F.False token) w h = refl
whole_level s (FormulaTree-F.Atom a) w h = refl
whole_level s (FormulaTree-F.Not token f) w h = f.1 s w h
whole_level s (FormulaTree-F.Knows token x f) w h =
    let parts = both-none (knower_uses token x s) (formula_uses f.0 s) h in
    f.1 s (both_right (formed_name x) (formed_formula f.0) w) parts.1
whole_level s (FormulaTree-F.Common token g f) w h =
    let parts = both-none (knowers_uses token g s) (formula_uses f.0 s) h in
    let knowers = both-none (at token (Knowledge s.knowledge)) (group_uses g s) parts.0 in
    (λ i. group_some g s knowers.1 i && f.1 s (both_right (formed_group g) (formed_formula f.0) w) parts.1 i)
whole_level s (FormulaTree-F.Forall token ps f) w h =
    let parts = both-none (param_uses 0 ps s) (formula_uses f.0 (with_params s ps)) h in
    f.1 (with_params s ps) (both_right (formed_params ps) (formed_formula f.0) w) parts.1
whole_level s (FormulaTree-F.Exists token ps f) w h =
    let parts = both-none (param_uses 0 ps s) (formula_uses f.0 (with_params s ps)) h in
    f.1 (with_params s ps) (both_right (formed_params ps) (formed_formula f.0) w) parts.1
whole_level s (FormulaTree-F.Equal token x y) w h = refl
whole_level s (FormulaTree-F.Paren token f) w h = f.1 s w h
whole_level s (FormulaTree-F.And token fs) w h =
    let n = nat_le 2 (length (map formed_formula (map (λ e. e.0) fs))) in
    let l = list_all is_true (map formed_formula (map (λ e. e.0) fs)) in
    (λ i. many fs (both_left n l w) i && parts_whole s fs (both_right n l w) h i)
whole_level s (FormulaTree-F.Or token fs) w h =
    let n = nat_le 2 (length (map formed_formula (map (λ e. e.0) fs))) in
    let l = list_all is_true (map formed_formula (map (λ e. e.0) fs)) in
    (λ i. many fs (both_left n l w) i && parts_whole s fs (both_right n l w) h i)

whole_rolled : (x : FormulaTree-F FormulaTree) (y : FormulaTree-F ((f : FormulaTree) × IsWhole f)) → map-FormulaTree ((f : FormulaTree) × IsWhole f) FormulaTree (λ e. e.0) y ≡ x → IsWhole (roll-FormulaTree x)
whole_rolled x y e = subst (λ (x : FormulaTree-F FormulaTree). IsWhole (roll-FormulaTree x)) e (λ s w h.
    let z = map-FormulaTree ((f : FormulaTree) × IsWhole f) FormulaTree (λ e. e.0) y in
    whole-roll z
    ∙ whole_level s y (sym (fold-roll-FormulaTree Bool formed_layer z) ∙ w) (sym (ap (λ u. first_fault (u s)) (fold-roll-FormulaTree (Scope → Uses) production z)) ∙ h))

pub whole : (f : FormulaTree) → IsWhole f
whole = ind-FormulaTree IsWhole whole_rolled
