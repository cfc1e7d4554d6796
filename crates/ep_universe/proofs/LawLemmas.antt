-- The laws of typing and grounding.
use Rattle.std.proofs.Common.{◌≡◌, ℕ, suc, ◌<◌, true, List, [], ◌∷◌, Some, length, get_or, refl, ap, sym, ◌∙◌, subst, arith}
use Rattle.std.specs.Prelude.{◌==◌, Contains}
use Rattle.std.proofs.lemmas.List.Folds.{list_any_at}
use Rattle.ep_logic.specs.Numbers.{has_number}
use Rattle.ep_tree.specs.declared.tree.TaskTree.{TaskTree}
use Rattle.ep_types.specs.Names.{Text, declared, is_below}
use Rattle.ep_types.specs.Places.{closed}
use Rattle.ep_types.specs.Tasks.{HasNoFault, declarations}
use Rattle.ep_types.specs.declared.scope.Declared.{Declared}
use Rattle.ep_universe.specs.Objects.{candidates}
use Rattle.ep_universe.specs.Typing.{StandsFor, Suits, FormulasFit, AtomsStand, AgentsStand, BindingsSuit, FormulasBuild}
use Rattle.ep_universe.proofs.BindingLemmas.{HasEach, itself}
use Rattle.ep_tree.proofs.CallerLemmas.{nested_formula}
use Rattle.ep_universe.proofs.SizeLemmas.{whole}
use Rattle.ep_universe.proofs.TypeOrder.{below_trans}
use Rattle.ep_universe.proofs.TypingLemmas.{formula_fits, atom_stands, agent_stands, bound_suits}

in_order : (t : TaskTree) → HasNoFault t → (d : Declared) → d ≡ declarations t → (x y z : Text) → is_below d.types x y ≡ true → is_below d.types y z ≡ true → is_below d.types x z ≡ true
in_order t h d e =
    subst (λ (c : Declared). (x y z : Text) → is_below c.types x y ≡ true → is_below c.types y z ≡ true → is_below c.types x z ≡ true) (sym e) (below_trans t h)

pub formulas_fit : FormulasFit
formulas_fit t h s b e suits f fine = formula_fits s.names (in_order t h s.names e) f s.params s.knowledge b suits fine

pub atoms_stand : AtomsStand
atoms_stand t h s b e suits a fine = atom_stands s.names (in_order t h s.names e) s.params s.knowledge b suits a fine

pub agents_stand : AgentsStand
agents_stand t h s b e suits x fine = agent_stands s.names (in_order t h s.names e) s.params s.knowledge b suits x fine

among : (c : List ℕ) (o : ℕ) → Contains c o → has_number c o ≡ true
among c o h = list_any_at (λ y. y == o) c h.0 o h.1 (ap (λ y. y == o) h.2 ∙ itself o)

each_of : (cs : List (List ℕ)) (os : List ℕ) → length os ≡ length cs → ((i : ℕ) → i < length cs → Contains (get_or cs i []) (get_or os i 0)) → HasEach cs os
each_of [] [] e h = tt
each_of [] (o ∷ os) e h = absurd (omega arith)
each_of (c ∷ cs) [] e h = absurd (omega arith)
each_of (c ∷ cs) (o ∷ os) e h = (among c o (h 0 (omega arith)), each_of cs os (omega arith) (λ i l. h (suc i) (omega arith)))

pub suits : BindingsSuit
suits d params objects h = bound_suits d true params objects (each_of (candidates d params) objects h.long h.each)

pub build : FormulasBuild
build d s f formed shallow fine small =
    record { whole = whole f s formed fine; nodes = small; nested = nested_formula f shallow }

-- where no parameter is in force nothing is bound
pub nothing_bound : (d : Declared) → Suits (closed d) []
nothing_bound d = record { params = λ x kind e. none_of x kind e; others = λ x e. refl }
  where
    none_of : (x kind : Text) → declared x [] ≡ Some kind → StandsFor d [] x kind
    none_of x kind e = absurd (cc)
