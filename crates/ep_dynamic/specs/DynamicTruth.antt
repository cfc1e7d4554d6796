-- Truth of formulas that look ahead: the language of event models of van Ditmarsch, van der Hoek and Kooi, Dynamic
-- Epistemic Logic, chapter 6. That the formula has to hold whichever designated event happens, where the precondition
-- is true, and that designated worlds play no part, are this project's own.
use Rattle.std.specs.Prelude.{◌≡◌, ℕ, List, [], IsTrue, Some, slice_get, slice_index_or}
use Rattle.std.specs.List.{AllByRecursion}
use Rattle.ep_theory.specs.Rising.{IsIn}
use Rattle.ep_theory.specs.Kripke.{Kripke, atom_at, links_of}
use Rattle.ep_theory.specs.Walks.{IsWalk, last_of}
use Rattle.ep_theory.specs.Truth.{Either}
use Rattle.ep_theory.specs.Events.{EventModel}
use Rattle.ep_theory.specs.Product.{places, product_of}
use Rattle.ep_dynamic.specs.declared.node.DynNode.{DynNode}
use Rattle.ep_dynamic.specs.declared.node.DynNode.TheOpen.{DynNode-F}
use Rattle.ep_dynamic.specs.declared.node.DynNode.TheFolds.{rec-DynNode}

-- an action without events, for a number past the last action
abbrev pub no_action : EventModel
no_action = record { events = []; links = []; designated = [] }

-- the action of a number
abbrev pub action_at : List EventModel → ℕ → EventModel
action_at T a = slice_index_or T a no_action

-- one node at a world of a state, where `holds` says what its parts hold
abbrev pub dynamic_step : List EventModel → (X : Type 0) → (X → Kripke → ℕ → Type 0) → DynNode-F X → Kripke → ℕ → Type 0
dynamic_step T X holds DynNode-F.True S w = Unit {0}
dynamic_step T X holds DynNode-F.False S w = ⊥
dynamic_step T X holds (DynNode-F.Atom p) S w = IsTrue (atom_at S w p.n)
dynamic_step T X holds (DynNode-F.Not f) S w = holds f S w → ⊥
dynamic_step T X holds (DynNode-F.And fs) S w = AllByRecursion (λ f. holds f S w) fs
dynamic_step T X holds (DynNode-F.Or fs) S w = Either (λ f. holds f S w) fs
dynamic_step T X holds (DynNode-F.Knows a f) S w = (v : ℕ) → IsIn (w, v) (links_of S a.n) → holds f S v
dynamic_step T X holds (DynNode-F.Common g f) S w = (vs : List ℕ) → IsWalk S g w vs → holds f S (last_of w vs)
dynamic_step T X holds (DynNode-F.After a f) S w = (e i : ℕ) → IsIn e (action_at T a.n).designated →
    slice_get (places S (action_at T a.n)) i ≡ Some (w, e) → holds f (product_of S (action_at T a.n)) i

-- the formula, whose actions are those of the list, is true at the world
unfoldable pub DynTruth : List EventModel → Kripke → ℕ → DynNode → Type 0
DynTruth T S w f = rec-DynNode (Kripke → ℕ → Type 0) (λ X v holds x. dynamic_step T X holds x) f S w
