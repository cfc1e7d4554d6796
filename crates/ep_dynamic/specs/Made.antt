-- The products that a formula needs which looks ahead. This project's own.
use Rattle.std.specs.Prelude.{ℕ, nat_lt, List, [], ◌∷◌, ◌++◌, Option, Some, None, if◌then◌else◌}
use Rattle.std.specs.Option.{option_or}
use Rattle.ep_kripke.specs.declared.limits.TheConstants.{MOST_WORLDS}
use Rattle.ep_theory.specs.Kripke.{Kripke}
use Rattle.ep_theory.specs.Events.{EventModel}
use Rattle.ep_theory.specs.Fits.{link_count}
use Rattle.ep_theory.specs.Product.{product_of}
use Rattle.ep_update.specs.Ahead.{openings}
use Rattle.ep_dynamic.specs.declared.node.DynNode.{DynNode}
use Rattle.ep_dynamic.specs.declared.node.DynNode.TheOpen.{DynNode-F}
use Rattle.ep_dynamic.specs.declared.node.DynNode.TheFolds.{fold-DynNode}
use Rattle.ep_dynamic.specs.declared.truths.TheConstants.{MOST_LINKS}
use Rattle.ep_dynamic.specs.declared.truths.DynFail.{DynFail}
use Rattle.ep_dynamic.specs.declared.truths.DynFail.TheVariants.{SpentWorlds, SpentLinks}
use Rattle.ep_dynamic.specs.DynamicTruth.{action_at}

-- the state where exactly the worlds are designated at which some designated event may happen
abbrev pub opened : Kripke → EventModel → Kripke
opened S A = record S { designated = openings S A }

-- the product and what is needed on it, where there is a world to designate
abbrev pub made_after : List ℕ → Kripke → (Kripke → List Kripke) → List Kripke
made_after [] P needs = []
made_after (w ∷ ws) P needs = P ∷ needs P

-- what each part needs, from left to right
abbrev pub made_by_all : List (Kripke → List Kripke) → Kripke → List Kripke
made_by_all [] S = []
made_by_all (needs ∷ rest) S = needs S ++ made_by_all rest S

-- one node, where each part says which products it needs on a state
abbrev pub made_step : List EventModel → DynNode-F (Kripke → List Kripke) → Kripke → List Kripke
made_step T DynNode-F.True S = []
made_step T DynNode-F.False S = []
made_step T (DynNode-F.Atom p) S = []
made_step T (DynNode-F.Not f) S = f S
made_step T (DynNode-F.And fs) S = made_by_all fs S
made_step T (DynNode-F.Or fs) S = made_by_all fs S
made_step T (DynNode-F.Knows a f) S = f S
made_step T (DynNode-F.Common g f) S = f S
made_step T (DynNode-F.After a f) S = made_after (openings S (action_at T a.n)) (product_of (opened S (action_at T a.n)) (action_at T a.n)) f

-- the products that the formula needs on the state, an outer one before those on it
unfoldable pub made : List EventModel → Kripke → DynNode → List Kripke
made T S f = fold-DynNode (Kripke → List Kripke) (made_step T) f S

-- the refusal of one product: its worlds come before its links
abbrev pub spent_by : Kripke → Option DynFail
spent_by P = if nat_lt MOST_WORLDS P.worlds then Some (SpentWorlds P.worlds) else (if nat_lt MOST_LINKS (link_count P) then Some (SpentLinks (link_count P)) else None)

-- the refusal of the first product that is too large
abbrev pub first_spent : List Kripke → Option DynFail
first_spent [] = None
first_spent (P ∷ Ps) = option_or (spent_by P) (first_spent Ps)
