-- The text of a plan: its lines in order, each with a line feed.
use Rattle.std.specs.Prelude.{ℕ, List, [], ◌∷◌, ◌++◌, length, map, slice_index_or, codes}
use Rattle.std.specs.Fmt.{decimal}
use Rattle.ep_base.specs.Texts.{lines}
use Rattle.ep_bounds.specs.declared.bounds.Measure.{Measure}
use Rattle.ep_bounds.specs.declared.bounds.Measure.TheVariants.{Length, Cost}
use Rattle.ep_logic.specs.declared.ids.ActionId.{ActionId}
use Rattle.ep_types.specs.Names.{Text}
use Rattle.ep_theory.specs.Plans.{weight}
use Rattle.ep_ground.specs.Task.{GroundTask}
use Rattle.ep_plan_text.specs.declared.print.Mark.{Mark}
use Rattle.ep_plan_text.specs.declared.print.Mark.TheVariants.{Plain, Least, Found}

-- the version of plan files that a plan of this measure is printed in
abbrev pub version_line : Measure → Text
version_line Length = codes "plan 1"
version_line Cost = codes "plan 2"

-- no plan measures less
abbrev pub least_line : Measure → Text
least_line Length = codes "# shortest"
least_line Cost = codes "# cheapest"

-- the line that tells what is known of the plan, if one does
abbrev pub mark_lines : Measure → Mark → List Text
mark_lines measure Plain = []
mark_lines measure Least = least_line measure ∷ []
mark_lines measure Found = codes "# found" ∷ []

-- the line of the cost, in version 2
abbrev pub cost_lines : Measure → ℕ → List Text
cost_lines Length cost = []
cost_lines Cost cost = (codes "cost " ++ decimal cost) ∷ []

abbrev pub action_name : GroundTask → ActionId → Text
action_name g a = slice_index_or g.actions a.n []

-- the number of actions, their names and the end
abbrev pub action_lines : GroundTask → List ActionId → List Text
action_lines g plan = (codes "actions " ++ decimal (length plan)) ∷ (map (action_name g) plan ++ codes "end" ∷ [])

abbrev pub plan_lines : GroundTask → Measure → Mark → List ActionId → List Text
plan_lines g measure mark plan =
    version_line measure
    ∷ (codes "task " ++ g.tree.name.text)
    ∷ (mark_lines measure mark ++ (cost_lines measure (weight g.problem Cost plan) ++ action_lines g plan))

-- the text of a plan of a ground task
abbrev pub plan_text : GroundTask → Measure → Mark → List ActionId → Text
plan_text g measure mark plan = lines (plan_lines g measure mark plan)
