-- What `check` answers for its ground task.
use Rattle.std.specs.Prelude.{◌≡◌, length}
use Rattle.ep_layout.specs.Layout.{layout_of}
use Rattle.ep_types.specs.Tasks.{declarations}
use Rattle.ep_ground.specs.Task.{GroundTask}
use Rattle.ep_answer.specs.declared.answer.Answer.TheVariants.{Checked}
use Rattle.ep_answer.specs.declared.answer.Counts.{Counts}
use Rattle.ep_reading.specs.Served.{Ending, answers}

abbrev pub counts_of : GroundTask → Counts
counts_of g = record {
  agents = length g.agents;
  objects = length (declarations g.tree).objects;
  atoms = length g.atoms;
  actions = length g.actions;
  worlds = g.problem.initial.worlds;
}

-- the numbers of the ground task, and the layout of the task
abbrev pub Checks : GroundTask → Ending → Type 0
Checks g outcome = outcome ≡ answers (Checked (counts_of g) (layout_of g.tree))
