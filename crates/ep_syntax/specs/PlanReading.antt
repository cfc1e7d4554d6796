-- How plan files are read.
use Rattle.std.specs.Prelude.{ℕ, if◌then◌else◌, List, Option, Some, None}
use Rattle.ep_tree.specs.declared.terminal.Terminal.{Terminal}
use Rattle.ep_tree.specs.declared.terminal.Terminal.TheVariants as the
use Rattle.ep_tree.specs.declared.tree.Name.{Name}
use Rattle.ep_tree.specs.declared.tree.CallTree.{CallTree}
use Rattle.ep_tree.specs.declared.tree.PlanTree.{PlanTree}
use Rattle.ep_syntax.specs.FormulaReading.{arguments}
use Rattle.ep_reader.specs.Reading.{Reader, seq, made, begins, key, name, count, each, behind_key}
use Rattle.ep_tree.specs.Terminals.{is_name}

-- ---- calls

abbrev pub call_of : Name × List Name → CallTree
call_of p = record { name = p.0; args = p.1 }

unfoldable pub call : Reader CallTree
call n ts = made call_of (seq (name n ts) arguments)

-- ---- plan files

-- version 'task' NAME
abbrev pub title : Terminal → Reader Name
title version n ts = behind_key version (behind_key the.Task name) n ts

-- the task, and its plan's cost in a file of version 2
abbrev pub Heading : Type 0
Heading = Name × Option ℕ

abbrev pub uncosted : Name → Heading
uncosted task = (task, None)

abbrev pub costed : Name × ℕ → Heading
costed p = (p.0, Some p.1)

-- '1' 'task' NAME, or '2' 'task' NAME 'cost' NUMBER
unfoldable pub heading : Reader Heading
heading n ts =
    if begins the.One ts then made uncosted (title the.One n ts)
    else made costed (seq (title the.Two n ts) (behind_key the.Cost count))

abbrev pub plan_of : ((((ℕ × Heading) × ℕ) × ℕ) × List CallTree) × ℕ → PlanTree
plan_of p = record { task = p.0.0.0.0.1.0; cost = p.0.0.0.0.1.1; count = p.0.0.1; calls = p.0.1 }

unfoldable pub plan : Reader PlanTree
plan n ts = made plan_of (seq (seq (seq (seq (seq (key the.Plan n ts) heading) (key the.Actions)) count) (each is_name call)) (key the.End))
