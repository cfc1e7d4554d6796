-- The law of the reader of tasks.
use Rattle.std.proofs.Common.{◌≡◌, ℕ, Bool, false, List, [], ◌∷◌, ◌++◌, Option, Some, None, refl, append_assoc}
use Rattle.std.specs.List.{flat_map}
use Rattle.ep_tree.specs.declared.terminal.Terminal.TheVariants as the
use Rattle.ep_tree.specs.declared.tree.TaskTree.{TaskTree}
use Rattle.ep_tree.specs.declared.tree.TypeTree.{TypeTree}
use Rattle.ep_tree.specs.declared.tree.InitTree.TheVariants.{Lawful}
use Rattle.ep_tree.specs.declared.tree.FormulaTree.TheVariants as tree
use Rattle.ep_tree.specs.Grammar.{Grammar, tasks}
use Rattle.ep_tree.specs.Marks.{Mark, fixed, named, texts}
use Rattle.ep_tree.specs.Terminals.{is}
use Rattle.ep_reader.specs.Reading.{Token, whole}
use Rattle.ep_tree.specs.Spelling as spell
use Rattle.ep_syntax.specs.TaskReading.{frames_line, frames, Declarations, declarations, task}
use Rattle.ep_syntax.proofs.ActionLaws.{schemas_part}
use Rattle.ep_syntax.proofs.DeclarationLaws.{types_of, types_part, objects_one, objects_part, fluents_part}
use Rattle.ep_syntax.proofs.InitialLaws.{statement_part, init_part}
use Rattle.ep_syntax.proofs.Layers.{some_formula}
use Rattle.ep_reader.proofs.CallerLemmas.{both, Outcome, each_of, behind_of, Reads, Part, Any, Lacks, Next, pair, then, made_all, next_lacks, plain, plain_reads, plain_part, names_one, name_part, some_name, braced_of, IsFlag, flag_part, IsEmpty, whole_outcome}

abbrev frames_of : Grammar Bool
frames_of = record { marks = spell.frames; IsFormed = λ _. Unit {0}; bare = λ b. b }

abbrev frames_lines : Grammar ((ℕ × ℕ) × ℕ)
frames_lines = both (both (plain the.Frames) (plain the.S5)) (plain the.Semicolon)

frames_line_part : Part frames_lines Any frames_line
frames_line_part = record { reads = λ n ts. then (then (plain_reads the.Frames n ts) (plain_part the.S5)) (plain_part the.Semicolon); value = ((0, 0), 0); formed = ((tt, tt), tt) }

frames_flag : IsFlag the.Frames frames_lines frames_of
frames_flag = record { no = refl; yes = λ _. refl; starts = λ _. refl; formed = λ _. tt; bare = λ _. refl }

frames_part : Part frames_of (Lacks (is the.Frames)) frames
unfolding frames
frames_part = flag_part the.Frames frames_lines frames_of frames_flag (Lacks (is the.Frames)) frames_line frames_line_part (λ _ s. s)

behind_frames : (ts : Option (List TypeTree)) (after : List Token) → types_of.IsFormed ts → Next the.Objects after → Lacks (is the.Frames) (texts (spell.types ts) ++ after)
behind_frames None after f s = next_lacks the.Objects (is the.Frames) refl after s
behind_frames (Some ts) after f s = refl

abbrev declarations_of : Grammar Declarations
declarations_of = both (both (both (both (both (plain the.Task) names_one) (plain the.Semicolon)) frames_of) types_of) (behind_of the.Objects (braced_of (each_of objects_one)))

declarations_reads : (n : ℕ) (ts : List Token) → Reads declarations_of Any n ts (declarations n ts)
unfolding declarations
declarations_reads n ts = pair (pair (then (then (then (plain_reads the.Task n ts) name_part) (plain_part the.Semicolon)) frames_part) types_part behind_frames) objects_part (λ _ _ _ _. refl)

some_task : TaskTree
some_task = record {
  name = some_name;
  s5 = false;
  types = None;
  objects = [];
  fluents = [];
  init = Lawful [] None (tree.True 0) [] (tree.True 0);
  schemas = [];
  goal = tree.True 0;
}

regroup : (a b c : Mark) (s ts os fs i ss g : List Mark) → a ∷ b ∷ c ∷ (s ++ (ts ++ (os ++ (fs ++ (i ++ (ss ++ g)))))) ≡ (((((((a ∷ b ∷ c ∷ []) ++ s) ++ ts) ++ os) ++ fs) ++ i) ++ ss) ++ g
regroup a b c s ts os fs i ss g = simp append_assoc

pub task_part : Part tasks Any task
unfolding task some_task
task_part = record {
  reads = λ n ts. made_all
      (record {
        marks = λ a _. regroup (fixed the.Task) (named a.0.0.0.0.0.0.0.0.1) (fixed the.Semicolon) (spell.frames a.0.0.0.0.0.0.1) (spell.types a.0.0.0.0.0.1) (spell.objects a.0.0.0.0.1) (spell.fluents a.0.0.0.1) (spell.init a.0.0.1)
            (flat_map spell.schema a.0.1) (fixed the.Goal ∷ (spell.formula a.1 ++ fixed the.Semicolon ∷ []));
        formed = λ _ f. (f.0.0.0.0.0.0.0.0.1, f.0.0.0.0.0.1, f.0.0.0.0.1, f.0.0.0.1, f.0.0.1, f.0.1, f.1);
        bare = λ _. refl;
      })
      (λ b f. record {
        from = (((((((((0, b.name), 0), b.s5), b.types), b.objects), b.fluents), b.init), b.schemas), b.goal);
        formed = (((((((((tt, f.0), tt), tt), f.1), f.2), f.3), f.4), f.5), f.6);
        is = refl;
      })
      (pair (then (then (then (declarations_reads n ts) fluents_part) init_part) schemas_part) (statement_part the.Goal) (λ _ _ _ _. refl));
  value = some_task;
  formed = (refl, tt, tt, tt, (tt, tt, some_formula, tt, some_formula), tt, some_formula);
}

pub task_outcome : (ts : List Token) → Outcome tasks IsEmpty 0 ts (whole task 0 ts)
task_outcome ts = whole_outcome task_part tt ts
