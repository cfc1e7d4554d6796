-- What is written of the tokens of a tree is their layout.
use Rattle.std.proofs.Common.{◌≡◌, ℕ, Bool, true, false, ◌||◌, List, [], ◌∷◌, ◌++◌, Result, Ok, Err, IfOk, refl, ap, ◌∙◌, append_assoc}
use Rattle.std.specs.Prelude.{if◌then◌else◌}
use Rattle.ep_layout.specs.declared.printer.Last.TheVariants.{Nothing, Semicolon, Other}
use Rattle.ep_base.specs.declared.memory.OutOfMemory.{OutOfMemory}
use Rattle.ep_tree.specs.declared.tree.TaskTree.{TaskTree}
use Rattle.ep_tree.specs.Marks.{Mark, texts}
use Rattle.ep_tree.specs.Spelling.{task}
use Rattle.ep_layout.specs.Layout.{starts_line, is_semicolon, gap, laid_behind, laid_out, layout_of}
use Rattle.ep_layout.specs.Printing.{Printed, gap_behind, last_of, write, written}

gap_behind-last_of : (first second : List ℕ) → gap_behind (last_of first) second ≡ gap first second ∷ []
gap_behind-last_of first second = by_test (is_semicolon first)
  where
    by_test : (b : Bool) → gap_behind (if b then Semicolon else Other) second ≡ (if b || starts_line second then 10 else 32) ∷ []
    by_test true = refl
    by_test false = refl

written_behind : (p : Printed) (first : List ℕ) (ms : List Mark) → p.last ≡ last_of first → (written p ms).bytes ++ 10 ∷ [] ≡ p.bytes ++ laid_behind first (texts ms)
unfolding write
written_behind p first [] e = refl
written_behind p first (m ∷ ms) e =
    written_behind (write p m.text) m.text ms refl
    ∙ ap (λ z. (p.bytes ++ (z ++ m.text)) ++ laid_behind m.text (texts ms)) (ap (λ z. gap_behind z m.text) e ∙ gap_behind-last_of first m.text)
    ∙ append_assoc p.bytes (gap first m.text ∷ m.text) (laid_behind m.text (texts ms))

-- with a line feed at the end
pub written-laid_out : (ms : List Mark) → (written (record { bytes = []; last = Nothing }) ms).bytes ++ 10 ∷ [] ≡ laid_out (texts ms)
unfolding write
written-laid_out [] = refl
written-laid_out (m ∷ ms) = written_behind (write (record { bytes = []; last = Nothing }) m.text) m.text ms refl

-- the text of a printer that has written a task
pub laid_out-task : (tree : TaskTree) (start end : Printed) (r : Result (List ℕ) OutOfMemory) → start ≡ record { bytes = []; last = Nothing } → end ≡ written start (task tree)
    → IfOk r (λ text. text ≡ end.bytes ++ 10 ∷ []) → IfOk r (λ text. text ≡ layout_of tree)
laid_out-task tree start end (Ok text) s e f =
    f ∙ ap (λ z. z.bytes ++ 10 ∷ []) (e ∙ ap (λ z. written z (task tree)) s) ∙ written-laid_out (task tree)
laid_out-task tree start end (Err x) s e f = tt
