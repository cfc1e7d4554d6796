-- The layout of a task: its tokens in order, with one blank or one line feed between neighbours.
use Rattle.std.specs.Prelude.{ℕ, Bool, ◌||◌, if◌then◌else◌, List, [], ◌∷◌, ◌++◌}
use Rattle.std.specs.List.{list_any}
use Rattle.std.specs.Str.{bytes_eq}
use Rattle.ep_lex.specs.declared.token.Token.{Token}
use Rattle.ep_lex.specs.Tokens.{AreTokens, spellings}
use Rattle.ep_tree.specs.declared.terminal.Terminal.{Terminal}
use Rattle.ep_tree.specs.declared.terminal.Terminal.TheVariants as the
use Rattle.ep_tree.specs.declared.tree.TaskTree.{TaskTree}
use Rattle.ep_tree.specs.Terminals.{text_of}
use Rattle.ep_tree.specs.Grammar.{tasks, spelling_of, Reads}

-- the words that begin a line
abbrev pub line_starts : List Terminal
line_starts =
    the.Frames ∷ the.Types ∷ the.Objects ∷ the.Fluents ∷ the.Init ∷ the.World ∷ the.Vary ∷ the.Facts ∷ the.Law ∷
    the.Sees ∷ the.Designated ∷ the.Links ∷ the.Action ∷ the.Event ∷ the.Goal ∷ []

abbrev pub starts_line : List ℕ → Bool
starts_line token = list_any (λ t. bytes_eq token (text_of t)) line_starts

abbrev pub is_semicolon : List ℕ → Bool
is_semicolon token = bytes_eq token (text_of the.Semicolon)

-- what stands between two neighbours: a line feed or a space
abbrev pub gap : List ℕ → List ℕ → ℕ
gap first second = if is_semicolon first || starts_line second then 10 else 32

-- tokens behind a first one, and the line feed at the end
abbrev pub laid_behind : List ℕ → List (List ℕ) → List ℕ
laid_behind first [] = 10 ∷ []
laid_behind first (second ∷ more) = gap first second ∷ (second ++ laid_behind second more)

abbrev pub laid_out : List (List ℕ) → List ℕ
laid_out [] = 10 ∷ []
laid_out (first ∷ more) = first ++ laid_behind first more

-- the layout of a task
abbrev pub layout_of : TaskTree → List ℕ
layout_of tree = laid_out (spelling_of tasks tree)

-- The tree `found` reads the tokens of the layout of a task.
pub record ReadsLayout (tree found : TaskTree) : Type 0 where
  pub tokens : List Token
  pub are_tokens : AreTokens (layout_of tree) tokens
  pub reads : Reads tasks (spellings (layout_of tree) tokens) found
