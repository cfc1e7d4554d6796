-- How the fixed tokens are spelled, and what a name is.
use Rattle.std.specs.Prelude.{ℕ, Bool, ◌&&◌, not, List, [], ◌∷◌, codes}
use Rattle.std.specs.List.{list_any}
use Rattle.std.specs.Str.{bytes_eq}
use Rattle.ep_lex.specs.declared.token.TokenKind.TheVariants as kind
use Rattle.ep_lex.specs.declared.token.PieceKind.TheVariants as piece
use Rattle.ep_lex.specs.Pieces.{is_piece}
use Rattle.ep_tree.specs.declared.terminal.Terminal.{Terminal}
use Rattle.ep_tree.specs.declared.terminal.Terminal.TheVariants as the

abbrev pub text_of : Terminal → List ℕ
text_of the.Task = codes "task"
text_of the.Frames = codes "frames"
text_of the.Types = codes "types"
text_of the.Objects = codes "objects"
text_of the.Fluents = codes "fluents"
text_of the.Init = codes "init"
text_of the.World = codes "world"
text_of the.Designated = codes "designated"
text_of the.Links = codes "links"
text_of the.All = codes "all"
text_of the.Same = codes "same"
text_of the.Vary = codes "vary"
text_of the.Facts = codes "facts"
text_of the.Law = codes "law"
text_of the.Sees = codes "sees"
text_of the.Action = codes "action"
text_of the.Distinct = codes "distinct"
text_of the.Cost = codes "cost"
text_of the.Announce = codes "announce"
text_of the.Private = codes "private"
text_of the.To = codes "to"
text_of the.Sense = codes "sense"
text_of the.By = codes "by"
text_of the.Assign = codes "assign"
text_of the.When = codes "when"
text_of the.Event = codes "event"
text_of the.Pre = codes "pre"
text_of the.Goal = codes "goal"
text_of the.True = codes "true"
text_of the.False = codes "false"
text_of the.Not = codes "not"
text_of the.And = codes "and"
text_of the.Or = codes "or"
text_of the.Knows = codes "knows"
text_of the.Common = codes "common"
text_of the.Forall = codes "forall"
text_of the.Exists = codes "exists"
text_of the.After = codes "after"
text_of the.Plan = codes "plan"
text_of the.Actions = codes "actions"
text_of the.End = codes "end"
text_of the.Becomes = codes ":="
text_of the.Arrow = codes "->"
text_of the.OpenBrace = codes "{"
text_of the.CloseBrace = codes "}"
text_of the.OpenParen = codes "("
text_of the.CloseParen = codes ")"
text_of the.Comma = codes ","
text_of the.Semicolon = codes ";"
text_of the.Colon = codes ":"
text_of the.Less = codes "<"
text_of the.Equals = codes "="
text_of the.S5 = codes "s5"
text_of the.One = codes "1"
text_of the.Two = codes "2"

abbrev pub reserved : List Terminal
reserved =
    the.Task ∷ the.Frames ∷ the.Types ∷ the.Objects ∷ the.Fluents ∷ the.Init ∷ the.World ∷ the.Designated ∷
    the.Links ∷ the.All ∷ the.Same ∷ the.Vary ∷ the.Facts ∷ the.Law ∷ the.Sees ∷ the.Action ∷ the.Distinct ∷
    the.Cost ∷ the.Announce ∷ the.Private ∷ the.To ∷ the.Sense ∷ the.By ∷ the.Assign ∷ the.When ∷ the.Event ∷
    the.Pre ∷ the.Goal ∷ the.True ∷ the.False ∷ the.Not ∷ the.And ∷ the.Or ∷ the.Knows ∷ the.Common ∷
    the.Forall ∷ the.Exists ∷ the.After ∷ the.Plan ∷ the.Actions ∷ the.End ∷ []

-- the word is one of the reserved words
abbrev pub is_reserved : List ℕ → Bool
is_reserved word = list_any (λ t. bytes_eq word (text_of t)) reserved

-- a word that is not reserved
abbrev pub is_name : List ℕ → Bool
is_name text = is_piece (piece.Spelling kind.Word) text && not (is_reserved text)

-- the word is the terminal's
abbrev pub is : Terminal → List ℕ → Bool
is t word = bytes_eq word (text_of t)
