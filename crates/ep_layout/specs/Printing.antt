-- What a printer has written, token by token.
use Rattle.std.specs.Prelude.{ℕ, if◌then◌else◌, List, [], ◌∷◌, ◌++◌}
use Rattle.ep_layout.specs.declared.printer.Last.{Last}
use Rattle.ep_layout.specs.declared.printer.Last.TheVariants.{Nothing, Semicolon, Other}
use Rattle.ep_tree.specs.Marks.{Mark}
use Rattle.ep_layout.specs.Layout.{starts_line, is_semicolon}

-- the bytes so far, and the last token
pub record Printed : Type 0 where
  pub bytes : List ℕ
  pub last : Last

abbrev pub gap_behind : Last → List ℕ → List ℕ
gap_behind Nothing token = []
gap_behind Semicolon token = 10 ∷ []
gap_behind Other token = (if starts_line token then 10 else 32) ∷ []

abbrev pub last_of : List ℕ → Last
last_of token = if is_semicolon token then Semicolon else Other

-- one more token
unfoldable pub write : Printed → List ℕ → Printed
write p token = record { bytes = p.bytes ++ (gap_behind p.last token ++ token); last = last_of token }

abbrev pub written : Printed → List Mark → Printed
written p [] = p
written p (m ∷ ms) = written (write p m.text) ms
