-- The tokens that a tree is spelled by, each with what the tree holds for it.
use Rattle.std.specs.Prelude.{◌≡◌, ℕ, zero, suc, ◌+◌, ◌≤◌, List, [], ◌∷◌, map, Option, Some, None, IfSome}
use Rattle.ep_tree.specs.declared.limits.TheConstants.{MOST_NESTING}
use Rattle.ep_tree.specs.declared.terminal.Terminal.{Terminal}
use Rattle.ep_tree.specs.declared.tree.Name.{Name}
use Rattle.ep_tree.specs.Terminals.{text_of}

-- A token of a spelling: the number that the tree holds for it, if it holds one, its bytes, and how deep
-- the formula that it begins stands, if it begins one: at nesting 1 where it stands in no other.
pub record Mark : Type 0 where
  pub number : Option ℕ
  pub text : List ℕ
  pub nesting : Option ℕ

abbrev pub fixed : Terminal → Mark
fixed t = record { number = None; text = text_of t; nesting = None }

-- the tree holds the number
abbrev pub held : ℕ → Terminal → Mark
held token t = record { number = Some token; text = text_of t; nesting = None }

-- it begins a formula of this nesting, and the tree holds the number
abbrev pub opening : ℕ → ℕ → Terminal → Mark
opening nesting token t = record { number = Some token; text = text_of t; nesting = Some nesting }

abbrev pub named : Name → Mark
named name = record { number = Some name.token; text = name.text; nesting = None }

abbrev pub texts : List Mark → List (List ℕ)
texts marks = map (λ m. m.text) marks

-- Each number is the place of its token, where the first token stands at `place`.
abbrev pub PlacedFrom : ℕ → List Mark → Type 0
PlacedFrom place [] = Unit {0}
PlacedFrom place (m ∷ ms) = IfSome m.number (λ token. token ≡ place) × PlacedFrom (place + 1) ms

-- no formula stands deeper than it may
abbrev pub IsShallow : List Mark → Type 0
IsShallow [] = Unit {0}
IsShallow (m ∷ ms) = IfSome m.nesting (λ nesting. nesting ≤ MOST_NESTING) × IsShallow ms

-- the nesting of the formula that token i begins, if it begins one
abbrev pub nesting_at : List Mark → ℕ → Option ℕ
nesting_at [] i = None
nesting_at (m ∷ ms) zero = m.nesting
nesting_at (m ∷ ms) (suc i) = nesting_at ms i
