-- Reading as a function on lists of tokens: the value, the place behind it and the tokens from there, or the first fault.
use Rattle.std.specs.Prelude.{ℕ, zero, suc, ◌+◌, ◌==◌, nat_le, Bool, true, false, ◌&&◌, ◌||◌, not, if◌then◌else◌, List, [], ◌∷◌, length, drop, Option, Some, None, Result, Ok, Err}
use Rattle.std.specs.Str.Parse.{digits_value}
use Rattle.ep_lex.specs.declared.token.TokenKind.TheVariants as kind
use Rattle.ep_lex.specs.declared.token.PieceKind.TheVariants as piece
use Rattle.ep_lex.specs.Pieces.{is_piece}
use Rattle.ep_tree.specs.declared.terminal.Terminal.{Terminal}
use Rattle.ep_tree.specs.declared.terminal.Terminal.TheVariants as the
use Rattle.ep_tree.specs.declared.tree.Name.{Name}
use Rattle.ep_tree.specs.Terminals.{is, is_name}

-- a token, by its bytes
abbrev pub Token : Type 0
Token = List ℕ

pub data Fault : Type 0 where
  Syntax : ℕ → Fault
  TooDeep : ℕ → Fault

abbrev pub Read : Type 0 → Type 0
Read A = Result (A × ℕ × List Token) Fault

-- the place of the next token, and the tokens from there
abbrev pub Reader : Type 0 → Type 0
Reader A = ℕ → List Token → Read A

abbrev pub paired : {A B : Type 0} → A → Read B → Read (A × B)
paired a (Ok y) = Ok ((a, y.0), y.1, y.2)
paired a (Err e) = Err e

abbrev pub seq : {A B : Type 0} → Read A → Reader B → Read (A × B)
seq (Ok x) q = paired x.0 (q x.1 x.2)
seq (Err e) q = Err e

abbrev pub made : {A B : Type 0} → (A → B) → Read A → Read B
made f (Ok x) = Ok (f x.0, x.1, x.2)
made f (Err e) = Err e

-- ---- tokens

-- the first token passes the test
abbrev pub heads : (Token → Bool) → List Token → Bool
heads test [] = false
heads test (t ∷ ts) = test t

-- the first token
abbrev pub first_token : List Token → Option Token
first_token [] = None
first_token (t ∷ ts) = Some t

abbrev pub begins : Terminal → List Token → Bool
begins t ts = heads (is t) ts

-- the token, and its place as the value
abbrev pub key : Terminal → Reader ℕ
key t n ts = if begins t ts then Ok (n, n + 1, drop 1 ts) else Err (Syntax n)

abbrev pub name_begins : List Token → Bool
name_begins ts = heads is_name ts

abbrev pub name_at : ℕ → List Token → Read Name
name_at n [] = Err (Syntax n)
name_at n (t ∷ ts) = Ok (record { token = n; text = t }, n + 1, ts)

abbrev pub name : Reader Name
name n ts = if name_begins ts then name_at n ts else Err (Syntax n)

-- ---- counts

-- there is no zero in front of other digits
abbrev pub is_unpadded : Token → Bool
is_unpadded [] = false
is_unpadded (d ∷ ds) = not (d == 48) || length ds == 0

-- a number of at most 9 digits, without a leading zero but `0` itself
abbrev pub is_count : Token → Bool
is_count token = is_piece (piece.Spelling kind.Number) token && is_unpadded token

-- a count whose value is at least the first and at most the second
abbrev pub is_count_within : ℕ → ℕ → Token → Bool
is_count_within least most token = is_count token && (nat_le least (digits_value 10 token) && nat_le (digits_value 10 token) most)

abbrev pub count_at : ℕ → List Token → Read ℕ
count_at n [] = Err (Syntax n)
count_at n (t ∷ ts) = Ok (digits_value 10 t, n + 1, ts)

-- a number that passes the test
abbrev pub number_by : (Token → Bool) → Reader ℕ
number_by test n ts = if heads test ts then count_at n ts else Err (Syntax n)

abbrev pub count : Reader ℕ
count n ts = number_by is_count n ts

abbrev pub count_within : ℕ → ℕ → Reader ℕ
count_within least most n ts = number_by (is_count_within least most) n ts

-- ---- lists

abbrev pub front : {A : Type 0} → A × List A → List A
front p = p.0 ∷ p.1

-- { item }, where an item begins with a token that passes the test
unfoldable pub each_by : {A : Type 0} → ℕ → (Token → Bool) → Reader A → Reader (List A)
each_by zero test item n ts = Ok ([], n, ts)
each_by (suc fuel) test item n ts =
    if heads test ts then made front (seq (item n ts) (each_by fuel test item)) else Ok ([], n, ts)

abbrev pub each : {A : Type 0} → (Token → Bool) → Reader A → Reader (List A)
each test item n ts = each_by (length ts) test item n ts

abbrev pub second : {A : Type 0} → ℕ × A → A
second p = p.1

-- t item
abbrev pub behind_key : {A : Type 0} → Terminal → Reader A → Reader A
behind_key t item n ts = made second (seq (key t n ts) item)

-- item { t item }
abbrev pub listed : {A : Type 0} → Terminal → Reader A → Reader (List A)
listed t item n ts = made front (seq (item n ts) (each (is t) (behind_key t item)))

abbrev pub inner_of : {A : Type 0} → (ℕ × A) × ℕ → A
inner_of p = p.0.1

-- item { item }
abbrev pub some_each : {A : Type 0} → (Token → Bool) → Reader A → Reader (List A)
some_each test item n ts = made front (seq (item n ts) (each test item))

-- left item right
abbrev pub within : {A : Type 0} → Terminal → Reader A → Terminal → Reader A
within left item right n ts = made inner_of (seq (seq (key left n ts) item) (key right))

-- [ item { t item } ], where an item begins with a token that passes the test
abbrev pub any_listed : {A : Type 0} → (Token → Bool) → Terminal → Reader A → Reader (List A)
any_listed test t item n ts = if heads test ts then listed t item n ts else Ok ([], n, ts)

-- [ t item ]
abbrev pub optional : {A : Type 0} → Terminal → Reader A → Reader (Option A)
optional t item n ts = if begins t ts then made Some (behind_key t item n ts) else Ok (None, n, ts)

-- whether an item stands here, which begins with the terminal
abbrev pub flag : {A : Type 0} → Terminal → Reader A → Reader Bool
flag t item n ts = if begins t ts then made (λ _. true) (item n ts) else Ok (false, n, ts)

-- '{' item '}'
abbrev pub braced : {A : Type 0} → Reader A → Reader A
braced item n ts = within the.OpenBrace item the.CloseBrace n ts

-- nothing is left
abbrev pub end : Reader (Unit {0})
end n [] = Ok (tt, n, [])
end n (t ∷ ts) = Err (Syntax n)

abbrev pub first_of : {A B : Type 0} → A × B → A
first_of p = p.0

-- the value, and nothing behind it
abbrev pub whole : {A : Type 0} → Reader A → Reader A
whole p n ts = made first_of (seq (p n ts) end)
