-- Names of worlds or events that were read and have no fault: they differ, and their ends and links are few.
use Rattle.std.proofs.Common.{◌≡◌, ◌≢◌, ℕ, zero, suc, ◌+◌, ◌<◌, ◌≤◌, Bool, true, false, ◌||◌, None, List, [], ◌∷◌, ◌++◌, length, map, get_or, All, sym, subst, arith, append_assoc, append-nil}
use Rattle.std.specs.List.{flat_map}
use Rattle.std.specs.Cmp.Lexicographic.{bytes_decides}
use Rattle.std.proofs.lemmas.List.{length-append}
use Rattle.std.proofs.lemmas.List.Elements.{All-nil, All-cons}
use Rattle.std.proofs.lemmas.List.Quantifiers.{all_pairs_push}
use Rattle.ep_binding.specs.Bindings.{IsApart}
use Rattle.ep_binding.proofs.CallerLemmas.{pairs-nil}
use Rattle.ep_lex.specs.declared.limits.TheConstants.{MOST_TOKENS}
use Rattle.ep_logic.specs.declared.limits.TheConstants.{MOST_INITIAL_WORLDS}
use Rattle.ep_tree.specs.Formed.{OneOrMore, IsFormedName}
use Rattle.ep_tree.specs.Marks.{Mark, fixed, named}
use Rattle.ep_tree.specs.Spelling as spell
use Rattle.ep_tree.specs.declared.terminal.Terminal.TheVariants as the
use Rattle.ep_tree.specs.declared.tree.LinkTree.{LinkTree}
use Rattle.ep_tree.specs.declared.tree.Name.{Name}
use Rattle.ep_tree.specs.declared.tree.PairTree.{PairTree}
use Rattle.ep_tree.specs.declared.tree.PairsTree.{PairsTree}
use Rattle.ep_tree.specs.declared.tree.PairsTree.TheVariants as pairs
use Rattle.ep_types.specs.Faults.{first_fault, first_row, table}
use Rattle.ep_types.specs.Names.{Text, is_among, is_text}
use Rattle.ep_types.specs.Places.{at, NewName}
use Rattle.ep_types.specs.declared.fault.TypeFault.TheVariants.{Duplicate}
use Rattle.ep_universe.specs.Links.{AreEnds, AreFewPairs}
use Rattle.ep_universe.proofs.TypedLemmas.{located-none, row-none}

-- ---- fresh names

abbrev pub IsFresh : List Text → List Text → Type 0
IsFresh taken [] = Unit {0}
IsFresh taken (x ∷ xs) = (is_among x taken ≡ false) × IsFresh (taken ++ x ∷ []) xs

lacks : (x : Text) (taken : List Text) → is_among x taken ≡ false → (k : ℕ) (d : Text) → k < length taken → get_or taken k d ≢ x
lacks x [] h k d l = λ e. absurd (omega arith)
lacks x (y ∷ ys) h zero d l = λ e. neither (is_text x y) (is_among x ys) h ((bytes_decides x y).1 (sym e))
  where
    neither : (a b : Bool) → (a || b) ≡ false → a ≡ true → ⊥
    neither true b p q = cc
    neither false b p q = cc
lacks x (y ∷ ys) h (suc k) d l = lacks x ys (rest (is_text x y) (is_among x ys) h) k d (omega arith)
  where
    rest : (a b : Bool) → (a || b) ≡ false → b ≡ false
    rest true b p = cc
    rest false b p = p

apart-fresh : (taken xs : List Text) → IsApart taken → IsFresh taken xs → IsApart (taken ++ xs)
apart-fresh taken [] h f = subst IsApart (sym (append-nil taken)) h
apart-fresh taken (x ∷ xs) h f =
    subst IsApart (append_assoc taken (x ∷ []) xs) (apart-fresh (taken ++ x ∷ []) xs (all_pairs_push (λ y z. y ≢ z) taken x h (lacks x taken f.0)) f.1)

pub fresh-apart : (xs : List Text) → IsFresh [] xs → IsApart xs
fresh-apart xs f = apart-fresh [] xs (pairs-nil (λ y z. y ≢ z)) f

pub new-name : (t : ℕ) (x : Text) (taken : List Text) → first_fault (at t (NewName x taken)) ≡ None → is_among x taken ≡ false
new-name t x taken h = (row-none (is_among x taken) Duplicate _ (located-none t (first_row (table (NewName x taken))) h)).0

-- ---- as many tokens at least

pub long-left : (xs ys : List Mark) (n : ℕ) → length (xs ++ ys) ≤ n → length xs ≤ n
long-left xs ys n h = omega (arith, length-append xs ys, h)

pub long-right : (xs ys : List Mark) (n : ℕ) → length (xs ++ ys) ≤ n → length ys ≤ n
long-right xs ys n h = omega (arith, length-append xs ys, h)

later-names : (xs : List Name) → length xs ≤ length (spell.behind the.Comma (map (λ x. named x ∷ []) xs))
later-names [] = omega arith
later-names (x ∷ xs) = omega (arith, later-names xs)

long-names : (xs : List Name) → length xs ≤ length (spell.names xs)
long-names [] = omega arith
long-names (x ∷ xs) = omega (arith, later-names xs)

later-pairs : (ps : List PairTree) → length ps ≤ length (spell.behind the.Comma (map spell.pair ps))
later-pairs [] = omega arith
later-pairs (p ∷ ps) = omega (arith, later-pairs ps)

long-pairs : (ps : List PairTree) → length ps ≤ length (spell.between the.Comma (map spell.pair ps))
long-pairs [] = omega arith
long-pairs (p ∷ ps) = omega (arith, later-pairs ps)

few-pairs : (ps : PairsTree) → length (spell.pairs ps) ≤ MOST_TOKENS → AreFewPairs ps
few-pairs pairs.All h = tt
few-pairs pairs.Same h = tt
few-pairs (pairs.Listed ps) h =
    let inner = long-left (spell.between the.Comma (map spell.pair ps)) (fixed the.CloseBrace ∷ []) MOST_TOKENS (omega arith) in
    omega (arith, long-pairs ps, inner)

few-links : (ls : List LinkTree) → length (flat_map spell.link ls) ≤ MOST_TOKENS → All (λ l. AreFewPairs l.pairs) ls
few-links [] h = All-nil (λ (l : LinkTree). AreFewPairs l.pairs)
few-links (l ∷ ls) h =
    let here = long-left (spell.link l) (flat_map spell.link ls) MOST_TOKENS h in
    let inner = long-right (spell.group l.group) (spell.pairs l.pairs ++ fixed the.Semicolon ∷ []) MOST_TOKENS (omega arith) in
    All-cons (λ (l : LinkTree). AreFewPairs l.pairs) l ls
    (few-pairs l.pairs (long-left (spell.pairs l.pairs) (fixed the.Semicolon ∷ []) MOST_TOKENS inner))
    (few-links ls (long-right (spell.link l) (flat_map spell.link ls) MOST_TOKENS h))

pub some-item : {A : Type 0} (P : A → Type 0) (xs : List A) → OneOrMore P xs → 0 < length xs
some-item P [] h = absurd h
some-item P (x ∷ xs) h = omega arith

few-designated : (xs : List Name) → length (spell.designated xs) ≤ MOST_TOKENS → length xs ≤ MOST_TOKENS
few-designated xs h =
    let inner = long-left (spell.names xs) (fixed the.CloseBrace ∷ []) MOST_TOKENS (omega arith) in
    omega (arith, long-names xs, inner)

-- ---- ends

pub ends_built : (names : List Text) (designated : List Name) (links : List LinkTree) → 0 < length names → length names ≤ MOST_INITIAL_WORLDS → IsFresh [] names → OneOrMore IsFormedName designated →
    length (spell.designated designated ++ flat_map spell.link links) ≤ MOST_TOKENS → AreEnds names designated links
ends_built names designated links some few fresh formed long = record {
  some_name = some;
  few_names = few;
  apart = fresh-apart names fresh;
  some_designated = some-item IsFormedName designated formed;
  few_designated = few-designated designated (long-left (spell.designated designated) (flat_map spell.link links) MOST_TOKENS long);
  few_pairs = few-links links (long-right (spell.designated designated) (flat_map spell.link links) MOST_TOKENS long);
}
