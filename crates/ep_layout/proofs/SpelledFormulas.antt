-- Each token of a well-formed formula is the spelling of one.
use Rattle.std.proofs.Common.{◌≡◌, ◌<◌, ◌^◌, ℕ, suc, Bool, true, false, ◌&&◌, List, [], ◌∷◌, ◌++◌, map, Option, Some, refl, sym, ap, ◌∙◌, subst, arith}
use Rattle.std.specs.Fmt.{decimal}
use Rattle.std.specs.List.{AllByRecursion, list_all, flat_map}
use Rattle.std.specs.Prelude.{nat_le, length}
use Rattle.std.proofs.lemmas.Bool.{false≢true}
use Rattle.std.proofs.lemmas.Bool.Decides.{nat_tests}
use Rattle.ep_lex.specs.declared.token.TokenKind.TheVariants as kind
use Rattle.ep_lex.specs.declared.token.PieceKind.TheVariants as piece
use Rattle.ep_lex.specs.Pieces.{is_letter, is_digit, is_word_byte, is_piece}
use Rattle.ep_tree.specs.declared.terminal.Terminal.{Terminal}
use Rattle.ep_tree.specs.declared.terminal.Terminal.TheVariants as the
use Rattle.ep_tree.specs.declared.tree.Name.{Name}
use Rattle.ep_tree.specs.declared.tree.AtomTree.{AtomTree}
use Rattle.ep_tree.specs.declared.tree.GroupTree.{GroupTree}
use Rattle.ep_tree.specs.declared.tree.GroupTree.TheVariants as group_tree
use Rattle.ep_tree.specs.declared.tree.ParamTree.{ParamTree}
use Rattle.ep_tree.specs.declared.tree.FormulaTree.{FormulaTree, roll-FormulaTree}
use Rattle.ep_tree.specs.declared.tree.FormulaTree.TheOpen.{FormulaTree-F}
use Rattle.ep_tree.specs.declared.tree.FormulaTree.TheOpen as layer
use Rattle.ep_tree.specs.declared.tree.FormulaTree.TheFolds.{map-FormulaTree, ind-FormulaTree, fold-roll-FormulaTree}
use Rattle.ep_tree.specs.Formed.{OneOrMore, formed_name, formed_atom, formed_group, formed_param, formed_params, formed_layer, formed_formula, is_true}
use Rattle.ep_tree.specs.Marks.{Mark, fixed, named, texts}
use Rattle.ep_tree.specs.Spelling.{behind, between, braced, names, arguments, atom, group, param, params, parts_at, production, formula_at}
use Rattle.ep_tree.specs.Terminals.{text_of}
use Rattle.ep_layout.proofs.LayoutTokens.{IsSpelling, AreSpellings}
use Rattle.ep_reader.proofs.CallerLemmas.{each-list_all, both_true, written_count}

-- each mark's bytes spell a token
abbrev pub AreSpelled : List Mark → Type 0
AreSpelled [] = Unit {0}
AreSpelled (m ∷ ms) = IsSpelling m.text × AreSpelled ms

pub spelled-texts : (ms : List Mark) → AreSpelled ms → AreSpellings (texts ms)
spelled-texts [] s = tt
spelled-texts (m ∷ ms) s = (s.0, spelled-texts ms s.1)

pub spelled-append : (xs ys : List Mark) → AreSpelled xs → AreSpelled ys → AreSpelled (xs ++ ys)
spelled-append [] ys s t = t
spelled-append (x ∷ xs) ys s t = (s.0, spelled-append xs ys s.1 t)

pub spelled_terminal : (t : Terminal) → IsSpelling (text_of t)
spelled_terminal the.Task = refl
spelled_terminal the.Frames = refl
spelled_terminal the.Types = refl
spelled_terminal the.Objects = refl
spelled_terminal the.Fluents = refl
spelled_terminal the.Init = refl
spelled_terminal the.World = refl
spelled_terminal the.Designated = refl
spelled_terminal the.Links = refl
spelled_terminal the.All = refl
spelled_terminal the.Same = refl
spelled_terminal the.Vary = refl
spelled_terminal the.Facts = refl
spelled_terminal the.Law = refl
spelled_terminal the.Sees = refl
spelled_terminal the.Action = refl
spelled_terminal the.Distinct = refl
spelled_terminal the.Cost = refl
spelled_terminal the.Announce = refl
spelled_terminal the.Private = refl
spelled_terminal the.To = refl
spelled_terminal the.Sense = refl
spelled_terminal the.By = refl
spelled_terminal the.Assign = refl
spelled_terminal the.When = refl
spelled_terminal the.Event = refl
spelled_terminal the.Pre = refl
spelled_terminal the.Goal = refl
spelled_terminal the.True = refl
spelled_terminal the.False = refl
spelled_terminal the.Not = refl
spelled_terminal the.And = refl
spelled_terminal the.Or = refl
spelled_terminal the.Knows = refl
spelled_terminal the.Common = refl
spelled_terminal the.Forall = refl
spelled_terminal the.Exists = refl
spelled_terminal the.After = refl
spelled_terminal the.Plan = refl
spelled_terminal the.Actions = refl
spelled_terminal the.End = refl
spelled_terminal the.Becomes = refl
spelled_terminal the.Arrow = refl
spelled_terminal the.OpenBrace = refl
spelled_terminal the.CloseBrace = refl
spelled_terminal the.OpenParen = refl
spelled_terminal the.CloseParen = refl
spelled_terminal the.Comma = refl
spelled_terminal the.Semicolon = refl
spelled_terminal the.Colon = refl
spelled_terminal the.Less = refl
spelled_terminal the.Equals = refl
spelled_terminal the.S5 = refl
spelled_terminal the.One = refl
spelled_terminal the.Two = refl

spelled_word : (b : ℕ) (bs : List ℕ) → is_piece (piece.Spelling kind.Word) (b ∷ bs) ≡ true → IsSpelling (b ∷ bs)
spelled_word b bs p =
    let h = both_true (is_letter b && list_all is_word_byte bs) (nat_le (length bs) 63) p in
    let l = both_true (is_letter b) (list_all is_word_byte bs) h.0 in
    rw l.0 p

pub spelled_name : (n : Name) → formed_name n ≡ true → IsSpelling n.text
spelled_name n f = by_text n.text (both_true _ _ f).0
  where
    by_text : (text : List ℕ) → is_piece (piece.Spelling kind.Word) text ≡ true → IsSpelling text
    by_text [] p = absurd (false≢true p)
    by_text (b ∷ bs) p = spelled_word b bs p

digit_no_letter : (b : ℕ) → is_digit b ≡ true → is_letter b ≡ false
digit_no_letter b e = grind (arith, nat_tests)

pub spelled_count : (n : ℕ) → n < 10 ^ 9 → IsSpelling (decimal n)
spelled_count n l = by_text (decimal n) (both_true _ _ (written_count n l)).0
  where
    by_text : (text : List ℕ) → is_piece (piece.Spelling kind.Number) text ≡ true → IsSpelling text
    by_text [] p = absurd (false≢true p)
    by_text (b ∷ bs) p =
        let d = (both_true (is_digit b) (list_all is_digit bs) (both_true (is_digit b && list_all is_digit bs) (nat_le (length bs) 8) p).0).0 in
        rw (digit_no_letter b d, d) p

-- ---- lists

module _ {A : Type 0} (P : A → Type 0) (f : A → List Mark) (one : (x : A) → P x → AreSpelled (f x)) where
  pub spelled-flat_map : (xs : List A) → AllByRecursion P xs → AreSpelled (flat_map f xs)
  spelled-flat_map [] e = tt
  spelled-flat_map (x ∷ xs) e = spelled-append (f x) (flat_map f xs) (one x e.0) (spelled-flat_map xs e.1)

  spelled-behind : (t : Terminal) (xs : List A) → AllByRecursion P xs → AreSpelled (behind t (map f xs))
  spelled-behind t [] e = tt
  spelled-behind t (x ∷ xs) e = (spelled_terminal t, spelled-append (f x) (behind t (map f xs)) (one x e.0) (spelled-behind t xs e.1))

  pub spelled-between : (t : Terminal) (xs : List A) → AllByRecursion P xs → AreSpelled (between t (map f xs))
  spelled-between t [] e = tt
  spelled-between t (x ∷ xs) e = spelled-append (f x) (behind t (map f xs)) (one x e.0) (spelled-behind t xs e.1)

pub each-some : {A : Type 0} (P : A → Type 0) (xs : List A) → OneOrMore P xs → AllByRecursion P xs
each-some P [] e = absurd e
each-some P (x ∷ xs) e = e

pub spelled-braced : (ms : List Mark) → AreSpelled ms → AreSpelled (braced ms)
spelled-braced ms s = (refl, spelled-append ms (fixed the.CloseBrace ∷ []) s (refl, tt))

-- ---- atoms, groups, parameters

pub spelled-names : (ns : List Name) → AllByRecursion (λ n. formed_name n ≡ true) ns → AreSpelled (names ns)
spelled-names ns e = spelled-between (λ n. formed_name n ≡ true) (λ n. named n ∷ []) (λ n f. (spelled_name n f, tt)) the.Comma ns e

pub spelled-arguments : (ns : List Name) → AllByRecursion (λ n. formed_name n ≡ true) ns → AreSpelled (arguments ns)
spelled-arguments [] e = tt
spelled-arguments (n ∷ ns) e = (refl, spelled-append (names (n ∷ ns)) (fixed the.CloseParen ∷ []) (spelled-names (n ∷ ns) e) (refl, tt))

pub spelled-atom : (nesting : Option ℕ) (a : AtomTree) → formed_atom a ≡ true → AreSpelled (atom nesting a)
spelled-atom nesting a f =
    let h = both_true (formed_name a.name) (list_all formed_name a.args) f in
    (spelled_name a.name h.0, spelled-arguments a.args (each-list_all formed_name a.args h.1))

pub spelled-group : (g : GroupTree) → formed_group g ≡ true → AreSpelled (group g)
spelled-group (group_tree.All token) f = (refl, tt)
spelled-group (group_tree.Members token ns) f =
    (refl, spelled-append (names ns) (fixed the.CloseBrace ∷ []) (spelled-names ns (each-list_all formed_name ns f)) (refl, tt))

pub spelled-param : (p : ParamTree) → formed_param p ≡ true → AreSpelled (param p)
spelled-param p f = let h = both_true (formed_name p.name) (formed_name p.kind) f in (spelled_name p.name h.0, (refl, (spelled_name p.kind h.1, tt)))

pub spelled-params : (ps : List ParamTree) → AllByRecursion (λ p. formed_param p ≡ true) ps → AreSpelled (params ps)
spelled-params ps e = spelled-between (λ p. formed_param p ≡ true) param spelled-param the.Comma ps e

-- ---- formulas

abbrev Spelled : FormulaTree → Type 0
Spelled f = formed_formula f ≡ true → (k : ℕ) → AreSpelled (formula_at f k)

abbrev Parts : Type 0
Parts = List ((f : FormulaTree) × Spelled f)

abbrev trees : Parts → List FormulaTree
trees ps = map (λ e. e.0) ps

behind_parts : (t : Terminal) (k : ℕ) (ps : Parts) → list_all is_true (map formed_formula (trees ps)) ≡ true → AreSpelled (behind t (parts_at k (map formula_at (trees ps))))
behind_parts t k [] e = tt
behind_parts t k (p ∷ ps) e =
    let h = both_true (formed_formula p.0) (list_all is_true (map formed_formula (trees ps))) e in
    (spelled_terminal t, spelled-append (formula_at p.0 k) (behind t (parts_at k (map formula_at (trees ps)))) (p.1 h.0 k) (behind_parts t k ps h.1))

between_parts : (t : Terminal) (k : ℕ) (ps : Parts) → list_all is_true (map formed_formula (trees ps)) ≡ true → AreSpelled (between t (parts_at k (map formula_at (trees ps))))
between_parts t k [] e = tt
between_parts t k (p ∷ ps) e =
    let h = both_true (formed_formula p.0) (list_all is_true (map formed_formula (trees ps))) e in
    spelled-append (formula_at p.0 k) (behind t (parts_at k (map formula_at (trees ps)))) (p.1 h.0 k) (behind_parts t k ps h.1)

spelled-quantified : (ps : List ParamTree) (ms : List Mark) → formed_params ps ≡ true → AreSpelled ms → AreSpelled (fixed the.OpenParen ∷ (params ps ++ fixed the.CloseParen ∷ ms))
spelled-quantified ps ms f s =
    let h = both_true (nat_le 1 (length ps)) (list_all formed_param ps) f in
    (refl, spelled-append (params ps) (fixed the.CloseParen ∷ ms) (spelled-params ps (each-list_all formed_param ps h.1)) (refl, s))

closed : (ms : List Mark) → AreSpelled ms → AreSpelled (ms ++ fixed the.CloseParen ∷ [])
closed ms s = spelled-append ms (fixed the.CloseParen ∷ []) s (refl, tt)

abbrev Inner : Type 0
Inner = FormulaTree-F ((f : FormulaTree) × Spelled f)

abbrev below : Inner → FormulaTree-F FormulaTree
below y = map-FormulaTree ((f : FormulaTree) × Spelled f) FormulaTree (λ e. e.0) y

-- one layer, where what it holds is spelled
level : (y : Inner) → formed_layer (map-FormulaTree FormulaTree Bool formed_formula (below y)) ≡ true → (k : ℕ) → AreSpelled (production (map-FormulaTree FormulaTree (ℕ → List Mark) formula_at (below y)) k)
level (layer.True token) e k = (refl, tt)
level (layer.False token) e k = (refl, tt)
level (layer.Atom a) e k = spelled-atom (Some k) a e
level (layer.Not token i) e k = (refl, i.1 e (suc k))
level (layer.Knows token n i) e k = let h = both_true (formed_name n) (formed_formula i.0) e in (refl, (spelled_name n h.0, i.1 h.1 (suc k)))
level (layer.Common token g i) e k =
    let h = both_true (formed_group g) (formed_formula i.0) e in (refl, spelled-append (group g) (formula_at i.0 (suc k)) (spelled-group g h.0) (i.1 h.1 (suc k)))
level (layer.Forall token ps i) e k = let h = both_true (formed_params ps) (formed_formula i.0) e in (refl, spelled-quantified ps (formula_at i.0 (suc k)) h.0 (i.1 h.1 (suc k)))
level (layer.Exists token ps i) e k = let h = both_true (formed_params ps) (formed_formula i.0) e in (refl, spelled-quantified ps (formula_at i.0 (suc k)) h.0 (i.1 h.1 (suc k)))
level (layer.Equal token l r) e k = let h = both_true (formed_name l) (formed_name r) e in (refl, (spelled_name l h.0, (refl, (spelled_name r h.1, (refl, tt)))))
level (layer.Paren token i) e k = (refl, closed (formula_at i.0 (suc k)) (i.1 e (suc k)))
level (layer.And token ps) e k =
    let h = both_true (nat_le 2 (length (map formed_formula (trees ps)))) (list_all is_true (map formed_formula (trees ps))) e in
    (refl, closed (between the.And (parts_at (suc k) (map formula_at (trees ps)))) (between_parts the.And (suc k) ps h.1))
level (layer.Or token ps) e k =
    let h = both_true (nat_le 2 (length (map formed_formula (trees ps)))) (list_all is_true (map formed_formula (trees ps))) e in
    (refl, closed (between the.Or (parts_at (suc k) (map formula_at (trees ps)))) (between_parts the.Or (suc k) ps h.1))

rolled : (x : FormulaTree-F FormulaTree) (y : Inner) → below y ≡ x → Spelled (roll-FormulaTree x)
rolled x y e = subst (λ (x : FormulaTree-F FormulaTree). Spelled (roll-FormulaTree x)) e (λ f k.
    let s = level y (sym (fold-roll-FormulaTree Bool formed_layer (below y)) ∙ f) k in
    subst AreSpelled (sym (ap (λ g. g k) (fold-roll-FormulaTree (ℕ → List Mark) production (below y)))) s)

-- the tokens of a formula
pub spelled-formula : (f : FormulaTree) → formed_formula f ≡ true → (k : ℕ) → AreSpelled (formula_at f k)
spelled-formula = ind-FormulaTree Spelled rolled
