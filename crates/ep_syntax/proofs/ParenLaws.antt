-- The laws of the readers of what stands in parentheses.
use Rattle.std.proofs.Common.{◌≡◌, ℕ, suc, ◌≤◌, Bool, true, false, ◌&&◌, List, [], ◌∷◌, ◌++◌, length, map, Some, refl, sym, ap, ◌∙◌, subst, arith, append_assoc, length-append}
use Rattle.std.specs.List.{AllByRecursion, flat_map, list_all}
use Rattle.std.specs.Prelude.{nat_le}
use Rattle.std.proofs.lemmas.Bool.{false≢true, le-leb}
use Rattle.ep_tree.specs.declared.terminal.Terminal.{Terminal}
use Rattle.ep_tree.specs.declared.terminal.Terminal.TheVariants as the
use Rattle.ep_tree.specs.declared.tree.Name.{Name}
use Rattle.ep_tree.specs.declared.tree.FormulaTree.{FormulaTree, out-FormulaTree, roll-FormulaTree, roll-out-FormulaTree}
use Rattle.ep_tree.specs.declared.tree.FormulaTree.TheOpen as layer
use Rattle.ep_tree.specs.declared.tree.FormulaTree.TheVariants as tree
use Rattle.ep_tree.specs.Bare.{bare_formula}
use Rattle.ep_tree.specs.Formed.{OneOrMore, formed_formula, formed_parts, is_true, IsFormedFormula, IsFormedName}
use Rattle.ep_syntax.specs.FormulaReading.{Tail, closed, anded, ored, some_behind, joined, tail, with_tail, inside_of, inside, equal_of, equality, follows, starter_of}
use Rattle.ep_tree.specs.Grammar.{Grammar}
use Rattle.ep_tree.specs.Marks.{Mark, fixed, opening, texts}
use Rattle.ep_reader.specs.Reading.{Token, Read, Reader, made, begins, heads, name_begins, front}
use Rattle.ep_tree.specs.Terminals.{is}
use Rattle.ep_tree.specs.Spelling.{behind, between, formula_at}
use Rattle.ep_tree.specs.Spelling as spell
use Rattle.ep_tree.specs.Terminals.{text_of, is_name}
use Rattle.ep_tree.specs.declared.tree.AtomTree.{AtomTree}
use Rattle.ep_syntax.proofs.AtomLaws.{NotOpen}
use Rattle.ep_syntax.proofs.Layers.{Layer, formulas_at, first_text, rest_marks, rest_texts, texts-out, formed-out, formed-roll, formula_long, lead, lead-first, name-first, starter-text, some_formula}
use Rattle.ep_reader.proofs.CallerLemmas as reader
use Rattle.ep_tree.proofs.CallerLemmas as eq
use Rattle.ep_reader.proofs.CallerLemmas.{and_true, Follow, both, both_then, Makes, Made, Agree-heads, behind_of, behind-flat_map, each_of, behind_part, rest_part, follow_rest, Agree, opened_reads, Reads, Part, Any, Next, pair, then, made_by, made_all, made_far, Witness, either, next_lacks, plain, plain_reads, plain_part, names_one, name_part, some_name, both_true}

-- ---- and, or and the closing parenthesis

abbrev some_behind_of : Terminal → Grammar FormulaTree → Grammar (List FormulaTree)
some_behind_of t g = record { marks = flat_map (behind_of t g).marks; IsFormed = OneOrMore g.IsFormed; bare = map g.bare }

some_behind_back : (t : Terminal) (g : Grammar FormulaTree) (b : List FormulaTree) → OneOrMore g.IsFormed b → Made (both (behind_of t g) (each_of (behind_of t g))) front b
some_behind_back t g [] f = absurd f
some_behind_back t g (x ∷ xs) f = record { from = (x, xs); formed = f; is = refl }

abbrev tail_marks : ℕ → Tail → List Mark
tail_marks k closed = fixed the.CloseParen ∷ []
tail_marks k (anded ps) = behind the.And (map (λ p. formula_at p k) ps) ++ fixed the.CloseParen ∷ []
tail_marks k (ored ps) = behind the.Or (map (λ p. formula_at p k) ps) ++ fixed the.CloseParen ∷ []

abbrev IsFormedTail : Tail → Type 0
IsFormedTail closed = Unit {0}
IsFormedTail (anded ps) = OneOrMore IsFormedFormula ps
IsFormedTail (ored ps) = OneOrMore IsFormedFormula ps

abbrev bare_tail : Tail → Tail
bare_tail closed = closed
bare_tail (anded ps) = anded (map bare_formula ps)
bare_tail (ored ps) = ored (map bare_formula ps)

-- what stands behind the first formula, where the formulas are of nesting k
abbrev tails_at : ℕ → Grammar Tail
tails_at k = record { marks = tail_marks k; IsFormed = IsFormedTail; bare = bare_tail }

tail_long : (k : ℕ) (c : Tail) → 1 ≤ length (tail_marks k c)
tail_long k closed = omega arith
tail_long k (anded ps) = omega (arith, length-append (behind the.And (map (λ p. formula_at p k) ps)) (fixed the.CloseParen ∷ []))
tail_long k (ored ps) = omega (arith, length-append (behind the.Or (map (λ p. formula_at p k) ps)) (fixed the.CloseParen ∷ []))

-- a tail begins with no parenthesis that opens
tail_follows : (k : ℕ) (c : Tail) (more : List Token) → IsFormedTail c → NotOpen (texts (tail_marks k c) ++ more)
tail_follows k closed more f = refl
tail_follows k (anded []) more f = absurd f
tail_follows k (anded (p ∷ ps)) more f = refl
tail_follows k (ored []) more f = absurd f
tail_follows k (ored (p ∷ ps)) more f = refl

-- what a tail begins with
tail_first : Tail → Terminal
tail_first closed = the.CloseParen
tail_first (anded ps) = the.And
tail_first (ored ps) = the.Or

tail_begins : (k : ℕ) (b : Tail) (ts more : List Token) → IsFormedTail b → Agree 1 ts (texts (tail_marks k b) ++ more) → (test : Token → Bool) → heads test ts ≡ test (text_of (tail_first b))
unfolding tail_first
tail_begins k closed ts more f a test = Agree-heads test ts _ a
tail_begins k (anded []) ts more f a test = absurd f
tail_begins k (anded (p ∷ ps)) ts more f a test = Agree-heads test ts _ a
tail_begins k (ored []) ts more f a test = absurd f
tail_begins k (ored (p ∷ ps)) ts more f a test = Agree-heads test ts _ a

-- `item` reads formulas of nesting k
module _ (k : ℕ) (item : Reader FormulaTree) (p : Part (formulas_at k) NotOpen item) where
  module _ (t : Terminal) (d : is the.OpenParen (text_of t) ≡ false) (e : is t (text_of the.CloseParen) ≡ false) where
    some_behind_part : Part (some_behind_of t (formulas_at k)) (Next the.CloseParen) (some_behind t item)
    some_behind_part =
        let goes : (more : List Token) → NotOpen (text_of t ∷ more) = λ more. d in
        let ends = next_lacks the.CloseParen (is the.OpenParen) refl in
        let stops = next_lacks the.CloseParen (is t) e in
        record {
          reads = λ n ts. made_all (record { marks = λ _ _. refl; formed = λ _ f. f; bare = λ _. refl }) (some_behind_back t (formulas_at k))
              (pair ((behind_part t (formulas_at k) NotOpen (Next the.CloseParen) item p goes ends stops).reads n ts)
              (rest_part t (formulas_at k) NotOpen (Next the.CloseParen) item p goes ends stops)
              (follow_rest t (formulas_at k) NotOpen (Next the.CloseParen) item p goes ends stops));
          value = tree.True 0 ∷ [];
          formed = (some_formula, tt);
        }

    joined_reads : (n : ℕ) (ts : List Token) → Reads (both (some_behind_of t (formulas_at k)) (plain the.CloseParen)) Any n ts (joined t item n ts)
    joined_reads n ts = pair (some_behind_part.reads n ts) (plain_part the.CloseParen) (λ _ _ _ _. refl)

  anded_back : (ts : List Token) → begins the.And ts ≡ true → (b : Tail) (more : List Token) → IsFormedTail b → Any more → Agree 1 ts (texts (tail_marks k b) ++ more)
      → Made (both (some_behind_of the.And (formulas_at k)) (plain the.CloseParen)) (λ p. anded p.0) b
  unfolding tail_first
  anded_back ts e (anded ps) more f s a = record { from = (ps, 0); formed = (f, tt); is = refl }
  anded_back ts e closed more f s a = absurd (false≢true (sym (tail_begins k closed ts more f a (is the.And)) ∙ e))
  anded_back ts e (ored ps) more f s a = absurd (false≢true (sym (tail_begins k (ored ps) ts more f a (is the.And)) ∙ e))

  ored_back : (ts : List Token) → begins the.Or ts ≡ true → (b : Tail) (more : List Token) → IsFormedTail b → Any more → Agree 1 ts (texts (tail_marks k b) ++ more)
      → Made (both (some_behind_of the.Or (formulas_at k)) (plain the.CloseParen)) (λ p. ored p.0) b
  unfolding tail_first
  ored_back ts e (ored ps) more f s a = record { from = (ps, 0); formed = (f, tt); is = refl }
  ored_back ts e closed more f s a = absurd (false≢true (sym (tail_begins k closed ts more f a (is the.Or)) ∙ e))
  ored_back ts e (anded ps) more f s a = absurd (false≢true (sym (tail_begins k (anded ps) ts more f a (is the.Or)) ∙ e))

  closed_back : (ts : List Token) → begins the.And ts ≡ false → begins the.Or ts ≡ false → (b : Tail) (more : List Token) → IsFormedTail b → Any more → Agree 1 ts (texts (tail_marks k b) ++ more)
      → Made (plain the.CloseParen) (λ _. closed) b
  unfolding tail_first
  closed_back ts d e closed more f s a = record { from = 0; formed = tt; is = refl }
  closed_back ts d e (anded ps) more f s a = absurd (false≢true (sym d ∙ tail_begins k (anded ps) ts more f a (is the.And)))
  closed_back ts d e (ored ps) more f s a = absurd (false≢true (sym e ∙ tail_begins k (ored ps) ts more f a (is the.Or)))

  joined_marks : (t : Terminal) (ps : List FormulaTree) → behind t (map (λ p. formula_at p k) ps) ++ fixed the.CloseParen ∷ [] ≡ flat_map (behind_of t (formulas_at k)).marks ps ++ fixed the.CloseParen ∷ []
  joined_marks t ps = ap (λ z. z ++ fixed the.CloseParen ∷ []) (behind-flat_map t (formulas_at k) ps)

  tail_part : Part (tails_at k) Any (tail item)
  unfolding tail
  tail_part = record {
    reads = λ n ts. either (begins the.And ts)
        (λ e. made_by (record { marks = λ a _. joined_marks the.And a.0; formed = λ _ f. f.0; bare = λ _. refl }) (joined_reads the.And refl refl n ts) (anded_back ts e))
        (λ d. either (begins the.Or ts)
        (λ e. made_by (record { marks = λ a _. joined_marks the.Or a.0; formed = λ _ f. f.0; bare = λ _. refl }) (joined_reads the.Or refl refl n ts) (ored_back ts e))
        (λ e. made_by (record { marks = λ _ _. refl; formed = λ _ _. tt; bare = λ _. refl }) (plain_reads the.CloseParen n ts) (closed_back ts d e)));
    value = closed;
    formed = tt;
  }

-- ---- a formula in parentheses

abbrev inside_at : ℕ → Grammar ((ℕ × FormulaTree) × Tail)
inside_at k = both (both (reader.opened k the.OpenParen) (formulas_at (suc k))) (tails_at (suc k))

inside_marks : (k : ℕ) (a : (ℕ × FormulaTree) × Tail) → formula_at (inside_of a) k ≡ (inside_at k).marks a
inside_marks k ((t, p), closed) = eq.formula_at-Paren t p k
inside_marks k ((t, p), anded ps) = eq.formula_at-And t (p ∷ ps) k
    ∙ ap (λ z. opening k t the.OpenParen ∷ z) (append_assoc (formula_at p (suc k)) (behind the.And (map (λ p. formula_at p (suc k)) ps)) (fixed the.CloseParen ∷ []))
inside_marks k ((t, p), ored ps) = eq.formula_at-Or t (p ∷ ps) k
    ∙ ap (λ z. opening k t the.OpenParen ∷ z) (append_assoc (formula_at p (suc k)) (behind the.Or (map (λ p. formula_at p (suc k)) ps)) (fixed the.CloseParen ∷ []))

-- two parts at least, each formed
all_formed : (ps : List FormulaTree) → list_all is_true (map formed_formula ps) ≡ true → AllByRecursion IsFormedFormula ps
all_formed [] e = tt
all_formed (p ∷ ps) e = ((both_true _ _ e).0, all_formed ps (both_true _ _ e).1)

formed_all : (ps : List FormulaTree) → AllByRecursion IsFormedFormula ps → list_all is_true (map formed_formula ps) ≡ true
formed_all [] f = refl
formed_all (p ∷ ps) f = ap (λ b. b && list_all is_true (map formed_formula ps)) f.0 ∙ formed_all ps f.1

two_formed : (p : FormulaTree) (ps : List FormulaTree) → IsFormedFormula p → OneOrMore IsFormedFormula ps → formed_parts 2 (map formed_formula (p ∷ ps)) ≡ true
two_formed p [] f g = absurd g
two_formed p (q ∷ qs) f g =
    let l : 2 ≤ length (map formed_formula (p ∷ q ∷ qs)) = omega arith in
    ap (λ b. b && list_all is_true (map formed_formula (p ∷ q ∷ qs))) (le-leb 2 (length (map formed_formula (p ∷ q ∷ qs))) l) ∙ formed_all (p ∷ q ∷ qs) (f, g)

inside_formed : (k : ℕ) (a : (ℕ × FormulaTree) × Tail) → (inside_at k).IsFormed a → IsFormedFormula (inside_of a)
inside_formed k ((t, p), closed) f = eq.formed-Paren t p ∙ f.0.1
inside_formed k ((t, p), anded ps) f = eq.formed-And t (p ∷ ps) ∙ two_formed p ps f.0.1 f.1
inside_formed k ((t, p), ored ps) f = eq.formed-Or t (p ∷ ps) ∙ two_formed p ps f.0.1 f.1

inside_bare : (k : ℕ) (a : (ℕ × FormulaTree) × Tail) → bare_formula (inside_of a) ≡ inside_of ((inside_at k).bare a)
inside_bare k ((t, p), closed) = eq.bare-Paren t p
inside_bare k ((t, p), anded ps) = eq.bare-And t (p ∷ ps)
inside_bare k ((t, p), ored ps) = eq.bare-Or t (p ∷ ps)

inside_makes : (k : ℕ) → Makes (inside_at k) (formulas_at k) inside_of
inside_makes k = record { marks = λ a _. inside_marks k a; formed = inside_formed k; bare = inside_bare k }

-- a layer of two parts at least
parts_back : (k t : ℕ) (ps : List FormulaTree) (v : ℕ → List FormulaTree → FormulaTree) (c : List FormulaTree → Tail) (b : FormulaTree)
    → formed_parts 2 (map formed_formula ps) ≡ true → ((p : FormulaTree) (ps : List FormulaTree) → with_tail t p (c ps) ≡ v t (p ∷ ps))
    → ((ps : List FormulaTree) → OneOrMore IsFormedFormula ps → IsFormedTail (c ps)) → v t ps ≡ b → Made (inside_at k) inside_of b
parts_back k t [] v c b f made forms e = absurd (false≢true f)
parts_back k t (p ∷ []) v c b f made forms e = absurd (false≢true f)
parts_back k t (p ∷ q ∷ qs) v c b f made forms e =
    let all = all_formed (p ∷ q ∷ qs) (both_true (nat_le 2 (length (map formed_formula (p ∷ q ∷ qs)))) (list_all is_true (map formed_formula (p ∷ q ∷ qs))) f).1 in
    record { from = ((t, p), c (q ∷ qs)); formed = ((tt, all.0), forms (q ∷ qs) all.1); is = made p (q ∷ qs) ∙ e }

-- the tokens behind the parenthesis are no equality's
abbrev NoEquality : ℕ → List Token → Type 0
NoEquality j ts = (l : Name) (more : List Token) → IsFormedName l → Agree j ts (l.text ∷ text_of the.Equals ∷ more) → ⊥

inside_back : (k j : ℕ) (ts : List Token) → NoEquality j ts → (l : Layer) (more : List Token) → IsFormedFormula (roll-FormulaTree l) → lead l ≡ Some the.OpenParen
    → Agree j ts (rest_texts k l ++ more) → Made (inside_at k) inside_of (roll-FormulaTree l)
unfolding lead rest_marks
inside_back k j ts no_equality (layer.Paren t i) more f e a = record { from = ((t, i), closed); formed = ((tt, formed-roll (layer.Paren t i) f), tt); is = sym (tree.rolls-Paren t i) }
inside_back k j ts no_equality (layer.And t ps) more f e a = parts_back k t ps tree.And anded _ (formed-roll (layer.And t ps) f) (λ _ _. refl) (λ _ g. g) (sym (tree.rolls-And t ps))
inside_back k j ts no_equality (layer.Or t ps) more f e a = parts_back k t ps tree.Or ored _ (formed-roll (layer.Or t ps) f) (λ _ _. refl) (λ _ g. g) (sym (tree.rolls-Or t ps))
inside_back k j ts no_equality (layer.Equal t l r) more f e a = absurd (no_equality l _ (both_true _ _ (formed-roll (layer.Equal t l r) f)).0 a)
inside_back k j ts no_equality _ more f e a = absurd (cc)

-- a formula whose first token this is
module _ {A : Type 0} {g : Grammar A} {F : Follow} {n : ℕ} {x : Token} {ts : List Token} {r : Read A} {f : A → FormulaTree} (k : ℕ) (makes : Makes g (formulas_at k) f) (o : Reads g F n (x ∷ ts) r) where
  made_from : (j : ℕ) → Witness g F (x ∷ ts) j → ((a : A) → j ≤ length (g.marks a))
      → ((l : Layer) (more : List Token) → IsFormedFormula (roll-FormulaTree l) → F more → x ≡ first_text l → Agree j ts (rest_texts k l ++ more) → Made g f (roll-FormulaTree l))
      → Reads (formulas_at k) F n (x ∷ ts) (made f r)
  made_from j w long back = made_far j makes o w long (λ b more fb s a.
      let h : Agree (suc j) (x ∷ ts) (first_text (out-FormulaTree b) ∷ (rest_texts k (out-FormulaTree b) ++ more)) = subst (λ z. Agree (suc j) (x ∷ ts) (z ++ more)) (texts-out k b) a in
      subst (λ z. Made g f z) (roll-out-FormulaTree b) (back (out-FormulaTree b) more (formed-out b fb) s h.0 h.1))

  -- where the first token tells
  pub made_from_first : ((l : Layer) → IsFormedFormula (roll-FormulaTree l) → x ≡ first_text l → Made g f (roll-FormulaTree l)) → Reads (formulas_at k) F n (x ∷ ts) (made f r)
  made_from_first back = made_by makes o (λ b more fb s a.
      let h : Agree 1 (x ∷ ts) (first_text (out-FormulaTree b) ∷ (rest_texts k (out-FormulaTree b) ++ more)) = subst (λ z. Agree 1 (x ∷ ts) (z ++ more)) (texts-out k b) a in
      subst (λ z. Made g f z) (roll-out-FormulaTree b) (back (out-FormulaTree b) (formed-out b fb) h.0))

-- ---- a name behind the parenthesis

-- what stands behind the name may follow a formula in parentheses, or begins its arguments
pub record Followed (us : List Token) : Type 0 where
  pub terminal : Terminal
  pub follow : follows (text_of terminal) ≡ true
  pub no_equals : is the.Equals (text_of terminal) ≡ false
  pub begins_so : (test : Token → Bool) → heads test us ≡ test (text_of terminal)

behind_arguments : (t : Terminal) → follows (text_of t) ≡ true → is the.Equals (text_of t) ≡ false → (ns : List Name) (us rest : List Token)
    → Agree 1 us (texts (spell.arguments ns) ++ text_of t ∷ rest) → Followed us
behind_arguments t f e [] us rest a = record { terminal = t; follow = f; no_equals = e; begins_so = λ test. Agree-heads test us _ a }
behind_arguments t f e (n ∷ ns) us rest a = record { terminal = the.OpenParen; follow = refl; no_equals = refl; begins_so = λ test. Agree-heads test us _ a }

behind_atom : (k : ℕ) (t : Terminal) → follows (text_of t) ≡ true → is the.Equals (text_of t) ≡ false → (l : Layer) (a : AtomTree) → l ≡ layer.Atom a → (us rest : List Token)
    → Agree 1 us (rest_texts k l ++ text_of t ∷ rest) → Followed us
unfolding rest_marks
behind_atom k t f e l a d us rest h = behind_arguments t f e a.args us rest (subst (λ z. Agree 1 us (rest_texts k z ++ text_of t ∷ rest)) d h)

-- a formula that begins with a name, and the terminal behind it
behind_formula : (k : ℕ) (t : Terminal) → follows (text_of t) ≡ true → is the.Equals (text_of t) ≡ false → (i : FormulaTree) (u : Token) (us rest : List Token) → is_name u ≡ true
    → Agree 2 (u ∷ us) (texts (formula_at i k) ++ text_of t ∷ rest) → Followed us
behind_formula k t f e i u us rest d a =
    let h : Agree 2 (u ∷ us) (first_text (out-FormulaTree i) ∷ (rest_texts k (out-FormulaTree i) ++ text_of t ∷ rest)) = subst (λ z. Agree 2 (u ∷ us) (z ++ text_of t ∷ rest)) (texts-out k i) a in
    let q = name-first (out-FormulaTree i) u d h.0 in
    behind_atom k t f e (out-FormulaTree i) q.0 q.1 us rest h.1

behind_parts : (k : ℕ) (t : Terminal) → follows (text_of t) ≡ true → is the.Equals (text_of t) ≡ false → (ps : List FormulaTree) → formed_parts 2 (map formed_formula ps) ≡ true
    → (u : Token) (us more : List Token) → is_name u ≡ true → Agree 2 (u ∷ us) (texts (between t (map (λ p. formula_at p k) ps) ++ fixed the.CloseParen ∷ []) ++ more) → Followed us
behind_parts k t f e [] g u us more d a = absurd (false≢true g)
behind_parts k t f e (p ∷ []) g u us more d a = absurd (false≢true g)
behind_parts k t f e (p ∷ q ∷ qs) g u us more d a =
    let marks = λ (p : FormulaTree). formula_at p k in
    let s1 = both_then (formula_at p k ++ behind t (map marks (q ∷ qs))) (fixed the.CloseParen ∷ []) more in
    let s2 = both_then (formula_at p k) (behind t (map marks (q ∷ qs))) (text_of the.CloseParen ∷ more) in
    behind_formula k t f e p u us _ d (subst (λ z. Agree 2 (u ∷ us) z) (s1 ∙ s2) a)

-- a layer that begins with a parenthesis and a name: an equality, or not
pub followed : (k : ℕ) (l : Layer) → IsFormedFormula (roll-FormulaTree l) → lead l ≡ Some the.OpenParen → (u : Token) (us more : List Token) → is_name u ≡ true
    → Agree 2 (u ∷ us) (rest_texts k l ++ more) → heads (is the.Equals) us ≡ false → Followed us
unfolding lead rest_marks
followed k (layer.Paren t i) f e u us more d a no_equals =
    behind_formula (suc k) the.CloseParen refl refl i u us more d (subst (λ z. Agree 2 (u ∷ us) z) (both_then (formula_at i (suc k)) (fixed the.CloseParen ∷ []) more) a)
followed k (layer.And t ps) f e u us more d a no_equals = behind_parts (suc k) the.And refl refl ps (formed-roll (layer.And t ps) f) u us more d a
followed k (layer.Or t ps) f e u us more d a no_equals = behind_parts (suc k) the.Or refl refl ps (formed-roll (layer.Or t ps) f) u us more d a
followed k (layer.Equal t l r) f e u us more d a no_equals = absurd (false≢true (sym no_equals ∙ Agree-heads (is the.Equals) us _ a.1))
followed k _ f e u us more d a no_equals = absurd (cc)

-- ---- equalities

abbrev equals_at : ℕ → Grammar ((((ℕ × Name) × ℕ) × Name) × ℕ)
equals_at k = both (both (both (both (reader.opened k the.OpenParen) names_one) (plain the.Equals)) names_one) (plain the.CloseParen)

equal_makes : (k : ℕ) → Makes (equals_at k) (formulas_at k) equal_of
equal_makes k = record {
  marks = λ a _. eq.formula_at-Equal a.0.0.0.0 a.0.0.0.1 a.0.1 k;
  formed = λ a f. eq.formed-Equal a.0.0.0.0 a.0.0.0.1 a.0.1 ∙ and_true _ _ f.0.0.0.1 f.0.1;
  bare = λ a. eq.bare-Equal a.0.0.0.0 a.0.0.0.1 a.0.1;
}

equal_back : (k : ℕ) (l : Layer) → IsFormedFormula (roll-FormulaTree l) → lead l ≡ Some the.OpenParen → (u : Token) (us more : List Token) → is_name u ≡ true → heads (is the.Equals) us ≡ true
    → Agree 2 (u ∷ us) (rest_texts k l ++ more) → Made (equals_at k) equal_of (roll-FormulaTree l)
unfolding lead rest_marks
equal_back k (layer.Equal t l r) f e u us more d g a =
    let h = both_true _ _ (formed-roll (layer.Equal t l r) f) in
    record { from = ((((t, l), 0), r), 0); formed = ((((tt, h.0), tt), h.1), tt); is = sym (tree.rolls-Equal t l r) }
equal_back k (layer.Paren t i) f e u us more d g a =
    let h = behind_formula (suc k) the.CloseParen refl refl i u us more d (subst (λ z. Agree 2 (u ∷ us) z) (both_then (formula_at i (suc k)) (fixed the.CloseParen ∷ []) more) a) in
    absurd (false≢true (sym h.no_equals ∙ sym (h.begins_so (is the.Equals)) ∙ g))
equal_back k (layer.And t ps) f e u us more d g a =
    let h = behind_parts (suc k) the.And refl refl ps (formed-roll (layer.And t ps) f) u us more d a in absurd (false≢true (sym h.no_equals ∙ sym (h.begins_so (is the.Equals)) ∙ g))
equal_back k (layer.Or t ps) f e u us more d g a =
    let h = behind_parts (suc k) the.Or refl refl ps (formed-roll (layer.Or t ps) f) u us more d a in absurd (false≢true (sym h.no_equals ∙ sym (h.begins_so (is the.Equals)) ∙ g))
equal_back k _ f e u us more d g a = absurd (cc)

-- ---- what begins with a parenthesis

module _ (k : ℕ) (l : k ≤ 64) (n : ℕ) (x : Token) (d : is_name x ≡ false) (s : starter_of x ≡ Some the.OpenParen) where
  pub equality_reads : (u : Token) (us : List Token) → is_name u ≡ true → begins the.Equals us ≡ true → Reads (formulas_at k) Any n (x ∷ u ∷ us) (equality n (x ∷ u ∷ us))
  unfolding equality
  equality_reads u us e g = made_from k (equal_makes k)
      (then (then (then (then (opened_reads k l the.OpenParen n (x ∷ u ∷ us)) name_part) (plain_part the.Equals)) name_part) (plain_part the.CloseParen)) 2
      (record { value = ((((0, record { token = 0; text = u }), 0), some_name), 0); after = []; formed = ((((tt, e), tt), refl), tt); may_follow = tt; agrees = (starter-text x the.OpenParen s, (refl, tt)); shallow = (l, (tt, tt)) })
      (λ a. omega arith)
      (λ c more f _ h a. equal_back k c f (lead-first c x f d h ∙ s) u us more e g a)

  module _ (item : Reader FormulaTree) (p : Part (formulas_at (suc k)) NotOpen item) where
    inside_by : (ts : List Token) (j : ℕ) → j ≤ 2 → NoEquality j ts → Witness (inside_at k) Any (x ∷ ts) j → Reads (formulas_at k) Any n (x ∷ ts) (inside item n (x ∷ ts))
    unfolding inside
    inside_by ts j few no_equality w = made_from k (inside_makes k)
        (pair (then (opened_reads k l the.OpenParen n (x ∷ ts)) p) (tail_part (suc k) item p) (λ c more f _. tail_follows (suc k) c more f)) j w
        (λ a. omega (arith, few, tail_long (suc k) a.1, formula_long (suc k) a.0.1, length-append (formula_at a.0.1 (suc k)) (tail_marks (suc k) a.1)))
        (λ c more f _ h a. inside_back k j ts no_equality c more f (lead-first c x f d h ∙ s) a)

    -- no name stands behind the parenthesis
    pub inside_other : (ts : List Token) → name_begins ts ≡ false → Reads (formulas_at k) Any n (x ∷ ts) (inside item n (x ∷ ts))
    inside_other ts e = inside_by ts 1 (omega arith) (λ c more f a. false≢true (sym e ∙ Agree-heads is_name ts _ a ∙ f))
        (record { value = ((0, tree.True 0), closed); after = []; formed = ((tt, some_formula), tt); may_follow = tt; agrees = (starter-text x the.OpenParen s, tt); shallow = (l, tt) })

    -- a name does, and no `=` behind it
    pub inside_name : suc k ≤ 64 → (u : Token) (us : List Token) → is_name u ≡ true → begins the.Equals us ≡ false → Reads (formulas_at k) Any n (x ∷ u ∷ us) (inside item n (x ∷ u ∷ us))
    inside_name m u us e g =
        let b : AtomTree = record { name = record { token = 0; text = u }; args = [] } in
        let marks = eq.formula_at-Atom b (suc k) in
        inside_by (u ∷ us) 2 (omega arith) (λ c more f a. false≢true (sym g ∙ Agree-heads (is the.Equals) us _ a.1))
        (record {
          value = ((0, tree.Atom b), closed);
          after = [];
          formed = ((tt, eq.formed-Atom b ∙ and_true _ _ e refl), tt);
          may_follow = tt;
          agrees = (starter-text x the.OpenParen s, rw marks (refl, tt));
          shallow = (l, rw marks (m, tt));
        })
