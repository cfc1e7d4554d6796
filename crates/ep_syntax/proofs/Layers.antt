-- A formula's layer: its first token, and what stands behind it.
use Rattle.std.proofs.Common.{◌≡◌, ℕ, suc, ◌≤◌, Bool, true, false, cond, List, [], ◌∷◌, ◌++◌, length, map, Option, Some, None, Err, refl, sym, ap, ◌∙◌, subst, arith}
use Rattle.std.specs.Prelude.{find}
use Rattle.std.proofs.lemmas.Bool.{false≢true}
use Rattle.ep_tree.specs.declared.terminal.Terminal.{Terminal}
use Rattle.ep_tree.specs.declared.terminal.Terminal.TheVariants as the
use Rattle.ep_tree.specs.declared.tree.AtomTree.{AtomTree}
use Rattle.ep_tree.specs.declared.tree.FormulaTree.{FormulaTree, out-FormulaTree, roll-FormulaTree, roll-out-FormulaTree}
use Rattle.ep_tree.specs.declared.tree.FormulaTree.TheOpen.{FormulaTree-F}
use Rattle.ep_tree.specs.declared.tree.FormulaTree.TheOpen as layer
use Rattle.ep_tree.specs.declared.tree.FormulaTree.TheVariants as tree
use Rattle.ep_tree.specs.declared.tree.FormulaTree.TheFolds.{fold-roll-FormulaTree, map-FormulaTree}
use Rattle.ep_tree.specs.Bare.{bare_formula}
use Rattle.ep_tree.specs.Formed.{formed_layer, formed_formula, IsFormedFormula}
use Rattle.ep_syntax.specs.FormulaReading.{starters, starter_of}
use Rattle.ep_tree.specs.Grammar.{Grammar}
use Rattle.ep_tree.specs.Marks.{Mark, fixed, named, texts}
use Rattle.ep_reader.specs.Reading.{Token, Syntax}
use Rattle.ep_tree.specs.Terminals.{is}
use Rattle.ep_tree.specs.Spelling.{between, formula_at}
use Rattle.ep_tree.specs.Spelling as spell
use Rattle.ep_tree.specs.Terminals.{text_of, is_name}
use Rattle.ep_tree.proofs.CallerLemmas as eq
use Rattle.ep_reader.proofs.CallerLemmas.{Follow, Agree, Reads, is-true, both_true}

abbrev pub Layer : Type 0
Layer = FormulaTree-F FormulaTree

-- formulas of one nesting
abbrev pub formulas_at : ℕ → Grammar FormulaTree
formulas_at k = record { marks = λ f. formula_at f k; IsFormed = IsFormedFormula; bare = bare_formula }

-- ---- the first token of a layer

unfoldable pub first_text : Layer → Token
first_text (layer.True t) = text_of the.True
first_text (layer.False t) = text_of the.False
first_text (layer.Atom a) = a.name.text
first_text (layer.Not t i) = text_of the.Not
first_text (layer.Knows t n i) = text_of the.Knows
first_text (layer.Common t g i) = text_of the.Common
first_text (layer.Forall t ps i) = text_of the.Forall
first_text (layer.Exists t ps i) = text_of the.Exists
first_text (layer.Equal t l r) = text_of the.OpenParen
first_text (layer.Paren t i) = text_of the.OpenParen
first_text (layer.And t ps) = text_of the.OpenParen
first_text (layer.Or t ps) = text_of the.OpenParen

unfoldable pub rest_marks : ℕ → Layer → List Mark
rest_marks k (layer.True t) = []
rest_marks k (layer.False t) = []
rest_marks k (layer.Atom a) = spell.arguments a.args
rest_marks k (layer.Not t i) = formula_at i (suc k)
rest_marks k (layer.Knows t n i) = named n ∷ formula_at i (suc k)
rest_marks k (layer.Common t g i) = spell.group g ++ formula_at i (suc k)
rest_marks k (layer.Forall t ps i) = fixed the.OpenParen ∷ (spell.params ps ++ fixed the.CloseParen ∷ formula_at i (suc k))
rest_marks k (layer.Exists t ps i) = fixed the.OpenParen ∷ (spell.params ps ++ fixed the.CloseParen ∷ formula_at i (suc k))
rest_marks k (layer.Equal t l r) = named l ∷ fixed the.Equals ∷ named r ∷ fixed the.CloseParen ∷ []
rest_marks k (layer.Paren t i) = formula_at i (suc k) ++ fixed the.CloseParen ∷ []
rest_marks k (layer.And t ps) = between the.And (map (λ p. formula_at p (suc k)) ps) ++ fixed the.CloseParen ∷ []
rest_marks k (layer.Or t ps) = between the.Or (map (λ p. formula_at p (suc k)) ps) ++ fixed the.CloseParen ∷ []

-- the number that a layer holds for its first token
unfoldable pub first_number : Layer → ℕ
first_number (layer.True t) = t
first_number (layer.False t) = t
first_number (layer.Atom a) = a.name.token
first_number (layer.Not t i) = t
first_number (layer.Knows t n i) = t
first_number (layer.Common t g i) = t
first_number (layer.Forall t ps i) = t
first_number (layer.Exists t ps i) = t
first_number (layer.Equal t l r) = t
first_number (layer.Paren t i) = t
first_number (layer.And t ps) = t
first_number (layer.Or t ps) = t

unfoldable pub first_mark : ℕ → Layer → Mark
first_mark k l = record { number = Some (first_number l); text = first_text l; nesting = Some k }

marks-roll : (k : ℕ) (l : Layer) → formula_at (roll-FormulaTree l) k ≡ first_mark k l ∷ rest_marks k l
unfolding first_mark first_number first_text rest_marks
marks-roll k (layer.True t) = ap (λ f. formula_at f k) (tree.rolls-True t) ∙ eq.formula_at-True t k
marks-roll k (layer.False t) = ap (λ f. formula_at f k) (tree.rolls-False t) ∙ eq.formula_at-False t k
marks-roll k (layer.Atom a) = ap (λ f. formula_at f k) (tree.rolls-Atom a) ∙ eq.formula_at-Atom a k
marks-roll k (layer.Not t i) = ap (λ f. formula_at f k) (tree.rolls-Not t i) ∙ eq.formula_at-Not t i k
marks-roll k (layer.Knows t n i) = ap (λ f. formula_at f k) (tree.rolls-Knows t n i) ∙ eq.formula_at-Knows t n i k
marks-roll k (layer.Common t g i) = ap (λ f. formula_at f k) (tree.rolls-Common t g i) ∙ eq.formula_at-Common t g i k
marks-roll k (layer.Forall t ps i) = ap (λ f. formula_at f k) (tree.rolls-Forall t ps i) ∙ eq.formula_at-Forall t ps i k
marks-roll k (layer.Exists t ps i) = ap (λ f. formula_at f k) (tree.rolls-Exists t ps i) ∙ eq.formula_at-Exists t ps i k
marks-roll k (layer.Equal t l r) = ap (λ f. formula_at f k) (tree.rolls-Equal t l r) ∙ eq.formula_at-Equal t l r k
marks-roll k (layer.Paren t i) = ap (λ f. formula_at f k) (tree.rolls-Paren t i) ∙ eq.formula_at-Paren t i k
marks-roll k (layer.And t ps) = ap (λ f. formula_at f k) (tree.rolls-And t ps) ∙ eq.formula_at-And t ps k
marks-roll k (layer.Or t ps) = ap (λ f. formula_at f k) (tree.rolls-Or t ps) ∙ eq.formula_at-Or t ps k

pub formed-roll : (l : Layer) → IsFormedFormula (roll-FormulaTree l) → formed_layer (map-FormulaTree FormulaTree Bool formed_formula l) ≡ true
formed-roll l e = sym (fold-roll-FormulaTree Bool formed_layer l) ∙ e

-- every formula from its layer
pub marks-out : (k : ℕ) (b : FormulaTree) → formula_at b k ≡ first_mark k (out-FormulaTree b) ∷ rest_marks k (out-FormulaTree b)
marks-out k b = ap (λ f. formula_at f k) (sym (roll-out-FormulaTree b)) ∙ marks-roll k (out-FormulaTree b)

abbrev pub rest_texts : ℕ → Layer → List Token
rest_texts k l = texts (rest_marks k l)

pub texts-out : (k : ℕ) (b : FormulaTree) → texts (formula_at b k) ≡ first_text (out-FormulaTree b) ∷ rest_texts k (out-FormulaTree b)
unfolding first_mark
texts-out k b = ap texts (marks-out k b)

pub formed-out : (b : FormulaTree) → IsFormedFormula b → IsFormedFormula (roll-FormulaTree (out-FormulaTree b))
formed-out b f = ap formed_formula (roll-out-FormulaTree b) ∙ f

pub formula_long : (k : ℕ) (b : FormulaTree) → 1 ≤ length (formula_at b k)
formula_long k b = omega (arith, ap length (marks-out k b))

-- ---- the terminal that a layer begins with

unfoldable pub lead : Layer → Option Terminal
lead (layer.True t) = Some the.True
lead (layer.False t) = Some the.False
lead (layer.Atom a) = None
lead (layer.Not t i) = Some the.Not
lead (layer.Knows t n i) = Some the.Knows
lead (layer.Common t g i) = Some the.Common
lead (layer.Forall t ps i) = Some the.Forall
lead (layer.Exists t ps i) = Some the.Exists
lead (layer.Equal t l r) = Some the.OpenParen
lead (layer.Paren t i) = Some the.OpenParen
lead (layer.And t ps) = Some the.OpenParen
lead (layer.Or t ps) = Some the.OpenParen

pub lead-first : (l : Layer) (x : Token) → IsFormedFormula (roll-FormulaTree l) → is_name x ≡ false → x ≡ first_text l → lead l ≡ starter_of x
unfolding first_text lead
lead-first (layer.Atom a) x f d e = absurd (false≢true (sym d ∙ ap is_name e ∙ (both_true _ _ (formed-roll (layer.Atom a) f)).0))
lead-first (layer.True t) x f d e = sym (ap starter_of e)
lead-first (layer.False t) x f d e = sym (ap starter_of e)
lead-first (layer.Not t i) x f d e = sym (ap starter_of e)
lead-first (layer.Knows t n i) x f d e = sym (ap starter_of e)
lead-first (layer.Common t g i) x f d e = sym (ap starter_of e)
lead-first (layer.Forall t ps i) x f d e = sym (ap starter_of e)
lead-first (layer.Exists t ps i) x f d e = sym (ap starter_of e)
lead-first (layer.Equal t l r) x f d e = sym (ap starter_of e)
lead-first (layer.Paren t i) x f d e = sym (ap starter_of e)
lead-first (layer.And t ps) x f d e = sym (ap starter_of e)
lead-first (layer.Or t ps) x f d e = sym (ap starter_of e)

-- a layer that begins with a name is an atom
pub name-first : (l : Layer) (x : Token) → is_name x ≡ true → x ≡ first_text l → (a : AtomTree) × (l ≡ layer.Atom a)
unfolding first_text
name-first (layer.Atom a) x d e = (a, refl)
name-first (layer.True t) x d e = absurd (false≢true (sym (ap is_name e) ∙ d))
name-first (layer.False t) x d e = absurd (false≢true (sym (ap is_name e) ∙ d))
name-first (layer.Not t i) x d e = absurd (false≢true (sym (ap is_name e) ∙ d))
name-first (layer.Knows t n i) x d e = absurd (false≢true (sym (ap is_name e) ∙ d))
name-first (layer.Common t g i) x d e = absurd (false≢true (sym (ap is_name e) ∙ d))
name-first (layer.Forall t ps i) x d e = absurd (false≢true (sym (ap is_name e) ∙ d))
name-first (layer.Exists t ps i) x d e = absurd (false≢true (sym (ap is_name e) ∙ d))
name-first (layer.Equal t l r) x d e = absurd (false≢true (sym (ap is_name e) ∙ d))
name-first (layer.Paren t i) x d e = absurd (false≢true (sym (ap is_name e) ∙ d))
name-first (layer.And t ps) x d e = absurd (false≢true (sym (ap is_name e) ∙ d))
name-first (layer.Or t ps) x d e = absurd (false≢true (sym (ap is_name e) ∙ d))

find-true : (p : Terminal → Bool) (xs : List Terminal) (w : Terminal) → find p xs ≡ Some w → p w ≡ true
find-true p [] w e = absurd (cc)
find-true p (x ∷ xs) w e = found (p x) (find p xs) refl e (λ g. find-true p xs w g)
  where
    found : (b : Bool) (rest : Option Terminal) → p x ≡ b → cond b (Some x) rest ≡ Some w → (rest ≡ Some w → p w ≡ true) → p w ≡ true
    found true rest d e next = let h : x ≡ w = cc in ap p (sym h) ∙ d
    found false rest d e next = next e

pub starter-text : (x : Token) (w : Terminal) → starter_of x ≡ Some w → x ≡ text_of w
starter-text x w e = is-true w x (find-true (λ w. is w x) starters w e)

abbrev pub is_lead : Option Terminal → Bool
is_lead (Some the.True) = true
is_lead (Some the.False) = true
is_lead (Some the.Not) = true
is_lead (Some the.Knows) = true
is_lead (Some the.Common) = true
is_lead (Some the.Forall) = true
is_lead (Some the.Exists) = true
is_lead (Some the.OpenParen) = true
is_lead _ = false

pub lead-is_lead : (l : Layer) → IsFormedFormula (roll-FormulaTree l) → (x : Token) → is_name x ≡ false → x ≡ first_text l → is_lead (lead l) ≡ true
unfolding lead first_text
lead-is_lead (layer.Atom a) f x d e = absurd (false≢true (sym d ∙ ap is_name e ∙ (both_true _ _ (formed-roll (layer.Atom a) f)).0))
lead-is_lead (layer.True t) f x d e = refl
lead-is_lead (layer.False t) f x d e = refl
lead-is_lead (layer.Not t i) f x d e = refl
lead-is_lead (layer.Knows t n i) f x d e = refl
lead-is_lead (layer.Common t g i) f x d e = refl
lead-is_lead (layer.Forall t ps i) f x d e = refl
lead-is_lead (layer.Exists t ps i) f x d e = refl
lead-is_lead (layer.Equal t l r) f x d e = refl
lead-is_lead (layer.Paren t i) f x d e = refl
lead-is_lead (layer.And t ps) f x d e = refl
lead-is_lead (layer.Or t ps) f x d e = refl

pub some_formula : IsFormedFormula (tree.True 0)
some_formula = eq.formed-True 0

-- ---- no formula begins here

-- no formula begins with the token
pub no_reads : {F : Follow} (k n : ℕ) (x : Token) (ts : List Token) → is_name x ≡ false → is_lead (starter_of x) ≡ false → Reads (formulas_at k) F n (x ∷ ts) (Err (Syntax n))
no_reads k n x ts d e = record {
  holds = record {
    front = [];
    back = x ∷ ts;
    text = refl;
    at = omega arith;
    none = λ b more f s a.
        let h : Agree 1 (x ∷ ts) (first_text (out-FormulaTree b) ∷ (rest_texts k (out-FormulaTree b) ++ more)) = subst (λ z. Agree 1 (x ∷ ts) (z ++ more)) (texts-out k b) a in
        let l = out-FormulaTree b in
        false≢true (sym e ∙ sym (ap is_lead (lead-first l x (formed-out b f) d h.0)) ∙ lead-is_lead l (formed-out b f) x d h.0);
    value = tree.True 0;
    more = texts (formula_at (tree.True 0) k);
    formed = some_formula;
    begins = refl;
    shallow = tt;
  };
}

pub end_reads : {F : Follow} (k n : ℕ) → Reads (formulas_at k) F n [] (Err (Syntax n))
end_reads k n = record {
  holds = record {
    front = [];
    back = [];
    text = refl;
    at = omega arith;
    none = λ b more f s a. subst (λ z. Agree 1 [] (z ++ more)) (texts-out k b) a;
    value = tree.True 0;
    more = texts (formula_at (tree.True 0) k);
    formed = some_formula;
    begins = refl;
    shallow = tt;
  };
}
