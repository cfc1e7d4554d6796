-- The law of the reader of formulas.
use Rattle.std.proofs.Common.{◌≡◌, ℕ, zero, suc, ◌+◌, ◌≤◌, Bool, true, false, cond, List, [], ◌∷◌, ◌++◌, length, Option, Some, refl, sym, ap, ◌∙◌, subst, arith, append_assoc}
use Rattle.std.specs.Prelude.{nat_le, ◌==◌}
use Rattle.std.proofs.lemmas.Bool.{false≢true, le-leb}
use Rattle.ep_tree.specs.declared.terminal.Terminal.{Terminal}
use Rattle.ep_tree.specs.declared.terminal.Terminal.TheVariants as the
use Rattle.ep_tree.specs.declared.tree.ParamTree.{ParamTree}
use Rattle.ep_tree.specs.declared.tree.FormulaTree.{FormulaTree, roll-FormulaTree}
use Rattle.ep_tree.specs.declared.tree.FormulaTree.TheOpen as layer
use Rattle.ep_tree.specs.declared.tree.FormulaTree.TheVariants as tree
use Rattle.ep_tree.specs.Formed.{OneOrMore, formed_formula, formed_param, formed_params, IsFormedFormula, IsFormedParam}
use Rattle.ep_syntax.specs.FormulaReading.{not_of, knows_of, common_of, forall_of, exists_of, starter_of, by_terminal, by_token, formula, outer_formula, atom}
use Rattle.ep_tree.specs.Marks.{Mark, fixed, opening}
use Rattle.ep_reader.specs.Reading.{Token, Reader, made, whole}
use Rattle.ep_tree.specs.Spelling.{formula_at}
use Rattle.ep_tree.specs.Spelling as spell
use Rattle.ep_tree.specs.Terminals.{is_name}
use Rattle.ep_syntax.proofs.AtomLaws.{NotOpen, atoms_at, atom_reads, groups_one, group_part, params_of, params_part}
use Rattle.ep_syntax.proofs.Layers.{Layer, formulas_at, first_text, formed-roll, lead, lead-first, is_lead, name-first, some_formula, no_reads, end_reads}
use Rattle.ep_syntax.proofs.DeepLaws.{opened_law, too_deep_reads}
use Rattle.ep_syntax.proofs.ParenLaws.{made_from_first}
use Rattle.ep_reader.proofs.CallerLemmas as reader
use Rattle.ep_tree.proofs.CallerLemmas as eq
use Rattle.ep_tree.specs.Grammar.{formulas}
use Rattle.ep_reader.proofs.CallerLemmas.{each-list_all, list_all-each, and_true, Outcome, both, Made, Reads, Part, then, less, opened_reads, name_part, names_one, both_true, IsEmpty, whole_outcome}

list_formed : (ps : List ParamTree) → OneOrMore IsFormedParam ps → formed_params ps ≡ true
list_formed [] f = absurd f
list_formed (p ∷ ps) f =
    let l : 1 ≤ length (p ∷ ps) = omega arith in
    and_true _ _ (le-leb 1 (length (p ∷ ps)) l) (list_all-each formed_param (p ∷ ps) f)

formed_list : (ps : List ParamTree) → formed_params ps ≡ true → OneOrMore IsFormedParam ps
formed_list [] e = absurd (false≢true e)
formed_list (p ∷ ps) e = each-list_all formed_param (p ∷ ps) (both_true (nat_le 1 (length (p ∷ ps))) _ e).1

params_then : (ps : List ParamTree) (rest : List Mark) → fixed the.OpenParen ∷ (spell.params ps ++ fixed the.CloseParen ∷ rest) ≡ (fixed the.OpenParen ∷ (spell.params ps ++ fixed the.CloseParen ∷ [])) ++ rest
params_then ps rest = ap (λ z. fixed the.OpenParen ∷ z) (sym (append_assoc (spell.params ps) (fixed the.CloseParen ∷ []) rest))

-- ---- what the layers that begin with a terminal are made of

module _ (k : ℕ) where
  true_back : (l : Layer) → lead l ≡ Some the.True → Made (reader.opened k the.True) tree.True (roll-FormulaTree l)
  unfolding lead
  true_back (layer.True t) e = record { from = t; formed = tt; is = sym (tree.rolls-True t) }
  true_back _ e = absurd (cc)

  false_back : (l : Layer) → lead l ≡ Some the.False → Made (reader.opened k the.False) tree.False (roll-FormulaTree l)
  unfolding lead
  false_back (layer.False t) e = record { from = t; formed = tt; is = sym (tree.rolls-False t) }
  false_back _ e = absurd (cc)

  not_back : (l : Layer) → IsFormedFormula (roll-FormulaTree l) → lead l ≡ Some the.Not → Made (both (reader.opened k the.Not) (formulas_at (suc k))) not_of (roll-FormulaTree l)
  unfolding lead
  not_back (layer.Not t i) f e = record { from = (t, i); formed = (tt, formed-roll (layer.Not t i) f); is = sym (tree.rolls-Not t i) }
  not_back _ f e = absurd (cc)

  knows_back : (l : Layer) → IsFormedFormula (roll-FormulaTree l) → lead l ≡ Some the.Knows
      → Made (both (both (reader.opened k the.Knows) names_one) (formulas_at (suc k))) knows_of (roll-FormulaTree l)
  unfolding lead
  knows_back (layer.Knows t n i) f e =
      let h = both_true _ _ (formed-roll (layer.Knows t n i) f) in record { from = ((t, n), i); formed = ((tt, h.0), h.1); is = sym (tree.rolls-Knows t n i) }
  knows_back _ f e = absurd (cc)

  common_back : (l : Layer) → IsFormedFormula (roll-FormulaTree l) → lead l ≡ Some the.Common
      → Made (both (both (reader.opened k the.Common) groups_one) (formulas_at (suc k))) common_of (roll-FormulaTree l)
  unfolding lead
  common_back (layer.Common t g i) f e =
      let h = both_true _ _ (formed-roll (layer.Common t g i) f) in record { from = ((t, g), i); formed = ((tt, h.0), h.1); is = sym (tree.rolls-Common t g i) }
  common_back _ f e = absurd (cc)

  forall_back : (l : Layer) → IsFormedFormula (roll-FormulaTree l) → lead l ≡ Some the.Forall
      → Made (both (both (reader.opened k the.Forall) params_of) (formulas_at (suc k))) forall_of (roll-FormulaTree l)
  unfolding lead
  forall_back (layer.Forall t ps i) f e =
      let h = both_true _ _ (formed-roll (layer.Forall t ps i) f) in
      record { from = ((t, ps), i); formed = ((tt, formed_list ps h.0), h.1); is = sym (tree.rolls-Forall t ps i) }
  forall_back _ f e = absurd (cc)

  exists_back : (l : Layer) → IsFormedFormula (roll-FormulaTree l) → lead l ≡ Some the.Exists
      → Made (both (both (reader.opened k the.Exists) params_of) (formulas_at (suc k))) exists_of (roll-FormulaTree l)
  unfolding lead
  exists_back (layer.Exists t ps i) f e =
      let h = both_true _ _ (formed-roll (layer.Exists t ps i) f) in
      record { from = ((t, ps), i); formed = ((tt, formed_list ps h.0), h.1); is = sym (tree.rolls-Exists t ps i) }
  exists_back _ f e = absurd (cc)

atom_back : (k : ℕ) (l : Layer) (x : Token) → is_name x ≡ true → IsFormedFormula (roll-FormulaTree l) → x ≡ first_text l → Made (atoms_at (Some k)) tree.Atom (roll-FormulaTree l)
atom_back k l x d f e =
    let q = name-first l x d e in
    record {
      from = q.0;
      formed = formed-roll (layer.Atom q.0) (ap (λ z. formed_formula (roll-FormulaTree z)) (sym q.1) ∙ f);
      is = sym (tree.rolls-Atom q.0) ∙ ap roll-FormulaTree (sym q.1);
    }

-- ---- one production each

module _ (k depth : ℕ) (all : k + depth ≡ 64) (n : ℕ) (x : Token) (ts : List Token) (d : is_name x ≡ false)
    (item : Reader FormulaTree) (p : Part (formulas_at (suc k)) NotOpen item) where
  few : k ≤ 64
  few = omega arith

  by_terminal_reads : (o : Option Terminal) → starter_of x ≡ o → Reads (formulas_at k) NotOpen n (x ∷ ts) (by_terminal (depth == 0) item o n (x ∷ ts))
  by_terminal_reads (Some the.True) s = made_from_first k (record { marks = λ t _. eq.formula_at-True t k; formed = λ t _. eq.formed-True t; bare = λ t. eq.bare-True t })
      (less (opened_reads k few the.True n (x ∷ ts))) (λ l f h. true_back k l (lead-first l x f d h ∙ s))
  by_terminal_reads (Some the.False) s = made_from_first k (record { marks = λ t _. eq.formula_at-False t k; formed = λ t _. eq.formed-False t; bare = λ t. eq.bare-False t })
      (less (opened_reads k few the.False n (x ∷ ts))) (λ l f h. false_back k l (lead-first l x f d h ∙ s))
  by_terminal_reads (Some the.Not) s = made_from_first k
      (record { marks = λ a _. eq.formula_at-Not a.0 a.1 k; formed = λ a f. eq.formed-Not a.0 a.1 ∙ f.1; bare = λ a. eq.bare-Not a.0 a.1 })
      (then (opened_reads k few the.Not n (x ∷ ts)) p) (λ l f h. not_back k l f (lead-first l x f d h ∙ s))
  by_terminal_reads (Some the.Knows) s = made_from_first k
      (record { marks = λ a _. eq.formula_at-Knows a.0.0 a.0.1 a.1 k; formed = λ a f. eq.formed-Knows a.0.0 a.0.1 a.1 ∙ and_true _ _ f.0.1 f.1; bare = λ a. eq.bare-Knows a.0.0 a.0.1 a.1 })
      (then (then (opened_reads k few the.Knows n (x ∷ ts)) name_part) p) (λ l f h. knows_back k l f (lead-first l x f d h ∙ s))
  by_terminal_reads (Some the.Common) s = made_from_first k
      (record { marks = λ a _. eq.formula_at-Common a.0.0 a.0.1 a.1 k; formed = λ a f. eq.formed-Common a.0.0 a.0.1 a.1 ∙ and_true _ _ f.0.1 f.1; bare = λ a. eq.bare-Common a.0.0 a.0.1 a.1 })
      (then (then (opened_reads k few the.Common n (x ∷ ts)) group_part) p) (λ l f h. common_back k l f (lead-first l x f d h ∙ s))
  by_terminal_reads (Some the.Forall) s = made_from_first k
      (record {
        marks = λ a _. eq.formula_at-Forall a.0.0 a.0.1 a.1 k ∙ ap (λ z. opening k a.0.0 the.Forall ∷ z) (params_then a.0.1 (formula_at a.1 (suc k)));
        formed = λ a f. eq.formed-Forall a.0.0 a.0.1 a.1 ∙ and_true _ _ (list_formed a.0.1 f.0.1) f.1;
        bare = λ a. eq.bare-Forall a.0.0 a.0.1 a.1;
      })
      (then (then (opened_reads k few the.Forall n (x ∷ ts)) params_part) p) (λ l f h. forall_back k l f (lead-first l x f d h ∙ s))
  by_terminal_reads (Some the.Exists) s = made_from_first k
      (record {
        marks = λ a _. eq.formula_at-Exists a.0.0 a.0.1 a.1 k ∙ ap (λ z. opening k a.0.0 the.Exists ∷ z) (params_then a.0.1 (formula_at a.1 (suc k)));
        formed = λ a f. eq.formed-Exists a.0.0 a.0.1 a.1 ∙ and_true _ _ (list_formed a.0.1 f.0.1) f.1;
        bare = λ a. eq.bare-Exists a.0.0 a.0.1 a.1;
      })
      (then (then (opened_reads k few the.Exists n (x ∷ ts)) params_part) p) (λ l f h. exists_back k l f (lead-first l x f d h ∙ s))
  by_terminal_reads (Some the.OpenParen) s = less (opened_law k depth all n x d s item p ts)
  by_terminal_reads o s = no_reads k n x ts d (ap is_lead s)

module _ (k depth : ℕ) (all : k + depth ≡ 64) (item : Reader FormulaTree) (p : Part (formulas_at (suc k)) NotOpen item) where
  by_token_reads : (n : ℕ) (ts : List Token) → Reads (formulas_at k) NotOpen n ts (by_token (depth == 0) item n ts)
  unfolding by_token
  by_token_reads n [] = end_reads k n
  by_token_reads n (x ∷ ts) = by_name (is_name x) refl
    where
      by_name : (b : Bool) → is_name x ≡ b → Reads (formulas_at k) NotOpen n (x ∷ ts) (cond b (made tree.Atom (atom n (x ∷ ts))) (by_terminal (depth == 0) item (starter_of x) n (x ∷ ts)))
      by_name true d = made_from_first k (record { marks = λ a _. eq.formula_at-Atom a k; formed = λ a f. eq.formed-Atom a ∙ f; bare = λ a. eq.bare-Atom a })
          (atom_reads (Some k) (omega arith) n (x ∷ ts)) (λ l f h. atom_back k l x d f h)
      by_name false d = by_terminal_reads k depth all n x ts d item p (starter_of x) refl

pub formula_part : (depth k : ℕ) → k + depth ≡ 65 → Part (formulas_at k) NotOpen (formula depth)
unfolding formula
formula_part zero k all = let h : 65 ≡ k = omega arith in
    subst (λ z. Part (formulas_at z) NotOpen (formula zero)) h (record { reads = too_deep_reads; value = tree.True 0; formed = some_formula })
formula_part (suc depth) k all = record {
  reads = by_token_reads k depth (omega arith) (formula depth) (formula_part depth (suc k) (omega arith));
  value = tree.True 0;
  formed = some_formula;
}

pub formula_outcome : (ts : List Token) → Outcome formulas IsEmpty 0 ts (whole outer_formula 0 ts)
formula_outcome ts = whole_outcome (formula_part 64 1 refl) refl ts
