-- The laws of the readers where no nesting is left.
use Rattle.std.proofs.Common.{◌≡◌, ℕ, zero, suc, ◌+◌, ◌≤◌, Bool, true, false, cond, ◌&&◌, ◌||◌, List, [], ◌∷◌, ◌++◌, map, Option, Some, None, Err, refl, sym, ap, ◌∙◌, subst, arith}
use Rattle.std.specs.Prelude.{◌==◌, is_some}
use Rattle.std.proofs.Math.Dec.{eqb-suc-zero}
use Rattle.std.proofs.lemmas.Bool.{false≢true}
use Rattle.ep_tree.specs.declared.terminal.Terminal.{Terminal}
use Rattle.ep_tree.specs.declared.terminal.Terminal.TheVariants as the
use Rattle.ep_tree.specs.declared.tree.AtomTree.{AtomTree}
use Rattle.ep_tree.specs.declared.tree.GroupTree.TheVariants as group_tree
use Rattle.ep_tree.specs.declared.tree.FormulaTree.{FormulaTree, out-FormulaTree, roll-FormulaTree}
use Rattle.ep_tree.specs.declared.tree.FormulaTree.TheOpen as layer
use Rattle.ep_tree.specs.declared.tree.FormulaTree.TheVariants as tree
use Rattle.ep_tree.specs.Formed.{formed_formula, formed_params, formed_parts, IsFormedFormula}
use Rattle.ep_syntax.specs.FormulaReading.{is_equality, follows, deep_name, opened, starter_of, too_deep, inside}
use Rattle.ep_tree.specs.Marks.{fixed, texts, nesting_at}
use Rattle.ep_reader.specs.Reading.{Token, Syntax, TooDeep, Reader, begins, heads, name_begins}
use Rattle.ep_tree.specs.Terminals.{is}
use Rattle.ep_tree.specs.Spelling.{behind, between, formula_at}
use Rattle.ep_tree.specs.Spelling as spell
use Rattle.ep_tree.specs.Terminals.{text_of, is_name}
use Rattle.ep_syntax.proofs.AtomLaws.{NotOpen, some_param}
use Rattle.ep_syntax.proofs.Layers.{Layer, formulas_at, first_text, first_mark, rest_marks, rest_texts, marks-out, texts-out, formed-out, formed-roll, lead, lead-first, is_lead, starter-text, some_formula, no_reads, end_reads}
use Rattle.ep_syntax.proofs.ParenLaws.{followed, equality_reads, inside_other, inside_name}
use Rattle.ep_tree.proofs.CallerLemmas as eq
use Rattle.ep_reader.proofs.CallerLemmas.{and_true, Follow, Agree-heads, Agree, IsShallowTo, Opens, Opens-more, Reads, Part, Any, either, is-true, some_name, both_true}

-- ---- the first token of a formula has its nesting

formula_opens : (k : ℕ) (b : FormulaTree) → nesting_at (formula_at b k) 0 ≡ Some k
unfolding first_mark
formula_opens k b = ap (λ z. nesting_at z 0) (marks-out k b)

formula_shallow : (k : ℕ) → k ≤ 64 → (b : FormulaTree) → IsShallowTo 1 (formula_at b k)
unfolding first_mark
formula_shallow k l b = subst (IsShallowTo 1) (sym (marks-out k b)) (l, tt)

-- ---- some formula for each first token

abbrev atom_named : Token → FormulaTree
atom_named u = tree.Atom (record { name = record { token = 0; text = u }; args = [] })

pub atom_named-formed : (u : Token) → is_name u ≡ true → IsFormedFormula (atom_named u)
atom_named-formed u e = eq.formed-Atom _ ∙ and_true _ _ e refl

atom_named-texts : (u : Token) (k : ℕ) → texts (formula_at (atom_named u) k) ≡ u ∷ []
atom_named-texts u k = ap texts (eq.formula_at-Atom _ k)

-- a formula that begins so
pub record Beginning (k : ℕ) (front : List Token) : Type 0 where
  pub tree : FormulaTree
  pub more : List Token
  pub formed : IsFormedFormula tree
  pub begins : texts (formula_at tree k) ≡ front ++ more

some_params : formed_params (some_param ∷ []) ≡ true
some_params = refl

beginning : (k : ℕ) (w : Terminal) (x : Token) → starter_of x ≡ Some w → x ≡ text_of w → Beginning k (x ∷ [])
beginning k the.True x s e = record { tree = tree.True 0; more = _; formed = some_formula; begins = ap texts (eq.formula_at-True 0 k) ∙ ap (λ z. z ∷ []) (sym e) }
beginning k the.False x s e = record { tree = tree.False 0; more = _; formed = eq.formed-False 0; begins = ap texts (eq.formula_at-False 0 k) ∙ ap (λ z. z ∷ []) (sym e) }
beginning k the.Not x s e = record {
  tree = tree.Not 0 (tree.True 0);
  more = _;
  formed = eq.formed-Not 0 (tree.True 0) ∙ some_formula;
  begins = ap texts (eq.formula_at-Not 0 (tree.True 0) k) ∙ ap (λ z. z ∷ texts (formula_at (tree.True 0) (suc k))) (sym e);
}
beginning k the.Knows x s e = record {
  tree = tree.Knows 0 some_name (tree.True 0);
  more = _;
  formed = eq.formed-Knows 0 some_name (tree.True 0) ∙ and_true _ _ refl some_formula;
  begins = ap texts (eq.formula_at-Knows 0 some_name (tree.True 0) k) ∙ ap (λ z. z ∷ some_name.text ∷ texts (formula_at (tree.True 0) (suc k))) (sym e);
}
beginning k the.Common x s e = record {
  tree = tree.Common 0 (group_tree.All 0) (tree.True 0);
  more = _;
  formed = eq.formed-Common 0 (group_tree.All 0) (tree.True 0) ∙ and_true _ _ refl some_formula;
  begins = ap texts (eq.formula_at-Common 0 (group_tree.All 0) (tree.True 0) k) ∙ ap (λ z. z ∷ text_of the.All ∷ texts (formula_at (tree.True 0) (suc k))) (sym e);
}
beginning k the.Forall x s e = record {
  tree = tree.Forall 0 (some_param ∷ []) (tree.True 0);
  more = _;
  formed = eq.formed-Forall 0 (some_param ∷ []) (tree.True 0) ∙ and_true _ _ some_params some_formula;
  begins = ap texts (eq.formula_at-Forall 0 (some_param ∷ []) (tree.True 0) k)
      ∙ ap (λ z. z ∷ texts (fixed the.OpenParen ∷ (spell.params (some_param ∷ []) ++ fixed the.CloseParen ∷ formula_at (tree.True 0) (suc k)))) (sym e);
}
beginning k the.Exists x s e = record {
  tree = tree.Exists 0 (some_param ∷ []) (tree.True 0);
  more = _;
  formed = eq.formed-Exists 0 (some_param ∷ []) (tree.True 0) ∙ and_true _ _ some_params some_formula;
  begins = ap texts (eq.formula_at-Exists 0 (some_param ∷ []) (tree.True 0) k)
      ∙ ap (λ z. z ∷ texts (fixed the.OpenParen ∷ (spell.params (some_param ∷ []) ++ fixed the.CloseParen ∷ formula_at (tree.True 0) (suc k)))) (sym e);
}
beginning k the.OpenParen x s e = record {
  tree = tree.Paren 0 (tree.True 0);
  more = _;
  formed = eq.formed-Paren 0 (tree.True 0) ∙ some_formula;
  begins = ap texts (eq.formula_at-Paren 0 (tree.True 0) k) ∙ ap (λ z. z ∷ texts (formula_at (tree.True 0) (suc k) ++ fixed the.CloseParen ∷ [])) (sym e);
}
beginning k w x s e = let h : starter_of (text_of w) ≡ Some w = sym (ap starter_of e) ∙ s in absurd (cc)

-- ---- where no nesting is left

deep_reads : {F : Follow} (n : ℕ) (x : Token) (ts : List Token) → Beginning 65 (x ∷ []) → Reads (formulas_at 65) F n (x ∷ ts) (Err (TooDeep n))
deep_reads n x ts b = record {
  holds = record {
    front = x ∷ [];
    back = ts;
    text = refl;
    index = 0;
    within = omega arith;
    at = omega arith;
    opens = λ c more f s a. formula_opens 65 c;
    first = λ c more f s a. tt;
    value = b.tree;
    more = b.more;
    formed = b.formed;
    begins = b.begins;
  };
}

or_true : (a b : Bool) → (a || b) ≡ true → b ≡ false → a ≡ true
or_true true b e d = refl
or_true false b e d = sym d ∙ e

some_of : (o : Option Terminal) → is_some o ≡ true → (w : Terminal) × (o ≡ Some w)
some_of (Some w) e = (w, refl)
some_of None e = absurd (false≢true e)

none_of : (o : Option Terminal) → is_some o ≡ false → o ≡ None
none_of (Some w) e = absurd (false≢true (sym e))
none_of None e = refl

starts_by : (x : Token) (b : Bool) → is_name x ≡ b → (b || is_some (starter_of x)) ≡ true → Beginning 65 (x ∷ [])
starts_by x true d e = record { tree = atom_named x; more = []; formed = atom_named-formed x d; begins = atom_named-texts x 65 }
starts_by x false d e = let w = some_of (starter_of x) e in beginning 65 w.0 x w.1 (starter-text x w.0 w.1)

or_false : (a b : Bool) → (a || b) ≡ false → (a ≡ false) × (b ≡ false)
or_false true b e = absurd (false≢true (sym e))
or_false false b e = (refl, e)

pub too_deep_reads : {F : Follow} (n : ℕ) (ts : List Token) → Reads (formulas_at 65) F n ts (too_deep n ts)
too_deep_reads n [] = end_reads 65 n
too_deep_reads n (x ∷ ts) = either (is_name x || is_some (starter_of x))
    (λ e. deep_reads n x ts (starts_by x (is_name x) refl e))
    (λ e. let d = or_false (is_name x) (is_some (starter_of x)) e in no_reads 65 n x ts d.0 (ap is_lead (none_of (starter_of x) d.1)))

-- ---- a name behind a parenthesis, where no nesting is left

parts_open : (t : Terminal) (ps : List FormulaTree) → formed_parts 2 (map formed_formula ps) ≡ true → Opens 0 (between t (map (λ p. formula_at p 65) ps) ++ fixed the.CloseParen ∷ [])
parts_open t [] f = absurd (false≢true f)
parts_open t (p ∷ ps) f =
    Opens-more 0 (formula_at p 65 ++ behind t (map (λ p. formula_at p 65) ps)) (fixed the.CloseParen ∷ [])
    (Opens-more 0 (formula_at p 65) (behind t (map (λ p. formula_at p 65) ps)) (formula_opens 65 p))

-- a name in parentheses, and what may follow it
beginning_behind : (u : Token) → is_name u ≡ true → (t : Terminal) → follows (text_of t) ≡ true → Beginning 64 (text_of the.OpenParen ∷ u ∷ text_of t ∷ [])
beginning_behind u e the.CloseParen f = record {
  tree = tree.Paren 0 (atom_named u);
  more = [];
  formed = eq.formed-Paren 0 (atom_named u) ∙ atom_named-formed u e;
  begins = ap texts (eq.formula_at-Paren 0 (atom_named u) 64) ∙ ap (λ z. text_of the.OpenParen ∷ texts (z ++ fixed the.CloseParen ∷ [])) (eq.formula_at-Atom _ 65);
}
beginning_behind u e the.And f = record {
  tree = tree.And 0 (atom_named u ∷ tree.True 0 ∷ []);
  more = _;
  formed = eq.formed-And 0 (atom_named u ∷ tree.True 0 ∷ []) ∙ and_true _ _ refl (and_true _ _ (atom_named-formed u e) (and_true _ _ some_formula refl));
  begins = ap texts (eq.formula_at-And 0 (atom_named u ∷ tree.True 0 ∷ []) 64)
      ∙ ap (λ z. text_of the.OpenParen ∷ texts ((z ++ behind the.And (formula_at (tree.True 0) 65 ∷ [])) ++ fixed the.CloseParen ∷ [])) (eq.formula_at-Atom _ 65);
}
beginning_behind u e the.Or f = record {
  tree = tree.Or 0 (atom_named u ∷ tree.True 0 ∷ []);
  more = _;
  formed = eq.formed-Or 0 (atom_named u ∷ tree.True 0 ∷ []) ∙ and_true _ _ refl (and_true _ _ (atom_named-formed u e) (and_true _ _ some_formula refl));
  begins = ap texts (eq.formula_at-Or 0 (atom_named u ∷ tree.True 0 ∷ []) 64)
      ∙ ap (λ z. text_of the.OpenParen ∷ texts ((z ++ behind the.Or (formula_at (tree.True 0) 65 ∷ [])) ++ fixed the.CloseParen ∷ [])) (eq.formula_at-Atom _ 65);
}
beginning_behind u e the.OpenParen f =
    let a : AtomTree = record { name = record { token = 0; text = u }; args = some_name ∷ [] } in
    record {
      tree = tree.Paren 0 (tree.Atom a);
      more = _;
      formed = eq.formed-Paren 0 (tree.Atom a) ∙ eq.formed-Atom a ∙ and_true _ _ e refl;
      begins = ap texts (eq.formula_at-Paren 0 (tree.Atom a) 64) ∙ ap (λ z. text_of the.OpenParen ∷ texts (z ++ fixed the.CloseParen ∷ [])) (eq.formula_at-Atom a 65);
    }
beginning_behind u e t f = absurd (false≢true f)

follows_terminal : (v : Token) → follows v ≡ true → (t : Terminal) × (v ≡ text_of t) × (follows (text_of t) ≡ true)
follows_terminal v f = by_open (is the.OpenParen v) refl
  where
    by_or : (b : Bool) → is the.Or v ≡ b → is the.OpenParen v ≡ false → is the.CloseParen v ≡ false → is the.And v ≡ false → (t : Terminal) × (v ≡ text_of t) × (follows (text_of t) ≡ true)
    by_or true e a b c = (the.Or, is-true the.Or v e, refl)
    by_or false e a b c = absurd (false≢true (sym (rw (a, b, c, e) refl) ∙ f))

    by_and : (b : Bool) → is the.And v ≡ b → is the.OpenParen v ≡ false → is the.CloseParen v ≡ false → (t : Terminal) × (v ≡ text_of t) × (follows (text_of t) ≡ true)
    by_and true e a b = (the.And, is-true the.And v e, refl)
    by_and false e a b = by_or (is the.Or v) refl a b e

    by_close : (b : Bool) → is the.CloseParen v ≡ b → is the.OpenParen v ≡ false → (t : Terminal) × (v ≡ text_of t) × (follows (text_of t) ≡ true)
    by_close true e a = (the.CloseParen, is-true the.CloseParen v e, refl)
    by_close false e a = by_and (is the.And v) refl a e

    by_open : (b : Bool) → is the.OpenParen v ≡ b → (t : Terminal) × (v ≡ text_of t) × (follows (text_of t) ≡ true)
    by_open true e = (the.OpenParen, is-true the.OpenParen v e, refl)
    by_open false e = by_close (is the.CloseParen v) refl e

module _ (n : ℕ) (x : Token) (d : is_name x ≡ false) (s : starter_of x ≡ Some the.OpenParen) (u : Token) (us : List Token) (e : is_name u ≡ true) (g : begins the.Equals us ≡ false) where
  -- a formula that begins so is no equality
  not_equal : (b : FormulaTree) (more : List Token) → IsFormedFormula b → (j : ℕ) → Agree (suc (suc (suc j))) (x ∷ u ∷ us) (texts (formula_at b 64) ++ more)
      → (lead (out-FormulaTree b) ≡ Some the.OpenParen) × Agree (suc (suc j)) (u ∷ us) (rest_texts 64 (out-FormulaTree b) ++ more)
  not_equal b more f j a =
      let h : Agree (suc (suc (suc j))) (x ∷ u ∷ us) (first_text (out-FormulaTree b) ∷ (rest_texts 64 (out-FormulaTree b) ++ more)) = subst (λ z. Agree (suc (suc (suc j))) (x ∷ u ∷ us) (z ++ more)) (texts-out 64 b) a in
      (lead-first (out-FormulaTree b) x (formed-out b f) d h.0 ∙ s, h.1)

  rest_opens : (l : Layer) → IsFormedFormula (roll-FormulaTree l) → lead l ≡ Some the.OpenParen → (more : List Token) → Agree 2 (u ∷ us) (rest_texts 64 l ++ more) → Opens 0 (rest_marks 64 l)
  unfolding lead rest_marks
  rest_opens (layer.Paren t i) f o more a = Opens-more 0 (formula_at i 65) (fixed the.CloseParen ∷ []) (formula_opens 65 i)
  rest_opens (layer.And t ps) f o more a = parts_open the.And ps (formed-roll (layer.And t ps) f)
  rest_opens (layer.Or t ps) f o more a = parts_open the.Or ps (formed-roll (layer.Or t ps) f)
  rest_opens (layer.Equal t l r) f o more a = absurd (false≢true (sym g ∙ Agree-heads (is the.Equals) us _ a.1))
  rest_opens _ f o more a = absurd (cc)

  opens_second : (b : FormulaTree) (more : List Token) → IsFormedFormula b → Agree 3 (x ∷ u ∷ us) (texts (formula_at b 64) ++ more) → Opens 1 (formula_at b 64)
  opens_second b more f a =
      let q = not_equal b more f 0 a in
      subst (Opens 1) (sym (marks-out 64 b)) (rest_opens (out-FormulaTree b) (formed-out b f) q.0 more q.1)

  refused_name : heads follows us ≡ false → Reads (formulas_at 64) Any n (x ∷ u ∷ us) (Err (Syntax (n + 2)))
  refused_name h = record {
    holds = record {
      front = x ∷ u ∷ [];
      back = us;
      text = refl;
      at = refl;
      none = λ b more f _ a.
          let q = not_equal b more f 0 a in
          let w = followed 64 (out-FormulaTree b) (formed-out b f) q.0 u us more e q.1 g in
          false≢true (sym h ∙ w.begins_so follows ∙ w.follow);
      value = tree.Equal 0 (record { token = 0; text = u }) some_name;
      more = text_of the.Equals ∷ some_name.text ∷ text_of the.CloseParen ∷ [];
      formed = eq.formed-Equal 0 (record { token = 0; text = u }) some_name ∙ and_true _ _ e refl;
      begins = ap texts (eq.formula_at-Equal 0 (record { token = 0; text = u }) some_name 64)
          ∙ ap (λ z. z ∷ u ∷ text_of the.Equals ∷ some_name.text ∷ text_of the.CloseParen ∷ []) (sym (starter-text x the.OpenParen s));
      shallow = rw (eq.formula_at-Equal 0 (record { token = 0; text = u }) some_name 64) (omega arith, (tt, tt));
    };
  }

module _ (n : ℕ) (x : Token) (d : is_name x ≡ false) (s : starter_of x ≡ Some the.OpenParen) (u : Token) (e : is_name u ≡ true) where
  deep_name_found : (v : Token) (vs : List Token) → is the.Equals v ≡ false → follows v ≡ true → Reads (formulas_at 64) Any n (x ∷ u ∷ v ∷ vs) (Err (TooDeep (n + 1)))
  deep_name_found v vs g f =
      let t = follows_terminal v f in
      let w : Beginning 64 (x ∷ u ∷ v ∷ []) = subst (λ z. Beginning 64 (z ∷ u ∷ v ∷ [])) (sym (starter-text x the.OpenParen s))
      (subst (λ z. Beginning 64 (text_of the.OpenParen ∷ u ∷ z ∷ [])) (sym t.1) (beginning_behind u e t.0 t.2)) in
      record {
        holds = record {
          front = x ∷ u ∷ v ∷ [];
          back = vs;
          text = refl;
          index = 1;
          within = omega arith;
          at = refl;
          opens = λ b more fb _ a. opens_second n x d s u (v ∷ vs) e g b more fb a;
          first = λ b more fb _ a. formula_shallow 64 (omega arith) b;
          value = w.tree;
          more = w.more;
          formed = w.formed;
          begins = w.begins;
        };
      }

  deep_name_reads : (us : List Token) → begins the.Equals us ≡ false → Reads (formulas_at 64) Any n (x ∷ u ∷ us) (deep_name n (x ∷ u ∷ us))
  deep_name_reads us g = either (heads follows us) (found us g) (refused_name n x d s u us e g)
    where
      found : (us : List Token) → begins the.Equals us ≡ false → heads follows us ≡ true → Reads (formulas_at 64) Any n (x ∷ u ∷ us) (Err (TooDeep (n + 1)))
      found [] g f = absurd (false≢true f)
      found (v ∷ vs) g f = deep_name_found v vs g f

-- ---- what begins with a parenthesis

and_false : (a b : Bool) → (a && b) ≡ false → a ≡ true → b ≡ false
and_false true b e d = e
and_false false b e d = absurd (false≢true d)

-- in the last nesting, or not
module _ (k depth : ℕ) (all : k + depth ≡ 64) (n : ℕ) (x : Token) (d : is_name x ≡ false) (s : starter_of x ≡ Some the.OpenParen)
    (item : Reader FormulaTree) (p : Part (formulas_at (suc k)) NotOpen item) where
  opened_other : (ts : List Token) → name_begins ts ≡ false → Reads (formulas_at k) Any n (x ∷ ts) (opened (depth == 0) item n (x ∷ ts))
  unfolding opened
  opened_other ts e =
      let l : k ≤ 64 = omega arith in
      let a : is_equality (x ∷ ts) ≡ false = rw e refl in
      let b : ((depth == 0) && name_begins ts) ≡ false = by_last (depth == 0) in
      rw (a, b) (inside_other k l n x d s item p ts e)
    where
      by_last : (last : Bool) → (last && name_begins ts) ≡ false
      by_last true = e
      by_last false = refl

  by_depth : (depth : ℕ) → k + depth ≡ 64 → (u : Token) (us : List Token) → is_name u ≡ true → begins the.Equals us ≡ false
      → Reads (formulas_at k) Any n (x ∷ u ∷ us) (cond ((depth == 0) && is_name u) (deep_name n (x ∷ u ∷ us)) (inside item n (x ∷ u ∷ us)))
  by_depth zero all u us e g =
      let h : 64 ≡ k = omega arith in
      rw e (subst (λ z. Reads (formulas_at z) Any n (x ∷ u ∷ us) (deep_name n (x ∷ u ∷ us))) h (deep_name_reads n x d s u e us g))
  by_depth (suc rest) all u us e g = rw (eqb-suc-zero rest) (inside_name k (omega arith) n x d s item p (omega arith) u us e g)

  opened_name : (u : Token) (us : List Token) → is_name u ≡ true → Reads (formulas_at k) Any n (x ∷ u ∷ us) (opened (depth == 0) item n (x ∷ u ∷ us))
  unfolding opened
  opened_name u us e = either (is_name u && begins the.Equals us)
      (λ g. equality_reads k (omega arith) n x d s u us e (both_true _ _ g).1)
      (λ g. by_depth depth all u us e (and_false _ _ g e))

  pub opened_law : (ts : List Token) → Reads (formulas_at k) Any n (x ∷ ts) (opened (depth == 0) item n (x ∷ ts))
  opened_law [] = opened_other [] refl
  opened_law (u ∷ us) = by_name (is_name u) refl
    where
      by_name : (b : Bool) → is_name u ≡ b → Reads (formulas_at k) Any n (x ∷ u ∷ us) (opened (depth == 0) item n (x ∷ u ∷ us))
      by_name true e = opened_name u us e
      by_name false e = opened_other (u ∷ us) e
