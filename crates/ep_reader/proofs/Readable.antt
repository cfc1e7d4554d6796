-- A well-formed tree of no deep nesting is read from its tokens.
use Rattle.std.proofs.Common.{◌≡◌, ℕ, suc, List, [], ◌++◌, length, drop, Ok, Err, refl, sym, ◌∙◌, subst, arith}
use Rattle.std.proofs.lemmas.List.{append-nil, take-append-drop}
use Rattle.ep_reader.specs.declared.error.SyntaxError.TheVariants as error
use Rattle.ep_reader.specs.Gives.{Says}
use Rattle.ep_tree.specs.Grammar.{Grammar, spelling_of}
use Rattle.ep_tree.specs.Grammar as grammar
use Rattle.ep_tree.specs.Marks.{IsShallow}
use Rattle.ep_reader.specs.Reading.{Token, Syntax, TooDeep, Read, Reader, whole}
use Rattle.ep_reader.proofs.Laws.{Outcome, failed}
use Rattle.ep_reader.proofs.MarkLists.{Agree, Agree-same, shallow_opens, shallow_to}
use Rattle.ep_reader.proofs.Whole.{IsEmpty, said_read, said_only, said_deep}

module _ {A : Type 0} (g : Grammar A) (ts : List Token) (p : Reader A) (o : Outcome g IsEmpty 0 ts (whole p 0 ts))
    (tree : A) (formed : g.IsFormed tree) (shallow : IsShallow (g.marks tree)) (spelled : spelling_of g tree ≡ ts) where
  agrees : (n : ℕ) → Agree n ts (spelling_of g tree ++ [])
  agrees n = subst (λ z. Agree n ts z) (sym (append-nil (spelling_of g tree) ∙ spelled)) (Agree-same n ts)

  -- the reader does not refuse
  reads_some : (r : Read A) → whole p 0 ts ≡ r → (y : A × ℕ × List Token) × (whole p 0 ts ≡ Ok y)
  reads_some (Ok y) e = (y, e)
  reads_some (Err (Syntax n)) e =
      let r = failed g IsEmpty 0 ts (whole p 0 ts) o n e in
      absurd (r.none tree [] formed refl (agrees (suc (length r.front))))
  reads_some (Err (TooDeep t)) e =
      let d = said_deep g ts p o (Err (error.TooDeep t)) e t refl in
      let opens = d.deep.always tree (drop d.deep.count ts) formed (spelled ∙ sym (take-append-drop d.deep.count ts)) in
      absurd (shallow_opens (suc t) t (g.marks tree) (omega arith) (shallow_to (suc t) (g.marks tree) shallow) opens)

  answer : (y : A × ℕ × List Token) × (whole p 0 ts ≡ Ok y)
  answer = reads_some (whole p 0 ts) refl

  -- what is read
  pub found : A
  found = answer.0.0

  says : Says (Ok found) (whole p 0 ts)
  unfolding found
  says = (answer.0.1, answer.0.2, answer.1)

  pub found_reads : grammar.Reads g ts found
  found_reads = said_read g ts p o (Ok found) says

  pub found_same : g.bare found ≡ g.bare tree
  found_same = sym (said_only g ts p o (Ok found) says tree formed spelled)

  -- what else reads the tokens
  pub only_same : (other : A) → grammar.Reads g ts other → g.bare other ≡ g.bare tree
  only_same other r = said_only g ts p o (Ok found) says other r.formed r.spelled ∙ found_same
