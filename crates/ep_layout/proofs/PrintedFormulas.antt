-- What is written of a formula, by its production.
use Rattle.std.proofs.Common.{◌≡◌, ℕ, suc, ◌≤◌, List, [], ◌∷◌, ◌++◌, length, map, drop, sym, ap, ◌∙◌, subst, append_assoc}
use Rattle.std.proofs.Math.ListN.{drop_of_length-le}
use Rattle.std.specs.List.{IsFirstAndRest}
use Rattle.ep_tree.specs.declared.terminal.Terminal.{Terminal}
use Rattle.ep_tree.specs.declared.terminal.Terminal.TheVariants as the
use Rattle.ep_tree.specs.declared.tree.GroupTree.{GroupTree}
use Rattle.ep_tree.specs.declared.tree.ParamTree.{ParamTree}
use Rattle.ep_tree.specs.declared.tree.FormulaTree.{FormulaTree}
use Rattle.ep_tree.specs.declared.tree.FormulaTree.TheVariants as tree
use Rattle.ep_tree.specs.Marks.{Mark, fixed, opening}
use Rattle.ep_tree.specs.Terminals.{text_of}
use Rattle.ep_layout.specs.Printing.{Printed, write, written}
use Rattle.ep_tree.specs.Spelling.{between, behind, group, params, formula_at}
use Rattle.ep_layout.proofs.PrintedLemmas.{written-append, written-headed}
use Rattle.ep_tree.proofs.CallerLemmas.{formula_at-Common, formula_at-Forall, formula_at-Exists, formula_at-Paren, formula_at-And, formula_at-Or}

-- the printer has written the formula, at whatever nesting
abbrev pub Prints : Printed → Printed → FormulaTree → Type 0
Prints start end f = (k : ℕ) → end ≡ written start (formula_at f k)

abbrev pub parameters : List ParamTree → List Mark
parameters ps = fixed the.OpenParen ∷ (params ps ++ fixed the.CloseParen ∷ [])

pub prints-Common : (start p q r : Printed) (f : FormulaTree) (token : ℕ) (g : GroupTree) (inner : FormulaTree) → f ≡ tree.Common token g inner
    → p ≡ write start (text_of the.Common) → q ≡ written p (group g) → Prints q r inner → Prints start r f
prints-Common start p q r f token g inner e a b i k =
    written-headed start p q r (opening k token the.Common) (group g) (formula_at inner (suc k)) a b (i (suc k))
    ∙ ap (written start) (sym (formula_at-Common token g inner k) ∙ ap (λ z. formula_at z k) (sym e))

behind_parameters : (ps : List ParamTree) (ms : List Mark) → parameters ps ++ ms ≡ fixed the.OpenParen ∷ (params ps ++ fixed the.CloseParen ∷ ms)
behind_parameters ps ms = ap (λ z. fixed the.OpenParen ∷ z) (append_assoc (params ps) (fixed the.CloseParen ∷ []) ms)

pub prints-Forall : (start p q r : Printed) (f : FormulaTree) (token : ℕ) (ps : List ParamTree) (inner : FormulaTree) → f ≡ tree.Forall token ps inner
    → p ≡ write start (text_of the.Forall) → q ≡ written p (parameters ps) → Prints q r inner → Prints start r f
prints-Forall start p q r f token ps inner e a b i k =
    written-headed start p q r (opening k token the.Forall) (parameters ps) (formula_at inner (suc k)) a b (i (suc k))
    ∙ ap (λ z. written start (opening k token the.Forall ∷ z)) (behind_parameters ps (formula_at inner (suc k)))
    ∙ ap (written start) (sym (formula_at-Forall token ps inner k) ∙ ap (λ z. formula_at z k) (sym e))

pub prints-Exists : (start p q r : Printed) (f : FormulaTree) (token : ℕ) (ps : List ParamTree) (inner : FormulaTree) → f ≡ tree.Exists token ps inner
    → p ≡ write start (text_of the.Exists) → q ≡ written p (parameters ps) → Prints q r inner → Prints start r f
prints-Exists start p q r f token ps inner e a b i k =
    written-headed start p q r (opening k token the.Exists) (parameters ps) (formula_at inner (suc k)) a b (i (suc k))
    ∙ ap (λ z. written start (opening k token the.Exists ∷ z)) (behind_parameters ps (formula_at inner (suc k)))
    ∙ ap (written start) (sym (formula_at-Exists token ps inner k) ∙ ap (λ z. formula_at z k) (sym e))

pub prints-Paren : (start p q r : Printed) (f : FormulaTree) (token : ℕ) (inner : FormulaTree) → f ≡ tree.Paren token inner
    → p ≡ write start (text_of the.OpenParen) → Prints p q inner → r ≡ write q (text_of the.CloseParen) → Prints start r f
prints-Paren start p q r f token inner e a i b k =
    written-headed start p q r (opening k token the.OpenParen) (formula_at inner (suc k)) (fixed the.CloseParen ∷ []) a (i (suc k)) b
    ∙ ap (written start) (sym (formula_at-Paren token inner k) ∙ ap (λ z. formula_at z k) (sym e))

-- the printer has written the formulas, with the terminal between neighbours
abbrev pub PrintsParts : Printed → Printed → Terminal → List FormulaTree → Type 0
PrintsParts start end t fs = (k : ℕ) → end ≡ written start (between t (map (λ f. formula_at f k) fs))

pub prints-And : (start p q r : Printed) (f : FormulaTree) (token : ℕ) (parts : List FormulaTree) → f ≡ tree.And token parts
    → p ≡ write start (text_of the.OpenParen) → PrintsParts p q the.And parts → r ≡ write q (text_of the.CloseParen) → Prints start r f
prints-And start p q r f token parts e a i b k =
    written-headed start p q r (opening k token the.OpenParen) (between the.And (map (λ f. formula_at f (suc k)) parts)) (fixed the.CloseParen ∷ []) a (i (suc k)) b
    ∙ ap (written start) (sym (formula_at-And token parts k) ∙ ap (λ z. formula_at z k) (sym e))

pub prints-Or : (start p q r : Printed) (f : FormulaTree) (token : ℕ) (parts : List FormulaTree) → f ≡ tree.Or token parts
    → p ≡ write start (text_of the.OpenParen) → PrintsParts p q the.Or parts → r ≡ write q (text_of the.CloseParen) → Prints start r f
prints-Or start p q r f token parts e a i b k =
    written-headed start p q r (opening k token the.OpenParen) (between the.Or (map (λ f. formula_at f (suc k)) parts)) (fixed the.CloseParen ∷ []) a (i (suc k)) b
    ∙ ap (written start) (sym (formula_at-Or token parts k) ∙ ap (λ z. formula_at z k) (sym e))

-- a first part, and the others each behind the terminal
pub prints-parts : (start p q : Printed) (t : Terminal) (first : FormulaTree) (rest : List FormulaTree) → Prints start p first
    → ((k : ℕ) → q ≡ written p (behind t (map (λ f. formula_at f k) rest))) → PrintsParts start q t (first ∷ rest)
prints-parts start p q t first rest i b k =
    b k ∙ ap (λ z. written z (behind t (map (λ f. formula_at f k) rest))) (i k) ∙ sym (written-append start (formula_at first k) (behind t (map (λ f. formula_at f k) rest)))

-- a part that is read behind a reference
pub Prints-seen : (p q : Printed) (seen f : FormulaTree) → seen ≡ f → Prints p q seen → Prints p q f
Prints-seen p q seen f e = subst (Prints p q) e

pub PrintsParts-seen : (p q : Printed) (t : Terminal) (seen fs : List FormulaTree) → seen ≡ fs → PrintsParts p q t seen → PrintsParts p q t fs
PrintsParts-seen p q t seen fs e = subst (PrintsParts p q t) e

pub parameters-seen : (p q : Printed) (seen ps : List ParamTree) → seen ≡ ps → q ≡ written p (parameters seen) → q ≡ written p (parameters ps)
parameters-seen p q seen ps e f = f ∙ ap (λ z. written p (parameters z)) e

-- at the end nothing is left
pub printed-parts : (start p q : Printed) (t : Terminal) (parts : List FormulaTree) (first : FormulaTree) (rest : List FormulaTree) (i : ℕ) → IsFirstAndRest parts first rest
    → Prints start p first → length rest ≤ i
    → ((k : ℕ) → written q (behind t (map (λ f. formula_at f k) (drop i rest))) ≡ written p (behind t (map (λ f. formula_at f k) rest))) → PrintsParts start q t parts
printed-parts start p q t parts first rest i e g l left =
    let none : drop i rest ≡ [] = drop_of_length-le rest l in
    subst (PrintsParts start q t) (sym e.0)
    (prints-parts start p q t first rest g (λ k. ap (λ z. written q (behind t (map (λ f. formula_at f k) z))) (sym none) ∙ left k))
