-- The equations of the reader of formulas.
use Rattle.std.proofs.Common.{◌≡◌, ℕ, zero, suc, ◌-◌, ◌<◌, true, false, cond, List, [], ◌∷◌, Result, Ok, Err, refl, sym, ap, ◌∙◌, arith}
use Rattle.std.specs.Prelude.{◌==◌, ◌||◌, is_some}
use Rattle.ep_reader.specs.declared.error.SyntaxError.{SyntaxError}
use Rattle.ep_reader.specs.declared.error.SyntaxError.TheVariants as error
use Rattle.ep_syntax.specs.FormulaReading.{formula, by_token, too_deep, starts_formula, starter}
use Rattle.ep_reader.specs.Gives.{Place, Gives}
use Rattle.ep_reader.specs.Reading.{Token, Syntax, TooDeep, Reader, heads, name_begins}

pub formula-suc : (depth n : ℕ) (ts : List Token) → 0 < depth → formula depth n ts ≡ by_token (depth - 1 == 0) (formula (depth - 1)) n ts
unfolding formula
formula-suc zero n ts l = absurd (omega arith)
formula-suc (suc depth) n ts l = let h : depth ≡ suc depth - 1 = omega arith in ap (λ k. by_token (k == 0) (formula k) n ts) h

formula-zero : (depth n : ℕ) (ts : List Token) → depth ≡ 0 → formula depth n ts ≡ too_deep n ts
unfolding formula
formula-zero depth n ts e = ap (λ k. formula k n ts) e

pub formula-deep : (depth n : ℕ) (ts : List Token) → depth ≡ 0 → heads starts_formula ts ≡ true → formula depth n ts ≡ Err (TooDeep n)
formula-deep depth n ts e s = formula-zero depth n ts e ∙ ap (λ b. cond b (Err (TooDeep n)) (Err (Syntax n))) s

pub formula-none : (depth n : ℕ) (ts : List Token) → depth ≡ 0 → heads starts_formula ts ≡ false → formula depth n ts ≡ Err (Syntax n)
formula-none depth n ts e s = formula-zero depth n ts e ∙ ap (λ b. cond b (Err (TooDeep n)) (Err (Syntax n))) s

pub gives_same : {A : Type 0} (p q : Reader A) (old : Place) (r : Result A SyntaxError) (new : Place) → p old.0 old.1 ≡ q old.0 old.1 → Gives q old r new → Gives p old r new
gives_same p q old (Ok a) new e g = e ∙ g
gives_same p q old (Err error.OutOfMemory) new e g = tt
gives_same p q old (Err (error.Syntax token)) new e g = e ∙ g
gives_same p q old (Err (error.TooDeep token)) new e g = e ∙ g

heads-starts_formula : (ts : List Token) → (name_begins ts || is_some (starter ts)) ≡ heads starts_formula ts
heads-starts_formula [] = refl
heads-starts_formula (t ∷ ts) = refl

pub starts-name : (ts : List Token) → name_begins ts ≡ true → true ≡ heads starts_formula ts
starts-name ts e = ap (λ b. b || is_some (starter ts)) (sym e) ∙ heads-starts_formula ts

pub starts-other : (ts : List Token) → name_begins ts ≡ false → is_some (starter ts) ≡ heads starts_formula ts
starts-other ts e = ap (λ b. b || is_some (starter ts)) (sym e) ∙ heads-starts_formula ts
