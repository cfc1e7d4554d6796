-- How often a formula is true at the designated worlds of what a plan leaves.
use Rattle.std.proofs.Common.{◌≡◌, ◌<◌, ◌+◌, ℕ, suc, All, Bool, false, cond, count_by, List, [], ◌∷◌, length, refl, sym, ap, ◌∙◌, arith}
use Rattle.std.specs.List.{fold}
use Rattle.ep_logic.specs.declared.formula.Node.{Node}
use Rattle.ep_theory.specs.Kripke.{Kripke, IsState}
use Rattle.ep_logic.specs.Numbers.{table}
use Rattle.ep_theory.specs.Tested.{is_true}
use Rattle.ep_logic.proofs.CallerLemmas.{get_or-table}
use Rattle.ep_logic.specs.Rows.{value_at}
use Rattle.ep_truth.proofs.CallerLemmas.{designated_within}
use Rattle.ep_theory.specs.Fits.{Fits}
use Rattle.ep_plan.proofs.CallerLemmas.{formula_fits}
use Rattle.ep_ground.specs.Task.{GroundTask}
use Rattle.ep_answer.specs.declared.answer.Answer.TheVariants.{TrueAt}
use Rattle.ep_question.specs.Questions.{Evaluates}
use Rattle.ep_reading.specs.Served.{answers}

-- a formula over the task's names fits what a plan leaves
pub fits_what_is_left : (g : GroundTask) (S : Kripke) (f : Node) (agents : S.agents ≡ g.problem.initial.agents) (atoms : S.atoms ≡ g.problem.initial.atoms) → Fits g.problem.initial f → Fits S f
fits_what_is_left g S f agents atoms h = formula_fits g.problem.initial S (sym agents) (sym atoms) f h

abbrev count_from : (ℕ → Bool) → ℕ → List ℕ → ℕ
count_from p n ws = fold (λ m w. m + cond (p w) 1 0) n ws

counts_same : (p q : ℕ → Bool) (n m : ℕ) (ws : List ℕ) → All (λ w. w < n) ws → ((w : ℕ) → w < n → p w ≡ q w) → count_from p m ws ≡ count_from q m ws
counts_same p q n m [] h e = refl
counts_same p q n m (w ∷ ws) h e =
    ap (λ b. count_from p (m + cond b 1 0) ws) (e w (h 0 w (omega arith))) ∙ counts_same p q n (m + cond (q w) 1 0) ws (λ k d l. h (suc k) d (omega (arith, l))) e

pub evaluates_by : (S : Kripke) (f : Node) (row : List Bool) (places : List ℕ) (count : ℕ) → IsState S → row ≡ table (λ w. is_true S w f) S.worlds → places ≡ S.designated
    → count ≡ count_by (value_at row) places → Evaluates f S (answers (TrueAt count (length places)))
evaluates_by S f row places count s r p c =
    let labels = counts_same (value_at (table (λ w. is_true S w f) S.worlds)) (λ w. is_true S w f) S.worlds 0 S.designated (designated_within S s)
    (λ w l. get_or-table (λ w. is_true S w f) S.worlds w false l) in
    let told : count ≡ count_by (λ w. is_true S w f) S.designated = c ∙ ap (λ row. count_by (value_at row) places) r ∙ ap (λ ps. count_by (value_at (table (λ w. is_true S w f) S.worlds)) ps) p ∙ labels in
    ap (λ n. answers (TrueAt n (length places))) told ∙ ap (λ ps. answers (TrueAt (count_by (λ w. is_true S w f) S.designated) (length ps))) p
