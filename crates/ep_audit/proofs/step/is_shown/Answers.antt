use Rattle.std.proofs.Common.{◌≡◌, ◌+◌, ◌/◌, ◌%◌, ◌<◌, ◌++◌, ℕ, List, Bool, IsTrue, length, get_or, Some, refl, sym, ap, ◌∙◌, subst, arith}
use Rattle.std.specs.Prelude.{slice_get, IfOk, ◌↔◌}
use Rattle.std.proofs.lemmas.Option.{slice_get_read}
use Rattle.std.specs.List.{AllByRecursion}
use Rattle.ep_theory.specs.Kripke.{Kripke}
use Rattle.ep_theory.specs.Fits.{ActionFits}
use Rattle.ep_theory.specs.PlanningTask.{PlanningTask}
use Rattle.ep_audit.specs.NamedTasks.{cost_of, name_of}
use Rattle.ep_audit.specs.Lines.{step_head}
use Rattle.ep_audit.specs.Certificates.{action_count, ShowsStep}
use Rattle.ep_audit.specs.Shown.{ShowsStuck, ShowsProduct}
use Rattle.ep_audit.proofs.AnswerLemmas.{ok_iff, never_true, entry_of}
use Rattle.ep_audit.proofs.StepLemmas.{headless, nameless, neither, stuck_shows, shows_stuck, product_shows, shows_product, fits_entry, alike_entries}
use Rattle.ep_audit.proofs.step.is_shown.Goals as goal

pub returns-in_default : goal.returns-in_default
returns-in_default c =
    let T = c.args.task.now in
    let told = c.args.told.now in
    let q = c.args.pair in
    let line = c.args.line.now in
    let n : c.actions-count.result ≡ action_count T = c.actions-count.ensures.value ∙ ap (λ (P : PlanningTask). length P.actions) c.problem.ensures.value in
    let head : c.as_bytes.result.now ≡ step_head (q / action_count T) = c.as_bytes.ensures.value ∙ c.in_ok-head.ensures.ok ∙ ap (λ m. step_head (q / m)) n in
    never_true _ (λ s. headless T told q line (λ rest k. c.in_default.ensures rest (k ∙ ap (λ x. x ++ rest) (sym head))) s)

pub returns-in_default-behind : goal.returns-in_default-behind
returns-in_default-behind c =
    let T = c.args.task.now in
    let told = c.args.told.now in
    let q = c.args.pair in
    let line = c.args.line.now in
    let n : c.actions-count.result ≡ action_count T = c.actions-count.ensures.value ∙ ap (λ (P : PlanningTask). length P.actions) c.problem.ensures.value in
    let head : c.as_bytes.result.now ≡ step_head (q / action_count T) = c.as_bytes.ensures.value ∙ c.in_ok-head.ensures.ok ∙ ap (λ m. step_head (q / m)) n in
    let rest = c.in-Some.rest.now in
    let head' : line ≡ step_head (q / action_count T) ++ rest = c.in-Some.ensures ∙ ap (λ x. x ++ rest) head in
    let name : c.as_slice.result.now ≡ name_of T (q % action_count T) = c.as_slice.ensures.value ∙ c.action_name.ensures.value ∙ ap (λ m. name_of T (q % m)) n in
    never_true _ (λ s. nameless T told q line rest head' (λ tail k. c.in_default-behind.ensures tail (k ∙ ap (λ x. x ++ tail) (sym name))) s)

pub shows_stuck-requires : goal.shows_stuck-requires
shows_stuck-requires c =
    let T = c.args.task.now in
    let told = c.args.told.now in
    let q = c.args.pair in
    let line = c.args.line.now in
    let n : c.actions-count.result ≡ action_count T = c.actions-count.ensures.value ∙ ap (λ (P : PlanningTask). length P.actions) c.problem.ensures.value in
    let head : c.as_bytes.result.now ≡ step_head (q / action_count T) = c.as_bytes.ensures.value ∙ c.in_ok-head.ensures.ok ∙ ap (λ m. step_head (q / m)) n in
    let rest = c.in-Some.rest.now in
    let head' : line ≡ step_head (q / action_count T) ++ rest = c.in-Some.ensures ∙ ap (λ x. x ++ rest) head in
    let name : c.as_slice.result.now ≡ name_of T (q % action_count T) = c.as_slice.ensures.value ∙ c.action_name.ensures.value ∙ ap (λ m. name_of T (q % m)) n in
    let tail = c.in-Some-behind.rest.now in
    let name' : rest ≡ name_of T (q % action_count T) ++ tail = c.in-Some-behind.ensures ∙ ap (λ x. x ++ tail) name in
    let e = c.index-as_slice-i.result in
    let A = c.action-action.result.now in
    let within : q / action_count T < length told.entries = (let l = entry_of told.count (action_count T) q c.requires.at.within in omega (arith, l, c.requires.at.whole.listed.all)) in
    let is : e ≡ get_or told.entries (q / action_count T) e = c.index-as_slice-i.is ∙ (λ i. get_or (c.as_slice-2.ensures i) (q / n i) e) in
    let at : slice_get told.entries (q / action_count T) ≡ Some e = slice_get_read told.entries (length told.entries) (q / action_count T) e refl within is in
    let action : slice_get T.problem.actions (q % action_count T) ≡ Some A = subst (λ (P : PlanningTask). slice_get P.actions (q % action_count T) ≡ Some A) c.problem-2.ensures.value (subst (λ m. slice_get c.problem-2.result.now.actions (q % m) ≡ Some A) n c.action-action.ensures.value) in
    let fits : ActionFits T.problem.initial A = subst (λ (P : PlanningTask). ActionFits P.initial A) c.problem-2.ensures.value c.action-action.ensures.fits in
    record { fits = fits_entry T told c.requires.told (q / action_count T) e A at fits }

pub returns-in-Some-behind-2 : goal.returns-in-Some-behind-2
returns-in-Some-behind-2 c =
    let T = c.args.task.now in
    let told = c.args.told.now in
    let q = c.args.pair in
    let line = c.args.line.now in
    let n : c.actions-count.result ≡ action_count T = c.actions-count.ensures.value ∙ ap (λ (P : PlanningTask). length P.actions) c.problem.ensures.value in
    let head : c.as_bytes.result.now ≡ step_head (q / action_count T) = c.as_bytes.ensures.value ∙ c.in_ok-head.ensures.ok ∙ ap (λ m. step_head (q / m)) n in
    let rest = c.in-Some.rest.now in
    let head' : line ≡ step_head (q / action_count T) ++ rest = c.in-Some.ensures ∙ ap (λ x. x ++ rest) head in
    let name : c.as_slice.result.now ≡ name_of T (q % action_count T) = c.as_slice.ensures.value ∙ c.action_name.ensures.value ∙ ap (λ m. name_of T (q % m)) n in
    let tail = c.in-Some-behind.rest.now in
    let name' : rest ≡ name_of T (q % action_count T) ++ tail = c.in-Some-behind.ensures ∙ ap (λ x. x ++ tail) name in
    let e = c.index-as_slice-i.result in
    let A = c.action-action.result.now in
    let within : q / action_count T < length told.entries = (let l = entry_of told.count (action_count T) q c.requires.at.within in omega (arith, l, c.requires.at.whole.listed.all)) in
    let is : e ≡ get_or told.entries (q / action_count T) e = c.index-as_slice-i.is ∙ (λ i. get_or (c.as_slice-2.ensures i) (q / n i) e) in
    let at : slice_get told.entries (q / action_count T) ≡ Some e = slice_get_read told.entries (length told.entries) (q / action_count T) e refl within is in
    let action : slice_get T.problem.actions (q % action_count T) ≡ Some A = subst (λ (P : PlanningTask). slice_get P.actions (q % action_count T) ≡ Some A) c.problem-2.ensures.value (subst (λ m. slice_get c.problem-2.result.now.actions (q % m) ≡ Some A) n c.action-action.ensures.value) in
    let digits = c.in-Some-behind-2.digits.now in
    ok_iff c.shows_stuck.result (ShowsStuck e.0 A digits) (ShowsStep T told q line) (λ k. stuck_shows T told q e A line rest tail digits at action head' name' c.in-Some-behind-2.ensures k) (λ s. shows_stuck T told q e A line rest tail digits at action head' name' c.in-Some-behind-2.ensures s) c.shows_stuck.ensures

pub shows_product-requires-clause-fits : goal.shows_product-requires-clause-fits
shows_product-requires-clause-fits c =
    let T = c.args.task.now in
    let told = c.args.told.now in
    let q = c.args.pair in
    let line = c.args.line.now in
    let n : c.actions-count.result ≡ action_count T = c.actions-count.ensures.value ∙ ap (λ (P : PlanningTask). length P.actions) c.problem.ensures.value in
    let head : c.as_bytes.result.now ≡ step_head (q / action_count T) = c.as_bytes.ensures.value ∙ c.in_ok-head.ensures.ok ∙ ap (λ m. step_head (q / m)) n in
    let rest = c.in-Some.rest.now in
    let head' : line ≡ step_head (q / action_count T) ++ rest = c.in-Some.ensures ∙ ap (λ x. x ++ rest) head in
    let name : c.as_slice.result.now ≡ name_of T (q % action_count T) = c.as_slice.ensures.value ∙ c.action_name.ensures.value ∙ ap (λ m. name_of T (q % m)) n in
    let tail = c.in-Some-behind.rest.now in
    let name' : rest ≡ name_of T (q % action_count T) ++ tail = c.in-Some-behind.ensures ∙ ap (λ x. x ++ tail) name in
    let e = c.index-as_slice-i.result in
    let A = c.action-action.result.now in
    let within : q / action_count T < length told.entries = (let l = entry_of told.count (action_count T) q c.requires.at.within in omega (arith, l, c.requires.at.whole.listed.all)) in
    let is : e ≡ get_or told.entries (q / action_count T) e = c.index-as_slice-i.is ∙ (λ i. get_or (c.as_slice-2.ensures i) (q / n i) e) in
    let at : slice_get told.entries (q / action_count T) ≡ Some e = slice_get_read told.entries (length told.entries) (q / action_count T) e refl within is in
    let action : slice_get T.problem.actions (q % action_count T) ≡ Some A = subst (λ (P : PlanningTask). slice_get P.actions (q % action_count T) ≡ Some A) c.problem-2.ensures.value (subst (λ m. slice_get c.problem-2.result.now.actions (q % m) ≡ Some A) n c.action-action.ensures.value) in
    let fits : ActionFits T.problem.initial A = subst (λ (P : PlanningTask). ActionFits P.initial A) c.problem-2.ensures.value c.action-action.ensures.fits in
    fits_entry T told c.requires.told (q / action_count T) e A at fits

pub shows_product-requires-clause-agents : goal.shows_product-requires-clause-agents
shows_product-requires-clause-agents c =
    let T = c.args.task.now in
    let told = c.args.told.now in
    let q = c.args.pair in
    let line = c.args.line.now in
    let n : c.actions-count.result ≡ action_count T = c.actions-count.ensures.value ∙ ap (λ (P : PlanningTask). length P.actions) c.problem.ensures.value in
    let head : c.as_bytes.result.now ≡ step_head (q / action_count T) = c.as_bytes.ensures.value ∙ c.in_ok-head.ensures.ok ∙ ap (λ m. step_head (q / m)) n in
    let rest = c.in-Some.rest.now in
    let head' : line ≡ step_head (q / action_count T) ++ rest = c.in-Some.ensures ∙ ap (λ x. x ++ rest) head in
    let name : c.as_slice.result.now ≡ name_of T (q % action_count T) = c.as_slice.ensures.value ∙ c.action_name.ensures.value ∙ ap (λ m. name_of T (q % m)) n in
    let tail = c.in-Some-behind.rest.now in
    let name' : rest ≡ name_of T (q % action_count T) ++ tail = c.in-Some-behind.ensures ∙ ap (λ x. x ++ tail) name in
    let e = c.index-as_slice-i.result in
    let A = c.action-action.result.now in
    let within : q / action_count T < length told.entries = (let l = entry_of told.count (action_count T) q c.requires.at.within in omega (arith, l, c.requires.at.whole.listed.all)) in
    let is : e ≡ get_or told.entries (q / action_count T) e = c.index-as_slice-i.is ∙ (λ i. get_or (c.as_slice-2.ensures i) (q / n i) e) in
    let at : slice_get told.entries (q / action_count T) ≡ Some e = slice_get_read told.entries (length told.entries) (q / action_count T) e refl within is in
    let action : slice_get T.problem.actions (q % action_count T) ≡ Some A = subst (λ (P : PlanningTask). slice_get P.actions (q % action_count T) ≡ Some A) c.problem-2.ensures.value (subst (λ m. slice_get c.problem-2.result.now.actions (q % m) ≡ Some A) n c.action-action.ensures.value) in
    subst (AllByRecursion (λ (f : Kripke × ℕ). (f.0.agents ≡ e.0.agents) × (f.0.atoms ≡ e.0.atoms))) (sym c.as_slice-in-Some-behind-3.ensures) (alike_entries T told c.requires.told (q / action_count T) e at)

pub returns-in-Some-behind-3 : goal.returns-in-Some-behind-3
returns-in-Some-behind-3 c =
    let T = c.args.task.now in
    let told = c.args.told.now in
    let q = c.args.pair in
    let line = c.args.line.now in
    let n : c.actions-count.result ≡ action_count T = c.actions-count.ensures.value ∙ ap (λ (P : PlanningTask). length P.actions) c.problem.ensures.value in
    let head : c.as_bytes.result.now ≡ step_head (q / action_count T) = c.as_bytes.ensures.value ∙ c.in_ok-head.ensures.ok ∙ ap (λ m. step_head (q / m)) n in
    let rest = c.in-Some.rest.now in
    let head' : line ≡ step_head (q / action_count T) ++ rest = c.in-Some.ensures ∙ ap (λ x. x ++ rest) head in
    let name : c.as_slice.result.now ≡ name_of T (q % action_count T) = c.as_slice.ensures.value ∙ c.action_name.ensures.value ∙ ap (λ m. name_of T (q % m)) n in
    let tail = c.in-Some-behind.rest.now in
    let name' : rest ≡ name_of T (q % action_count T) ++ tail = c.in-Some-behind.ensures ∙ ap (λ x. x ++ tail) name in
    let e = c.index-as_slice-i.result in
    let A = c.action-action.result.now in
    let within : q / action_count T < length told.entries = (let l = entry_of told.count (action_count T) q c.requires.at.within in omega (arith, l, c.requires.at.whole.listed.all)) in
    let is : e ≡ get_or told.entries (q / action_count T) e = c.index-as_slice-i.is ∙ (λ i. get_or (c.as_slice-2.ensures i) (q / n i) e) in
    let at : slice_get told.entries (q / action_count T) ≡ Some e = slice_get_read told.entries (length told.entries) (q / action_count T) e refl within is in
    let action : slice_get T.problem.actions (q % action_count T) ≡ Some A = subst (λ (P : PlanningTask). slice_get P.actions (q % action_count T) ≡ Some A) c.problem-2.ensures.value (subst (λ m. slice_get c.problem-2.result.now.actions (q % m) ≡ Some A) n c.action-action.ensures.value) in
    let text = c.in-Some-behind-3.text.now in
    let most : c.from.result + c.from-in-Some-behind-3.result ≡ e.1 + cost_of T (q % action_count T) = (λ i. c.from.ensures i + (c.from-in-Some-behind-3.ensures ∙ c.cost.ensures.value ∙ ap (λ m. cost_of T (q % m)) n) i) in
    let first = subst (λ (xs : List (Kripke × ℕ)). IfOk c.shows_product.result (λ (b : Bool). IsTrue b ↔ ShowsProduct xs (c.from.result + c.from-in-Some-behind-3.result) e.0 A text)) c.as_slice-in-Some-behind-3.ensures c.shows_product.ensures in
    let both = subst (λ m. IfOk c.shows_product.result (λ (b : Bool). IsTrue b ↔ ShowsProduct told.entries m e.0 A text)) most first in
    ok_iff c.shows_product.result (ShowsProduct told.entries (e.1 + cost_of T (q % action_count T)) e.0 A text) (ShowsStep T told q line)
    (λ p. product_shows T told q e A line rest tail text at action head' name' c.in-Some-behind-3.ensures p) (λ s. shows_product T told q e A line rest tail text at action head' name' c.in-Some-behind-3.ensures s) both

pub returns : goal.returns
returns c =
    let T = c.args.task.now in
    let told = c.args.told.now in
    let q = c.args.pair in
    let line = c.args.line.now in
    let n : c.actions-count.result ≡ action_count T = c.actions-count.ensures.value ∙ ap (λ (P : PlanningTask). length P.actions) c.problem.ensures.value in
    let head : c.as_bytes.result.now ≡ step_head (q / action_count T) = c.as_bytes.ensures.value ∙ c.in_ok-head.ensures.ok ∙ ap (λ m. step_head (q / m)) n in
    let rest = c.in-Some.rest.now in
    let head' : line ≡ step_head (q / action_count T) ++ rest = c.in-Some.ensures ∙ ap (λ x. x ++ rest) head in
    let name : c.as_slice.result.now ≡ name_of T (q % action_count T) = c.as_slice.ensures.value ∙ c.action_name.ensures.value ∙ ap (λ m. name_of T (q % m)) n in
    let tail = c.in-Some-behind.rest.now in
    let name' : rest ≡ name_of T (q % action_count T) ++ tail = c.in-Some-behind.ensures ∙ ap (λ x. x ++ tail) name in
    never_true _ (λ s. neither T told q line rest tail head' name' c.in_default-behind-2.ensures c.in-None.ensures s)
