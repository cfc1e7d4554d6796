-- Which answers rest on a guide.
use Rattle.std.proofs.Common.{◌≡◌, ◌≤◌, ℕ, All, List, [], ◌∷◌, length, Some, slice_index_or, slice_set, refl, sym, ap, subst, ◌∙◌, ◌<◌, arith}
use Rattle.std.proofs.lemmas.Option.{slice_get-get_or}
use Rattle.std.proofs.lemmas.Grind.{get_or-set_at}
use Rattle.std.proofs.lemmas.List.{length-set}
use Rattle.ep_base.specs.Counts.{Rose}
use Rattle.ep_bounds.specs.declared.bounds.Bounds.{Bounds}
use Rattle.ep_bounds.specs.declared.bounds.Measure.{Measure}
use Rattle.ep_logic.specs.declared.ids.ActionId.{ActionId}
use Rattle.ep_tree.specs.declared.tree.CallTree.{CallTree}
use Rattle.ep_ground.specs.Task.{GroundTask}
use Rattle.ep_ground.specs.Grounding.{IsWhole}
use Rattle.ep_plan_text.specs.Calls.{NameActions}
use Rattle.ep_plan_text.specs.PlanFiles.{IsPlan}
use Rattle.ep_plan_text.specs.PlanText.{plan_text}
use Rattle.ep_plan_text.specs.declared.print.Mark.{Mark}
use Rattle.ep_plan_text.specs.declared.print.Mark.TheVariants as mark
use Rattle.ep_plan_text.proofs.CallerLemmas.{read_again, file_trees}
use Rattle.ep_search.specs.Allowed.{WasAsked}
use Rattle.ep_search.specs.declared.answer.Answer.{Answer as Found}
use Rattle.ep_search.specs.declared.answer.Answer.TheVariants as found
use Rattle.ep_answer.specs.declared.answer.Answer.{Answer}
use Rattle.ep_answer.specs.declared.answer.Answer.TheVariants.{OfSearch, NoSuchGuide}
use Rattle.ep_reading.specs.Guides.{AnswerNeeds, ListsACall}
use Rattle.ep_planning.specs.Asked.{WasAskedAt}
use Rattle.ep_planning.specs.Planning.{planned_of}

-- ---- the empty plan lists no call

no_calls : (g : GroundTask) (calls : List CallTree) → NameActions g calls [] → calls ≡ []
no_calls g [] h = refl
no_calls g (c ∷ cs) h = absurd h

empty_lists_none : (g : GroundTask) (measure : Measure) (m : Mark) → IsWhole g → ListsACall (plan_text g measure m []) → ⊥
empty_lists_none g measure m w l =
    let none : All (λ (a : ActionId). a.n < length g.actions) [] = λ k d below. absurd (omega (arith, below)) in
    let here : IsPlan g (plan_text g measure m []) [] = read_again g measure m [] w (omega arith) none in
    let same : here.tree ≡ l.tree = file_trees (plan_text g measure m []) here.found l.found here.tree l.tree here.file l.file in
    l.lists (subst (λ t. t.calls ≡ []) same (no_calls g here.tree.calls here.plan_of.named))

empty_plan_needs_none : (g : GroundTask) (measure : Measure) (m : Mark) (p : List ActionId) → IsWhole g → ListsACall (plan_text g measure m p) → p ≡ [] → ⊥
empty_plan_needs_none g measure m p w l e = empty_lists_none g measure m w (subst (λ q. ListsACall (plan_text g measure m q)) e l)

-- ---- answers of the search

pub no_guide_needs_none : AnswerNeeds NoSuchGuide → ⊥
unfolding AnswerNeeds
no_guide_needs_none n = absurd n

found_was_asked : (g : GroundTask) (b : Bounds) (a : Found) (before after : ℕ) → IsWhole g → WasAsked b.bound a before after → 1 ≤ b.bound → AnswerNeeds (OfSearch (planned_of g b a)) → Rose before after
unfolding AnswerNeeds
found_was_asked g b (found.Least p) before after w asked some needs = asked (empty_plan_needs_none g b.measure mark.Least p w needs)
found_was_asked g b (found.Found p) before after w asked some needs = asked (empty_plan_needs_none g b.measure mark.Found p w needs)
found_was_asked g b found.NoneTo before after w asked some needs = asked some
found_was_asked g b found.ManyStates before after w asked some needs = absurd needs
found_was_asked g b (found.Wide p) before after w asked some needs = absurd needs

pub search_was_asked : (g : GroundTask) (b : Bounds) (a : Found) (answer : Answer) (before after : ℕ) → IsWhole g → answer ≡ OfSearch (planned_of g b a)
    → WasAsked b.bound a before after → 1 ≤ b.bound → AnswerNeeds answer → Rose before after
search_was_asked g b a answer before after w e asked some needs = found_was_asked g b a before after w asked some (subst AnswerNeeds e needs)

-- the guide at the place is asked, and the others are as before
pub asked_at : {G : Type 0} (count : G → ℕ) (old : List G) (place : ℕ) (before after : G) → place < length old → before ≡ slice_index_or old place before
    → Rose (count before) (count after) → WasAskedAt count old (slice_set old place after) place
asked_at count old place before after within e rose = record {
  before = before;
  after = after;
  was = slice_get-get_or old place before within ∙ ap Some (sym e);
  is = slice_get-get_or (slice_set old place after) place after (grind (arith, within, length-set)) ∙ ap Some (get_or-set_at old place place after after refl within);
  rose = rose;
}
