-- What the early refusals leave has few events.
use Rattle.std.proofs.Common.{◌≡◌, ◌≤◌, true, length, sym, ◌∙◌, ap, ap₂, subst}
use Rattle.ep_logic.specs.Numbers.{pairs_within}
use Rattle.ep_base.proofs.CallerLemmas.{told_none}
use Rattle.ep_dynamic.specs.ComposeAnswers.{early_refusal}
use Rattle.ep_dynamic.specs.Composition.{event_pairs}
use Rattle.ep_dynamic.proofs.Composing.{pair_count}
use Rattle.ep_dynamic.proofs.StepLemmas.{few_events}
use Rattle.ep_dynamic.proofs.compose.compose.Goals as goal

pub check_sizes-requires-clause-few : goal.check_sizes-requires-clause-few
check_sizes-requires-clause-few c =
    let A = c.args.a.now in
    let B = c.args.b.now in
    let pairs : c.as_slice.result.now ≡ event_pairs A B = c.as_slice.ensures ∙ c.in_ok-pairs.ensures ∙ ap₂ (λ n m. pairs_within (λ e f. true) n m) c.events-2.ensures.value c.events.ensures.value in
    subst (λ n. n ≤ 16) (sym (ap length pairs ∙ pair_count A B)) (few_events A B (told_none (early_refusal A B) _ c.in_ok-check_events.ensures))

pub built_of_both-requires-clause-few : goal.built_of_both-requires-clause-few
built_of_both-requires-clause-few c =
    let A = c.args.a.now in
    let B = c.args.b.now in
    let pairs : c.as_slice-2.result.now ≡ event_pairs A B = c.as_slice-2.ensures ∙ c.in_ok-pairs.ensures ∙ ap₂ (λ n m. pairs_within (λ e f. true) n m) c.events-2.ensures.value c.events.ensures.value in
    subst (λ n. n ≤ 16) (sym (ap length pairs ∙ pair_count A B)) (few_events A B (told_none (early_refusal A B) _ c.in_ok-check_events.ensures))
