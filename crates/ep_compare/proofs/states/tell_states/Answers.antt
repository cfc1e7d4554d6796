-- The first contraction, and then the second one.
use Rattle.std.proofs.Common.{subst}
use Rattle.std.proofs.lemmas.Result.{err_from_is_err_and}
use Rattle.ep_answer.specs.declared.run_stop.Whose.TheVariants.{First, Second}
use Rattle.ep_compare.specs.Comparing.{Contracted, TellsStates, ToldContractions, ToldStates}
use Rattle.ep_reading.specs.Served.{answers}
use Rattle.ep_reading.proofs.CallerLemmas.{stops_map}
use Rattle.ep_compare.proofs.CompareLemmas.{Contracted-behind, Contracted-weaker, told_of_states}
use Rattle.ep_compare.proofs.states.tell_states.Goals as goal

pub returns-in_err-one : goal.returns-in_err-one
returns-in_err-one c =
    let p = err_from_is_err_and c.from_residual.result c.from_residual.ensures.1 in
    let S = c.args.first.now in
    let R = c.args.second.now in
    let t = c.args.task.now in
    rw (p.1, p.2) (stops_map _ (TellsStates t S R) _ (λ o h. Contracted-weaker First S (λ C. Contracted Second R (ToldStates t S R C)) o h) c.in_err-one.ensures)

pub returns-in_err-two : goal.returns-in_err-two
returns-in_err-two c =
    let p = err_from_is_err_and c.from_residual-in_err-two.result c.from_residual-in_err-two.ensures.1 in
    let S = c.args.first.now in
    let R = c.args.second.now in
    let t = c.args.task.now in
    let C = c.in_ok-one.one in
    rw (p.1, p.2) (stops_map _ (TellsStates t S R) _ (λ o h. Contracted-behind First S C (λ C. Contracted Second R (ToldStates t S R C)) o c.in_ok-one.ensures (Contracted-weaker Second R (ToldStates t S R C) o h)) c.in_err-two.ensures)

pub returns : goal.returns
returns c =
    let S = c.args.first.now in
    let R = c.args.second.now in
    let t = c.args.task.now in
    let C = c.in_ok-one.one in
    let D = c.in_ok-two.two in
    let told = subst (λ X. ToldContractions t X D (answers c.in_ok-answer.answer)) c.state.ensures.value
    (subst (λ Y. ToldContractions t c.state.result.now Y (answers c.in_ok-answer.answer)) c.state-2.ensures.value c.in_ok-answer.ensures) in
    Contracted-behind First S C (λ C. Contracted Second R (ToldStates t S R C)) _ c.in_ok-one.ensures
    (Contracted-behind Second R D (ToldStates t S R C) _ c.in_ok-two.ensures (told_of_states t S R C D _ c.in_ok-one.ensures.0 c.in_ok-two.ensures.0 told))
