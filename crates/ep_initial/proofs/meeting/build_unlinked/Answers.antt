use Rattle.std.proofs.Common.{◌≡◌, ◌++◌, ◌∷◌, [], length, ap, ◌∙◌, sym, subst}
use Rattle.ep_theory.specs.Kripke.{IsState}
use Rattle.ep_logic.specs.Numbers.{table}
use Rattle.ep_kripke.specs.States.{IsBounded, state_of}
use Rattle.ep_initial.specs.Meeting.{unlinked}
use Rattle.ep_initial.proofs.MeetingLemmas.{never, are_worlds, no_links}
use Rattle.ep_initial.proofs.StateLemmas.{have_rows, is_bounded, is_state, state_is}
use Rattle.ep_initial.proofs.meeting.build_unlinked.Goals as goal

pub from_rows-requires-clause-rows : goal.from_rows-requires-clause-rows
from_rows-requires-clause-rows c =
    have_rows c.args.agents c.args.atoms c.args.rows.now never (0 ∷ []) (λ _. table (λ _. []) (length c.args.rows.now)) (no_links c.args.agents c.args.atoms c.args.rows.now)
    c.in_ok-truth.truth c.in_ok-relations.relations c.in_ok-truth.ensures c.in_ok-relations.ensures

made : (c : goal.In_ok-push) → state_of c.args.agents c.args.atoms c.in_ok-truth.truth c.in_ok-relations.relations c.push.new.self ≡ unlinked c.args.agents c.args.atoms c.args.rows.now
made c =
    state_is c.args.agents c.args.atoms c.args.rows.now never (0 ∷ []) (λ _. table (λ _. []) (length c.args.rows.now)) (no_links c.args.agents c.args.atoms c.args.rows.now)
    c.in_ok-truth.truth c.in_ok-relations.relations c.push.new.self c.in_ok-truth.ensures c.in_ok-relations.ensures
    (c.in_ok-push.ensures.ok ∙ ap (λ ns. ns ++ 0 ∷ []) c.new-designated.ensures)

pub from_rows-requires-clause-valid : goal.from_rows-requires-clause-valid
from_rows-requires-clause-valid c =
    subst IsState (sym (made c)) (is_state c.args.agents c.args.atoms c.args.rows.now never (0 ∷ []) (are_worlds c.args.atoms c.args.rows.now c.requires.some c.requires.long))

pub from_rows-requires-clause-bounded : goal.from_rows-requires-clause-bounded
from_rows-requires-clause-bounded c =
    subst IsBounded (sym (made c)) (is_bounded c.args.agents c.args.atoms c.args.rows.now never (0 ∷ []) c.requires.few c.requires.agents c.requires.atoms)

pub returns : goal.returns
returns c =
    c.in_ok-state.ensures
    ∙ state_is c.args.agents c.args.atoms c.args.rows.now never (0 ∷ []) (λ _. table (λ _. []) (length c.args.rows.now)) (no_links c.args.agents c.args.atoms c.args.rows.now)
    c.in_ok-truth.truth c.in_ok-relations.relations c.push.new.self c.in_ok-truth.ensures c.in_ok-relations.ensures
    (c.in_ok-push.ensures.ok ∙ ap (λ ns. ns ++ 0 ∷ []) c.new-designated.ensures)
