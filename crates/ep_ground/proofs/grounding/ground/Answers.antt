use Rattle.std.proofs.Common.{refl, ap, sym, ◌∙◌}
use Rattle.ep_base.specs.Refusals.{first_some}
use Rattle.ep_types.specs.Tasks.{declarations}
use Rattle.ep_universe.specs.Universe.{NamedTask, universe_fault}
use Rattle.ep_universe.specs.declared.universe_error.UniverseError.TheVariants as universe
use Rattle.ep_ground.specs.Grounding.{behind_names, fault_of, of_universe}
use Rattle.ep_ground.proofs.TaskLemmas.{first_mapped, handed_on, none_mapped, on_error, on_none}
use Rattle.ep_ground.proofs.grounding.ground.Goals as goal

pub returns-in_err-universe-clause-fault : goal.returns-in_err-universe-clause-fault
returns-in_err-universe-clause-fault c =
    let t = c.args.typed in
    let d = declarations t in
    let e = c.in_err-universe.field-0.0 in
    handed_on of_universe universe.OutOfMemory c.from_residual.result e (universe_fault d) (fault_of d t) refl c.from_residual.ensures.1 c.in_err-universe.ensures.refused
    (first_mapped of_universe (universe_fault d) (behind_names d t) e)

pub returns-clause-sound : goal.returns-clause-sound
returns-clause-sound c =
    let t = c.args.typed in
    let d = declarations t in
    let same = ap (λ (u : NamedTask). first_some (behind_names u.names u.tree)) c.in_ok-universe.ensures.task in
    on_none (first_some (behind_names c.in_ok-universe.universe.names c.in_ok-universe.universe.tree)) (fault_of d t) c.ground_universe.result
    (none_mapped of_universe (universe_fault d) (behind_names d t) c.in_ok-universe.ensures.allowed ∙ sym same) c.ground_universe.ensures.sound

pub returns-clause-fault : goal.returns-clause-fault
returns-clause-fault c =
    let t = c.args.typed in
    let d = declarations t in
    let same = ap (λ (u : NamedTask). first_some (behind_names u.names u.tree)) c.in_ok-universe.ensures.task in
    on_error (first_some (behind_names c.in_ok-universe.universe.names c.in_ok-universe.universe.tree)) (fault_of d t) c.ground_universe.result
    (none_mapped of_universe (universe_fault d) (behind_names d t) c.in_ok-universe.ensures.allowed ∙ sym same) c.ground_universe.ensures.err
