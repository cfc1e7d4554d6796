-- What follows where no limit on names is broken.
use Rattle.std.proofs.Common.{◌≡◌, ℕ, ◌<◌, false, nat_eq, List, [], ◌∷◌, Option, None, Result, Ok, Err, IfOk, length, arith}
use Rattle.std.proofs.lemmas.Bool.Decides.{nat_tests}
use Rattle.ep_base.specs.Refusals.{IsJudged, above, when}
use Rattle.ep_base.proofs.CallerLemmas.{none_first, not_above, not_when}
use Rattle.ep_binding.specs.declared.limits.TheConstants.{MOST_OBJECTS}
use Rattle.ep_logic.specs.declared.limits.TheConstants.{MOST_AGENTS, MOST_ATOMS}
use Rattle.ep_types.specs.declared.scope.Declared.{Declared}
use Rattle.ep_universe.specs.Atoms.{atoms_of}
use Rattle.ep_universe.specs.Objects.{agents_of}
use Rattle.ep_universe.specs.Universe.{HasFewNames, universe_fault}
use Rattle.ep_universe.specs.declared.universe_error.UniverseError.{UniverseError}
use Rattle.ep_universe.specs.declared.universe_error.UniverseError.TheVariants as error

not-zero : (n : ℕ) → nat_eq n 0 ≡ false → 0 < n
not-zero n h = grind (arith, nat_tests)

few : (d : Declared) → universe_fault d ≡ None → HasFewNames d
few d h =
    let four = above MOST_ATOMS error.TooManyAtoms (length (atoms_of d)) ∷ [] in
    let three = above MOST_AGENTS error.TooManyAgents (length (agents_of d)) ∷ four in
    let two = when (nat_eq (length (agents_of d)) 0) error.NoAgent ∷ three in
    let objects = none_first (above MOST_OBJECTS error.TooManyObjects (length d.objects)) two h in
    let some = none_first (when (nat_eq (length (agents_of d)) 0) error.NoAgent) three objects.1 in
    let agents = none_first (above MOST_AGENTS error.TooManyAgents (length (agents_of d))) four some.1 in
    let atoms = none_first (above MOST_ATOMS error.TooManyAtoms (length (atoms_of d))) [] agents.1 in
    record {
      few_objects = not_above MOST_OBJECTS error.TooManyObjects (length d.objects) objects.0;
      some_agent = not-zero (length (agents_of d)) (not_when (nat_eq (length (agents_of d)) 0) error.NoAgent some.0);
      few_agents = not_above MOST_AGENTS error.TooManyAgents (length (agents_of d)) agents.0;
      few_atoms = not_above MOST_ATOMS error.TooManyAtoms (length (atoms_of d)) atoms.0;
    }

pub few_names : {A : Type 0} (d : Declared) (r : Result A UniverseError) → IsJudged error.OutOfMemory (universe_fault d) r → IfOk r (λ _. HasFewNames d)
few_names d (Ok x) h = few d h
few_names d (Err e) h = tt
