-- What a map of worlds to worlds relates, list by list and world by world. This project's own.
use Rattle.std.specs.Prelude.{◌≡◌, ℕ, ◌<◌, List, Option, IsTrue}
use Rattle.ep_theory.specs.Rising.{IsIn}
use Rattle.ep_theory.specs.Kripke.{Kripke, truth_of, links_of, successors}
use Rattle.ep_theory.specs.Maps.{relates}

-- the map relates each of the first numbers to one of the second, and each of the second to one of the first
pub record Relates (map : List (Option ℕ)) (from to : List ℕ) : Type 0 where
  pub forth : (w : ℕ) → IsIn w from → (v : ℕ) × IsIn v to × IsTrue (relates map w v)
  pub back : (v : ℕ) → IsIn v to → (w : ℕ) × IsIn w from × IsTrue (relates map w v)

-- the worlds have the same truth values, and the map relates their successors by each agent
pub record MapsAt (S R : Kripke) (map : List (Option ℕ)) (w v : ℕ) : Type 0 where
  pub truth : truth_of S w ≡ truth_of R v
  pub links : (a : ℕ) → a < S.agents → Relates map (successors (links_of S a) w) (successors (links_of R a) v)
