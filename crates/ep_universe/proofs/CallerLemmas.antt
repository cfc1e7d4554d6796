-- What the crates above cite of the proofs of this one. All else is its own.
pub use Rattle.ep_universe.proofs.AtomLemmas.{few_numbers}
pub use Rattle.ep_universe.proofs.CountLemmas.{counted}
pub use Rattle.ep_universe.proofs.DepthLemmas.{shallow}
pub use Rattle.ep_universe.proofs.EndLemmas.{IsFresh, ends_built, fresh-apart, long-left, long-right, new-name, some-item}
pub use Rattle.ep_universe.proofs.FitLemmas.{fits-Not, fits-True}
pub use Rattle.ep_universe.proofs.GroundLemmas.{left, right}
pub use Rattle.ep_universe.proofs.LawLemmas.{atoms_stand, build, formulas_fit, nothing_bound, suits}
pub use Rattle.ep_universe.proofs.LinkLemmas.{has_is_member, map_more, more_mapped, new_name}
pub use Rattle.ep_universe.proofs.MadeLemmas.{few_made, few_of_agent, from_made, no_position, pairs_below, place_below, to_made}
pub use Rattle.ep_universe.proofs.NameLemmas.{AreBelow, apart-numbers, bindings-below, flat_more, objects-declared, params-are, params-below}
pub use Rattle.ep_universe.proofs.ReadLemmas.{braced, few_fluents, many}
pub use Rattle.ep_universe.proofs.SizeLemmas.{group_some}
pub use Rattle.ep_universe.proofs.TaskLemmas.{formulas_long, goal_fine, goal_shallow, init_fine, init_long, init_shallow, schemas_fine, schemas_long, schemas_shallow}
pub use Rattle.ep_universe.proofs.TreeLemmas.{ground-roll}
pub use Rattle.ep_universe.proofs.TypedLemmas.{both-none, located-none, objects_fine, row-none, typed_by}
pub use Rattle.ep_universe.proofs.WordLemmas.{objects_apart, objects_plain, plain-name}
