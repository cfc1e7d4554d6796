-- What this crate cites of the proofs of ep_theory beside its lemmas for callers.
pub use Rattle.ep_theory.proofs.formulas.SameTruth.{bisimilar_agree}
pub use Rattle.ep_theory.proofs.formulas.TruthLemmas.{truth-Knows, truth-roll}
pub use Rattle.ep_theory.proofs.kinds.Alike.{row, rows_alike}
pub use Rattle.ep_theory.proofs.kinds.FromKinds.{less_from_test, test_from_less, three, three_back}
pub use Rattle.ep_theory.proofs.kinds.Later.{IsSettledAt, equal_later, settled_next}
pub use Rattle.ep_theory.proofs.kinds.Points.{from_same_kind, same_kind, same_kind-itself, to_same_kind}
pub use Rattle.ep_theory.proofs.lists.Counting.{First, count, count-bound, count-tight, first_of_passing, none-from_each, none_at, none_below}
pub use Rattle.ep_theory.proofs.lists.Diagonal.{Tri, above, below, level, tri}
pub use Rattle.ep_theory.proofs.lists.Lists.{rising_alike}
pub use Rattle.ep_theory.proofs.lists.Orders.{kinds}
pub use Rattle.ep_theory.proofs.states.Equivalence.{worlds_sym, worlds_trans}
pub use Rattle.ep_theory.proofs.states.Images.{graph, image_bisimulation, to_graph}
pub use Rattle.ep_theory.proofs.states.Laws.{one_state_decides}
