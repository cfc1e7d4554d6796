-- What the crates above cite of the proofs of this one. All else is its own.
pub use Rattle.ep_theory.proofs.actions.ClassLemmas.{from_classes, to_classes}
pub use Rattle.ep_theory.proofs.actions.FourLemmas.{assign_is, member_has, private_is, sense_is}
pub use Rattle.ep_theory.proofs.actions.ProductLaws.{stuck_none}
pub use Rattle.ep_theory.proofs.actions.ProductLemmas.{applicability_alike, from_places, is_place, product-is_state, products_bisimilar}
pub use Rattle.ep_theory.proofs.actions.TriedLemmas.{equivalences_are_tried}
pub use Rattle.ep_theory.proofs.formulas.Decided.{is_true-roll, is_true_decides, same_test}
pub use Rattle.ep_theory.proofs.formulas.SameTruth.{same_at_all, same_at_some}
pub use Rattle.ep_theory.proofs.formulas.TestedLemmas.{is_true-And, is_true-Atom, is_true-Common, is_true-False, is_true-Knows, is_true-Not, is_true-Or, is_true-True}
pub use Rattle.ep_theory.proofs.formulas.TruthLemmas.{along, truth-And}
pub use Rattle.ep_theory.proofs.formulas.WithinSteps.{walks_from_within, within_from_walks}
pub use Rattle.ep_theory.proofs.kinds.Places.{from_range}
pub use Rattle.ep_theory.proofs.kinds.Ranked.{signatures, slice_cmp-map}
pub use Rattle.ep_theory.proofs.kinds.Rounds.{ranks_later, stop}
pub use Rattle.ep_theory.proofs.lists.Bools.{all_at, and_parts, and_whole, decided, in_left, in_parts, in_right, to_all}
pub use Rattle.ep_theory.proofs.lists.Bridges.{Contains-from_in, rises_at, sorted_and_deduped}
pub use Rattle.ep_theory.proofs.lists.Counting.{last_or_before}
pub use Rattle.ep_theory.proofs.lists.Filters.{All-at, All-map, IsIn-at, IsIn-filter, from_any, from_filter, to_any}
pub use Rattle.ep_theory.proofs.lists.Lists.{All-from_each, IsIn-map, IsIn-rising, IsIn-successors, IsRising-rising, at_All, equal_from_test, from_map, from_rising, from_successors, same_rising, test_itself}
pub use Rattle.ep_theory.proofs.lists.NumbersLemmas.{from_has_number, from_has_pair, from_numbers, from_pairs, from_rows, from_table, in_numbers, in_pairs, place_of, rising_is_numbers, rising_numbers, rising_pairs, rising_successors, successors_are_numbers, to_has_number, to_has_pair}
pub use Rattle.ep_theory.proofs.lists.RowPairs.{all_pairs-push, from_row_pairs, get_or-pairs, row_pairs-chosen, row_pairs_rise, successors-all_pairs, sum_by-pairs, to_row_pairs}
pub use Rattle.ep_theory.proofs.runs.EquivalentRuns.{after_s5, known_after}
pub use Rattle.ep_theory.proofs.runs.Runs.{after-snoc, after_state}
pub use Rattle.ep_theory.proofs.runs.Steps.{all_get, step_action, step_none, step_some}
pub use Rattle.ep_theory.proofs.states.Canonical.{apart_in_canonical, canonical_is_own_contraction}
pub use Rattle.ep_theory.proofs.states.Equivalence.{bisimilar_sym, bisimilar_trans}
pub use Rattle.ep_theory.proofs.states.Exists.{get_or-map_within, not_empty, some_element}
pub use Rattle.ep_theory.proofs.states.Images.{contracts_from_ranks, part_bisimilar, part_reached}
pub use Rattle.ep_theory.proofs.states.Laws.{classes_decide, equal_contractions, one_contraction}
pub use Rattle.ep_theory.proofs.states.Unique.{links_rising, links_within, numbers, pairs, same_places, unique}
