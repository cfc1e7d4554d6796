-- What the crates above cite of the proofs of this one. All else is its own.
pub use Rattle.ep_logic.proofs.NodeLemmas.{count-And, count-Or, formed-And, formed-Or}
pub use Rattle.ep_logic.proofs.NumberLemmas.{get_or-last, get_or-left, get_or-table, length-snoc, length-table, map-table, numbers_where-same, replicate-table, row_is_table, set-table, table-same, true_places-table}
pub use Rattle.ep_logic.proofs.PackedLemmas.{both_at, both_long}
pub use Rattle.ep_logic.proofs.WordLemmas.{either_at, either_long}
