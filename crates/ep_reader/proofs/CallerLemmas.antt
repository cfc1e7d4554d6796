-- What the crates above cite of the proofs of this one. All else is its own.
--
-- A grammar is read by it so. A production has a spelling (the marks of its trees, as a `Grammar`) and a reader on lists
-- (specs/Reading: `key`, `name`, `seq`, `made`, `each`, `listed`, ..). Its law ties the two: `Part g F p` says that the reader
-- p keeps to the grammar g wherever it begins, if what follows is as F says, so that what it reads is a tree of its tokens and
-- the only one, and what it refuses has its place. The parts of a production are put together as the reader is: `then` and
-- `pair` where one reader stands behind another, `made_all` and `made_by` where a tree is made of its parts, `either` where
-- the next token tells. What is read whole (`whole_outcome`) answers as `IsReadBy` says (`said_read_by`), or from bytes on as
-- `IsParsedBy` says (`parsed_by`), and is decided (`decided`).
pub use Rattle.ep_reader.proofs.Truth.{both_true, and_true, each-list_all, list_all-each}
pub use Rattle.ep_reader.proofs.MarkLists.{Agree, IsShallowTo, Opens, Opens-more, Flat, flat_append, flat_shallow, flat_none}
pub use Rattle.ep_reader.proofs.Laws.{Follow, IsSame, Outcome, both, both_then, Makes, Made}
pub use Rattle.ep_reader.proofs.Readers.{Reads, Part, Any, Lacks, Next, pair, then, made_by, made_all, made-id, either, fewer, less, less_part, is-true, is-text_of, next_lacks, plain, plain_reads, plain_part, placed, placed_reads, opened, opened_reads, some_name, title_part, names_one, name_part, Witness, made_far}
pub use Rattle.ep_reader.proofs.Loops.{Going, going_stop, going_end, going_on, going_stops}
pub use Rattle.ep_reader.proofs.ListLaws.{Agree-heads, StartsWith, each_of, some_each_of, each_part, some_each_part, behind_of, behind-flat_map, listed_of, any_listed_of, keyed_part, behind_part, rest_part, follow_rest, listed_part, any_listed_part, names_part, names_start, any_names_part}
pub use Rattle.ep_reader.proofs.EnclosedLaws.{within_of, within_reads, within_part, braced_of, braced_part, named_entries_part}
pub use Rattle.ep_reader.proofs.OptionalLaws.{IsOptional, optional_part, IsFlag, flag_part}
pub use Rattle.ep_reader.proofs.CountLaws.{written_count, counts_of, count_part, counts_within, count_within_part}
pub use Rattle.ep_reader.proofs.Whole.{IsEmpty, said_deep, said_read_by, decided, whole_outcome}
pub use Rattle.ep_reader.proofs.Readable.{found, found_reads, found_same, only_same}
pub use Rattle.ep_reader.proofs.TextLaws.{text_or_fault, text_fault_one, parsed_by}
