use Rattle.std.proofs.Common.{◌+◌, ◌-◌, ◌*◌, ◌∷◌}
use Rattle.ep_syntax.specs.FormulaReading.{formula, some_behind}
use Rattle.ep_reader.specs.Reading.{made, behind_key}
use Rattle.ep_tree.specs.Terminals.{is}
use Rattle.ep_syntax.proofs.formula.+formula.Given as goal
use Rattle.ep_reader.proofs.CallerLemmas.{Going}

abbrev pub decreases-parse_by_token : goal.decreases-parse_by_token
decreases-parse_by_token l = 8 * l.depth + 7

abbrev pub decreases-parse_closed_parts : goal.decreases-parse_closed_parts
decreases-parse_closed_parts l = 8 * l.depth + 3

abbrev pub decreases-parse_common_knowledge : goal.decreases-parse_common_knowledge
decreases-parse_common_knowledge l = 8 * l.depth + 1

abbrev pub decreases-parse_existential : goal.decreases-parse_existential
decreases-parse_existential l = 8 * l.depth + 1

abbrev pub decreases-parse_formula : goal.decreases-parse_formula
decreases-parse_formula l = 8 * l.depth + 0

abbrev pub decreases-parse_inside : goal.decreases-parse_inside
decreases-parse_inside l = 8 * l.depth + 5

abbrev pub decreases-parse_knowledge : goal.decreases-parse_knowledge
decreases-parse_knowledge l = 8 * l.depth + 1

abbrev pub decreases-parse_negation : goal.decreases-parse_negation
decreases-parse_negation l = 8 * l.depth + 1

abbrev pub decreases-parse_opened : goal.decreases-parse_opened
decreases-parse_opened l = 8 * l.depth + 6

abbrev pub decreases-parse_part : goal.decreases-parse_part
decreases-parse_part l = 8 * l.depth + 1

abbrev pub decreases-parse_parts : goal.decreases-parse_parts
decreases-parse_parts l = 8 * l.depth + 2

abbrev pub decreases-parse_tail : goal.decreases-parse_tail
decreases-parse_tail l = 8 * l.depth + 4

abbrev pub decreases-parse_universal : goal.decreases-parse_universal
decreases-parse_universal l = 8 * l.depth + 1

abbrev pub invariant-parse_parts-loop : goal.invariant-parse_parts-loop
invariant-parse_parts-loop l =
    Going (is l.fn.terminal) (behind_key l.fn.terminal (formula l.fn.depth)) (l.end - l.counter) l.parts l.reader.0 l.reader.1
    (made (λ xs. l.fn.first ∷ xs) (some_behind l.fn.terminal (formula l.fn.depth) l.fn.reader.0 l.fn.reader.1))
