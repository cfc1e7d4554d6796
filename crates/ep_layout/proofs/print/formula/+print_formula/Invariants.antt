use Rattle.std.proofs.Common.{◌≡◌, ℕ, drop, map}
use Rattle.ep_layout.specs.Printing.{written}
use Rattle.ep_tree.specs.Spelling.{behind, formula_at}
use Rattle.ep_layout.proofs.print.formula.+print_formula.Given as goal

-- what is left makes the whole
abbrev pub invariant-print_parts-loop-part : goal.invariant-print_parts-loop-part
invariant-print_parts-loop-part l =
    (k : ℕ) → written l.printer (behind l.terminal (map (λ p. formula_at p k) (drop l.part-index l.rest)))
    ≡ written l.initial.printer (behind l.terminal (map (λ p. formula_at p k) l.rest))
