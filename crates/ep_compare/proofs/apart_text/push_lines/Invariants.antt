use Rattle.std.proofs.Common.{◌≡◌, ◌++◌}
use Rattle.std.specs.List.{flat_map}
use Rattle.ep_base.specs.Texts.{line}
use Rattle.ep_logic.specs.Numbers.{table}
use Rattle.ep_compare.specs.ApartText.{numbered_line}
use Rattle.ep_compare.proofs.apart_text.push_lines.Given as goal

abbrev pub invariant-loop-place : goal.invariant-loop-place
invariant-loop-place l = l.text ≡ l.fn.text ++ flat_map line (table (numbered_line l.task l.parts) l.place)
