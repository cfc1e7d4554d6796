-- The text of a formula that tells two states apart: the side, and each line behind its number. Numbers are in decimal.
use Rattle.std.specs.Prelude.{ℕ, List, [], ◌++◌, length, slice_index_or, codes}
use Rattle.std.specs.Fmt.{decimal}
use Rattle.std.specs.List.{flat_map}
use Rattle.ep_base.specs.Texts.{line, lines}
use Rattle.ep_logic.specs.Numbers.{table}
use Rattle.ep_ground.specs.StateText.{next_number}
use Rattle.ep_ground.specs.Task.{GroundTask}
use Rattle.ep_apart.specs.declared.lines.Line.{Line}
use Rattle.ep_apart.specs.declared.lines.Side.{Side}
use Rattle.ep_apart.specs.declared.lines.Apart.{Apart}

abbrev pub side_text : Side → List ℕ
side_text Side.First = codes "first"
side_text Side.Second = codes "second"

abbrev pub knows_text : List ℕ → ℕ → List ℕ
knows_text agent i = codes "knows " ++ agent ++ codes " " ++ decimal i

-- what a line says, by the names of the task
abbrev pub part_text : GroundTask → Line → List ℕ
part_text g Line.True = codes "true"
part_text g (Line.Atom p) = codes "atom " ++ slice_index_or g.atoms p.n []
part_text g (Line.Not i) = codes "not " ++ decimal i
part_text g (Line.And is) = codes "and" ++ flat_map next_number is
part_text g (Line.Knows a i) = knows_text (slice_index_or g.agents a.n []) i

-- a line behind its number
abbrev pub placed_text : GroundTask → Line → ℕ → List ℕ
placed_text g l k = decimal k ++ codes " " ++ part_text g l

abbrev pub numbered_line : GroundTask → List Line → ℕ → List ℕ
numbered_line g ls k = placed_text g (slice_index_or ls k Line.True) k

abbrev pub apart_text : GroundTask → Apart → List ℕ
apart_text g a = line (codes "apart: " ++ side_text a.side) ++ lines (table (numbered_line g a.lines) (length a.lines))
