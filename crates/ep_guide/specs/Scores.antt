-- The scores of the guide that counts the goal's parts.
use Rattle.std.specs.Prelude.{ℕ, ◌+◌, ◌-◌, ◌*◌, min, nat_lt, if◌then◌else◌}
use Rattle.ep_guide.specs.declared.guide.View.{View}
use Rattle.ep_base.specs.Counts.{one_more}

-- how often a score was asked for, and the least number of unmet parts in a view so far
pub record Seen : Type 0 where
  pub asked : ℕ
  pub least : ℕ

-- 1,024 for each unmet part, and the depth; 512 less where fewer parts are unmet than in any view before
abbrev pub unmet_score : Seen → View → ℕ
unmet_score seen view = view.unmet * 1024 + view.depth - (if nat_lt view.unmet seen.least then 512 else 0)

abbrev pub with_view : Seen → View → Seen
with_view seen view = record { asked = one_more seen.asked; least = min seen.least view.unmet }
