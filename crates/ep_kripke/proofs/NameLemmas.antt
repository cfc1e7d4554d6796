-- Rows by their names.
use Rattle.std.proofs.Common.{◌≡◌, ℕ, zero, suc, ◌+◌, ◌<◌, Bool, false, List, [], ◌∷◌, length, get_or, set, refl, sym, ◌∙◌, ap, arith, inl, inr}
use Rattle.std.specs.List.{AllByRecursion, list_all}
use Rattle.std.proofs.lemmas.Bool.{cases_eq}
use Rattle.std.proofs.lemmas.List.{get_or-set_same, get_or-set_other}
use Rattle.ep_logic.specs.Rows.{value_at}
use Rattle.ep_logic.specs.Numbers.{table}
use Rattle.ep_logic.proofs.CallerLemmas.{get_or-table}
use Rattle.ep_theory.proofs.CallerLemmas.{All-at}
use Rattle.ep_kripke.specs.Relations.{named_rows}

pub length-named : (names : List ℕ) (rows : List (List ℕ)) → length (named_rows names rows) ≡ length names
length-named [] rows = refl
length-named (n ∷ ns) rows = ap suc (length-named ns rows)

-- the row of a world is that of its name
pub named-at : (names : List ℕ) (rows : List (List ℕ)) (w : ℕ) → w < length names → get_or (named_rows names rows) w [] ≡ get_or rows (get_or names w 0) []
named-at [] rows w l = absurd (omega arith)
named-at (n ∷ ns) rows zero l = refl
named-at (n ∷ ns) rows (suc w) l = named-at ns rows w (omega arith)

-- in terms of rows that are seen
pub within_names : (names : List ℕ) (rows seen : List (List ℕ)) (w : ℕ) → named_rows names rows ≡ seen → w < length seen → w < length names
within_names names rows seen w e l = omega (arith, ap length e, length-named names rows)

pub name_within : (names : List ℕ) (rows seen : List (List ℕ)) (w : ℕ) → named_rows names rows ≡ seen → AllByRecursion (λ i. i < length rows) names → w < length seen → get_or names w 0 < length rows
name_within names rows seen w e h l = All-at (λ i. i < length rows) names w 0 (within_names names rows seen w e l) h

pub row_seen : (names : List ℕ) (rows seen : List (List ℕ)) (w : ℕ) → named_rows names rows ≡ seen → w < length seen → get_or rows (get_or names w 0) [] ≡ get_or seen w []
row_seen names rows seen w e l = sym (named-at names rows w (within_names names rows seen w e l)) ∙ ap (λ rs. get_or rs w []) e

-- the value of a world's row is that of its name
pub row_told : (set : List Bool) (names : List ℕ) (rows seen : List (List ℕ)) (values : List Bool) (w : ℕ) → named_rows names rows ≡ seen → AllByRecursion (λ i. i < length rows) names → w < length seen →
    values ≡ table (λ i. list_all (value_at set) (get_or rows i [])) (length rows) → value_at values (get_or names w 0) ≡ list_all (value_at set) (get_or seen w [])
row_told set names rows seen values w e h l t =
    ap (λ vs. value_at vs (get_or names w 0)) t
    ∙ get_or-table (λ i. list_all (value_at set) (get_or rows i [])) (length rows) (get_or names w 0) false (name_within names rows seen w e h l)
    ∙ ap (list_all (value_at set)) (row_seen names rows seen w e l)

-- one more value
pub told_more : (f : ℕ → Bool) (old new : List Bool) (w : ℕ) (b : Bool) → w < length old → ((k : ℕ) → k < w → value_at old k ≡ f k) → new ≡ set old w b → b ≡ f w → (k : ℕ) → k < w + 1 → value_at new k ≡ f k
told_more f old new w b l told e is k h = elim (cases_eq k w) [
  | inl q ↦ ap (λ r. value_at r k) e ∙ ap (value_at (set old w b)) q ∙ get_or-set_same old w b false l ∙ is ∙ ap f (sym q)
  | inr ne ↦ ap (λ r. value_at r k) e ∙ get_or-set_other old w k b false ne ∙ told k (omega (arith, h, ne))
]
