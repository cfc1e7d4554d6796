-- Worlds that are taken out of a row, one after another along a chain.
use Rattle.std.proofs.Common.{◌≡◌, ℕ, zero, suc, ◌+◌, ◌-◌, ◌<◌, ◌≤◌, Bool, true, false, cond, List, [], ◌∷◌, ◌++◌, length, get_or, set, append_assoc, refl, ap, ◌∙◌, sym, subst, arith, inl, inr}
use Rattle.std.proofs.lemmas.List.{get_or_default, length-set, append-nil, get_or-map, length-map, get_or-set_other}
use Rattle.std.proofs.lemmas.Bool.Decides.{eqb_tells}
use Rattle.ep_theory.specs.Rising.{IsIn}
use Rattle.ep_kripke.specs.declared.sources.BackLink.{BackLink}
use Rattle.ep_logic.specs.Rows.{value_at}
use Rattle.ep_kripke.specs.Sources.{no_link, chain, chains, IsChained, row_at}
use Rattle.ep_kripke.specs.Taking.{without, taken}
use Rattle.ep_kripke.proofs.SourceLemmas.{chain-zero, chain-suc}

-- how far the sources of a world are taken out: those from the place on are left
pub record IsTaking (links : List BackLink) (all : List ℕ) (old : List Bool) (waited : List ℕ) (place : ℕ) (row : List Bool) (waiting : List ℕ) : Type 0 where
  pub place_within : place ≤ length links
  pub row_left : without (chain links place) row ≡ without all old
  pub waiting_left : waiting ++ taken (chain links place) row ≡ waited ++ taken all old
  pub within : (w : ℕ) → IsIn w (chain links place) → w < length row

pub taking_none : (links : List BackLink) (last : List ℕ) (v place : ℕ) (rows : List (List ℕ)) (old : List Bool) (waited : List ℕ) → IsChained links last → chains links last ≡ rows → v < length rows →
    ((w : ℕ) → IsIn w (row_at rows v) → w < length old) → place ≡ get_or last v place → IsTaking links (row_at rows v) old waited place old waited
taking_none links last v place rows old waited c r l h at =
    let in_last : v < length last = omega (arith, ap length r, length-map last (chain links), l) in
    let p : get_or last v 0 ≡ place = sym (at ∙ get_or_default last v place 0 in_last) in
    let e : chain links place ≡ row_at rows v = sym (ap (λ rs. row_at rs v) (sym r) ∙ get_or-map (chain links) last v 0 [] in_last ∙ ap (chain links) p) in
    record {
      place_within = omega (arith, c.within v, p);
      row_left = ap (λ ws. without ws old) e;
      waiting_left = ap (λ ws. waited ++ taken ws old) e;
      within = λ w i. h w (subst (IsIn w) e i);
    }

module _ (links : List BackLink) (back : (i : ℕ) → i < length links → (get_or links i no_link).before ≤ i) (all : List ℕ) (old : List Bool) (waited : List ℕ)
    (place : ℕ) (row : List Bool) (waiting : List ℕ) (t : IsTaking links all old waited place row waiting) where
  pub taking_all : place ≡ 0 → (row ≡ without all old) × (waiting ≡ waited ++ taken all old)
  taking_all e =
      let none : chain links place ≡ [] = ap (chain links) e ∙ chain-zero links in (
        sym (ap (λ ws. without ws row) none) ∙ t.row_left,
        sym (ap (λ ws. waiting ++ taken ws row) none ∙ append-nil waiting) ∙ t.waiting_left,
      )

  -- the link at the place, whose number is one less
  module _ (i : ℕ) (e : i ≡ place - 1) (some : place ≡ 0 → ⊥) (x : BackLink) (is : x ≡ get_or links i x) where
    in_links : i < length links
    in_links = let l = t.place_within in omega arith

    at : get_or links i no_link ≡ x
    at = sym (is ∙ get_or_default links i x no_link in_links)

    turn : chain links place ≡ x.from ∷ chain links x.before
    turn =
        let s : place ≡ suc i = omega arith in
        ap (chain links) s ∙ chain-suc links back i in_links ∙ ap (λ (y : BackLink). y.from ∷ chain links y.before) at

    next_within : x.before ≤ length links
    next_within = subst (λ (y : BackLink). y.before ≤ length links) at (omega (arith, back i in_links, in_links))

    pub from_within : x.from < length row
    from_within = t.within x.from (subst (IsIn x.from) (sym turn) (inl refl))

    pub taking_skip : value_at row x.from ≡ false → IsTaking links all old waited x.before row waiting
    taking_skip f =
        let rest = chain links x.before in
        record {
          place_within = next_within;
          row_left = sym (ap (λ ws. without ws row) turn ∙ ap (λ b. without rest (cond b (set row x.from false) row)) f) ∙ t.row_left;
          waiting_left = sym (ap (λ ws. waiting ++ taken ws row) turn ∙ ap (λ b. waiting ++ cond b (x.from ∷ taken rest (set row x.from false)) (taken rest row)) f) ∙ t.waiting_left;
          within = λ w j. t.within w (subst (IsIn w) (sym turn) (inr j));
        }

    pub taking_take : value_at row x.from ≡ true → IsTaking links all old waited x.before (set row x.from false) (waiting ++ x.from ∷ [])
    taking_take f =
        let rest = chain links x.before in
        record {
          place_within = next_within;
          row_left = sym (ap (λ ws. without ws row) turn ∙ ap (λ b. without rest (cond b (set row x.from false) row)) f) ∙ t.row_left;
          waiting_left = append_assoc waiting (x.from ∷ []) (taken rest (set row x.from false))
              ∙ sym (ap (λ ws. waiting ++ taken ws row) turn ∙ ap (λ b. waiting ++ cond b (x.from ∷ taken rest (set row x.from false)) (taken rest row)) f) ∙ t.waiting_left;
          within = λ w j. omega (arith, length-set row x.from false, t.within w (subst (IsIn w) (sym turn) (inr j)));
        }

-- how many places are true
abbrev pub trues : List Bool → ℕ
trues [] = 0
trues (x ∷ xs) = cond x 1 0 + trues xs

trues-set : (row : List Bool) (w : ℕ) → value_at row w ≡ true → trues (set row w false) + 1 ≡ trues row
trues-set [] w t = absurd (cc t)
trues-set (x ∷ xs) zero t = rw t (omega arith)
trues-set (x ∷ xs) (suc w) t = let i = trues-set xs w t in omega arith

-- a place past the end is false
false_set : (row : List Bool) (w : ℕ) → value_at (set row w false) w ≡ false
false_set [] w = refl
false_set (x ∷ xs) zero = refl
false_set (x ∷ xs) (suc w) = false_set xs w

-- the row without one place
abbrev dropped : List Bool → ℕ → List Bool
dropped row w = cond (value_at row w) (set row w false) row

dropped_here : (row : List Bool) (w : ℕ) (b : Bool) → value_at row w ≡ b → value_at (cond b (set row w false) row) w ≡ false
dropped_here row w true e = false_set row w
dropped_here row w false e = e

dropped_other : (row : List Bool) (w k : ℕ) (b : Bool) → (k ≡ w → ⊥) → value_at (cond b (set row w false) row) k ≡ value_at row k
dropped_other row w k true n = get_or-set_other row w k false false n
dropped_other row w k false n = refl

dropped_long : (row : List Bool) (w : ℕ) (b : Bool) → length (cond b (set row w false) row) ≡ length row
dropped_long row w true = length-set row w false
dropped_long row w false = refl

pub length-without : (ws : List ℕ) (row : List Bool) → length (without ws row) ≡ length row
length-without [] row = refl
length-without (w ∷ ws) row = length-without ws (dropped row w) ∙ dropped_long row w (value_at row w)

-- another place stays as it is
pub without_other : (ws : List ℕ) (row : List Bool) (k : ℕ) → (IsIn k ws → ⊥) → value_at (without ws row) k ≡ value_at row k
without_other [] row k n = refl
without_other (w ∷ ws) row k n = without_other ws (dropped row w) k (λ i. n (inr i)) ∙ dropped_other row w k (value_at row w) (λ e. n (inl e))

-- a place that is false stays so
pub without_false : (ws : List ℕ) (row : List Bool) (k : ℕ) → value_at row k ≡ false → value_at (without ws row) k ≡ false
without_false [] row k f = f
without_false (w ∷ ws) row k f = without_false ws (dropped row w) k (elim (eqb_tells k w) [
  | inl e ↦ ap (value_at (dropped row w)) e.1 ∙ dropped_here row w (value_at row w) refl
  | inr e ↦ dropped_other row w k (value_at row w) e.1 ∙ f
])

pub without_here : (ws : List ℕ) (row : List Bool) (k : ℕ) → IsIn k ws → value_at (without ws row) k ≡ false
without_here [] row k i = absurd i
without_here (w ∷ ws) row k (inl e) = without_false ws (dropped row w) k (ap (value_at (dropped row w)) e ∙ dropped_here row w (value_at row w) refl)
without_here (w ∷ ws) row k (inr i) = without_here ws (dropped row w) k i

-- what is taken stands in the list
from_first : (b : Bool) (k w : ℕ) (xs ys ws : List ℕ) → (IsIn k xs → IsIn k ws) → (IsIn k ys → IsIn k ws) → IsIn k (cond b (w ∷ xs) ys) → IsIn k (w ∷ ws)
from_first true k w xs ys ws f g (inl e) = inl e
from_first true k w xs ys ws f g (inr i) = inr (f i)
from_first false k w xs ys ws f g i = inr (g i)

pub from_taken : (ws : List ℕ) (row : List Bool) (k : ℕ) → IsIn k (taken ws row) → IsIn k ws
from_taken [] row k i = absurd i
from_taken (w ∷ ws) row k i = from_first (value_at row w) k w (taken ws (set row w false)) (taken ws row) ws (from_taken ws (set row w false) k) (from_taken ws row k) i

-- what was true and is so no more was taken
to_first : (ws : List ℕ) (row : List Bool) (k w : ℕ) (b : Bool) → value_at row w ≡ b → value_at row k ≡ true →
    ((r : List Bool) → value_at r k ≡ true → value_at (without ws r) k ≡ false → IsIn k (taken ws r)) →
    value_at (without ws (cond b (set row w false) row)) k ≡ false → IsIn k (cond b (w ∷ taken ws (set row w false)) (taken ws row))
to_first ws row k w true e t f g = elim (eqb_tells k w) [
  | inl q ↦ inl q.1
  | inr q ↦ inr (f (set row w false) (get_or-set_other row w k false false q.1 ∙ t) g)
]
to_first ws row k w false e t f g = f row t g

pub in_taken : (ws : List ℕ) (row : List Bool) (k : ℕ) → value_at row k ≡ true → value_at (without ws row) k ≡ false → IsIn k (taken ws row)
in_taken [] row k t f = absurd (cc)
in_taken (w ∷ ws) row k t f = to_first ws row k w (value_at row w) refl t (λ r. in_taken ws r k) f

-- each place that is taken is one true place less
count_first : (ws : List ℕ) (row : List Bool) (w : ℕ) (b : Bool) → value_at row w ≡ b →
    ((r : List Bool) → trues (without ws r) + length (taken ws r) ≡ trues r) →
    trues (without ws (cond b (set row w false) row)) + length (cond b (w ∷ taken ws (set row w false)) (taken ws row)) ≡ trues row
count_first ws row w true e f = let t = trues-set row w e in let g = f (set row w false) in omega arith
count_first ws row w false e f = f row

pub trues-without : (ws : List ℕ) (row : List Bool) → trues (without ws row) + length (taken ws row) ≡ trues row
trues-without [] row = omega arith
trues-without (w ∷ ws) row = count_first ws row w (value_at row w) refl (trues-without ws)
