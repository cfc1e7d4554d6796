-- The steps along the parents.
use Rattle.std.proofs.Common.{◌≡◌, ℕ, zero, suc, ◌+◌, ◌<◌, ◌≤◌, List, [], ◌∷◌, ◌++◌, length, reverse, append_assoc, slice_get, Option, Some, None, refl, sym, ap, ◌∙◌, subst, arith}
use Rattle.std.proofs.lemmas.List.{reverse-append}
use Rattle.std.proofs.lemmas.List.Sums.{sum_by-cons}
use Rattle.std.proofs.lemmas.Option.{slice_get_within, none-some}
use Rattle.ep_store.specs.declared.entry.Step.{Step}
use Rattle.ep_store.specs.declared.entry.Entry.{Entry}
use Rattle.ep_store.specs.Stored.{Has, IsPath, start, more, toll_sum}
use Rattle.ep_store.specs.Inside.{IsTree, Comes}

abbrev weight_of : Option Entry → ℕ
weight_of None = 0
weight_of (Some e) = e.weight

abbrev pub weight_at : List Entry → ℕ → ℕ
weight_at es i = weight_of (slice_get es i)

-- the steps, last first, lead from the entry at `at` to the one at `to`
pub record IsPart (es : List Entry) (to at : ℕ) (steps : List Step) : Type 0 where
  pub within : at < length es
  pub path : (xs : List Step) → IsPath es at xs → IsPath es to (xs ++ reverse steps)
  pub light : toll_sum (reverse steps) + weight_at es at ≤ weight_at es to

use_weight : (es : List Entry) (i : ℕ) (e : Entry) → slice_get es i ≡ Some e → weight_at es i ≡ e.weight
use_weight es i e at = ap weight_of at

toll_one : (s : Step) (xs : List Step) → toll_sum (s ∷ xs) ≡ s.toll + toll_sum xs
toll_one s xs = sum_by-cons (λ (x : Step). x.toll) s xs

-- one step towards the first entry
pub part_more : (es : List Entry) (to at : ℕ) (steps : List Step) (e : Entry) (s : Step) → IsTree es → IsPart es to at steps → slice_get es at ≡ Some e → e.from ≡ Some s
    → IsPart es to s.parent.n (steps ++ s ∷ [])
part_more es to at steps e s tree part ate from =
    let come : (1 ≤ s.toll) × Has es s.parent.n (λ f. f.weight + s.toll ≤ e.weight) = subst (Comes es at e.weight) from (tree at e ate) in
    record {
      within = slice_get_within es s.parent.n come.1.entry come.1.at;
      path = λ xs path. subst (IsPath es to) (append_assoc xs (s ∷ []) (reverse steps) ∙ ap (λ ys. xs ++ ys) (sym (reverse-append steps (s ∷ [])))) (part.path (xs ++ s ∷ []) (more at e s xs ate from path));
      light = omega (arith, ap toll_sum (reverse-append steps (s ∷ [])), toll_one s (reverse steps), part.light, use_weight es at e ate, use_weight es s.parent.n come.1.entry come.1.at, come.1.holds);
    }

-- the weight falls
pub part_less : (es : List Entry) (at : ℕ) (e : Entry) (s : Step) → IsTree es → slice_get es at ≡ Some e → e.from ≡ Some s → weight_at es s.parent.n < weight_at es at
part_less es at e s tree ate from =
    let come : (1 ≤ s.toll) × Has es s.parent.n (λ f. f.weight + s.toll ≤ e.weight) = subst (Comes es at e.weight) from (tree at e ate) in
    omega (arith, come.0, use_weight es at e ate, use_weight es s.parent.n come.1.entry come.1.at, come.1.holds)

pub part_end : (es : List Entry) (to at : ℕ) (steps : List Step) (e : Entry) → IsPart es to at steps → slice_get es at ≡ Some e → e.from ≡ None → IsPath es to (reverse steps)
part_end es to at steps e part ate none = part.path [] (start at e ate none)

past : (fs : List Entry) (i : ℕ) → i < length fs → slice_get fs i ≡ None → ⊥
past [] i h k = absurd (omega arith)
past (f ∷ fs) zero h k = none-some f (sym k)
past (f ∷ fs) (suc i) h k = past fs i (omega arith) k

pub part_light : (es : List Entry) (to at : ℕ) (steps xs : List Step) → to < length es → IsPart es to at steps → xs ≡ reverse steps → Has es to (λ e. toll_sum xs ≤ e.weight)
part_light es to at steps xs lt part same = by (slice_get es to) refl
  where
    by : (o : Option Entry) → slice_get es to ≡ o → Has es to (λ e. toll_sum xs ≤ e.weight)
    by None none = absurd (past es to lt none)
    by (Some e) h = record { entry = e; at = h; holds = omega (arith, part.light, ap toll_sum same, use_weight es to e h) }
