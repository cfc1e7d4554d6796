-- The line of a step, from its head on.
use Rattle.std.proofs.Common.{◌≡◌, ◌≢◌, ℕ, ◌+◌, ◌/◌, ◌%◌, ◌≤◌, ◌⊎◌, List, ◌∷◌, ◌++◌, get_or, Some, sym, ap, ◌∙◌, subst, arith, inl, inr, decimal, codes}
use Rattle.std.specs.Prelude.{slice_get}
use Rattle.std.specs.List.{AllByRecursion}
use Rattle.std.proofs.lemmas.List.{append_cancel_left}
use Rattle.std.proofs.lemmas.Option.{same_Some}
use Rattle.ep_theory.specs.Kripke.{Kripke}
use Rattle.ep_theory.specs.Events.{EventModel}
use Rattle.ep_theory.specs.Fits.{ActionFits}
use Rattle.ep_theory.specs.Closed.{MayStand}
use Rattle.ep_theory.proofs.CallerLemmas.{all_get}
use Rattle.ep_audit.specs.NamedTasks.{NamedTask, cost_of, name_of}
use Rattle.ep_audit.specs.Lines.{map_text, step_head}
use Rattle.ep_audit.specs.Certificates.{action_count, IsStuck, IsMapped, ShowsStep}
use Rattle.ep_audit.specs.Sound.{IsSound}
use Rattle.ep_audit.specs.Shown.{ShowsStuck, ShowsProduct}
use Rattle.ep_audit.specs.declared.progress.Progress.{Progress}
use Rattle.ep_audit.proofs.FitLemmas.{ActionFits-among, All-change}
use Rattle.ep_audit.proofs.TextLemmas.{stuck_parts, to_parts}

module _ (T : NamedTask) (told : Progress) (q : ℕ) where
  abbrev i : ℕ
  i = q / action_count T

  abbrev a : ℕ
  a = q % action_count T

  abbrev Shown : Kripke × ℕ → EventModel → List ℕ → Type 0
  Shown e A line = IsStuck e.0 A i (name_of T a) line ⊎ IsMapped told.entries (e.1 + cost_of T a) e.0 A i (name_of T a) line

  -- what is shown, of the entry and the action that were found
  shown_of : (e : Kripke × ℕ) (A : EventModel) (line : List ℕ) → slice_get told.entries i ≡ Some e → slice_get T.problem.actions a ≡ Some A → ShowsStep T told q line → Shown e A line
  shown_of e A line at action s =
      subst (λ B. Shown e B line) (same_Some s.action A (sym s.action_at ∙ action)) (subst (λ f. Shown f s.action line) (same_Some s.entry e (sym s.at ∙ at)) s.shown)

  whole : (e : Kripke × ℕ) (A : EventModel) (line : List ℕ) → slice_get told.entries i ≡ Some e → slice_get T.problem.actions a ≡ Some A → Shown e A line → ShowsStep T told q line
  whole e A line at action s = record { entry = e; at = at; action = A; action_at = action; shown = s }

  -- what follows the head
  behind_head : (e : Kripke × ℕ) (A : EventModel) (line : List ℕ) → Shown e A line → (tail : List ℕ) × (line ≡ step_head i ++ (name_of T a ++ tail))
  behind_head e A line (inl s) = (codes " stuck " ++ decimal s.world, s.is_line ∙ stuck_parts i (name_of T a) s.world)
  behind_head e A line (inr m) = (codes " to " ++ (decimal m.place ++ 32 ∷ (codes "map " ++ map_text m.map)), m.is_line ∙ to_parts i (name_of T a) m.place m.map)

  pub headless : (line : List ℕ) → ((rest : List ℕ) → line ≢ step_head i ++ rest) → ShowsStep T told q line → ⊥
  headless line never s = let b = behind_head s.entry s.action line s.shown in never (name_of T a ++ b.0) b.1

  pub nameless : (line rest : List ℕ) → line ≡ step_head i ++ rest → ((tail : List ℕ) → rest ≢ name_of T a ++ tail) → ShowsStep T told q line → ⊥
  nameless line rest head never s =
      let b = behind_head s.entry s.action line s.shown in
      never b.0 (append_cancel_left (step_head i) rest (name_of T a ++ b.0) (sym head ∙ b.1))

  -- what follows the name
  tail_is : (line rest tail own : List ℕ) → line ≡ step_head i ++ rest → rest ≡ name_of T a ++ tail → line ≡ step_head i ++ (name_of T a ++ own) → tail ≡ own
  tail_is line rest tail own head name parts =
      append_cancel_left (name_of T a) tail own (sym name ∙ append_cancel_left (step_head i) rest (name_of T a ++ own) (sym head ∙ parts))

  line_of : (line rest tail own : List ℕ) → line ≡ step_head i ++ rest → rest ≡ name_of T a ++ tail → tail ≡ own → line ≡ step_head i ++ (name_of T a ++ own)
  line_of line rest tail own head name is = head ∙ ap (λ r. step_head i ++ r) (name ∙ ap (λ t. name_of T a ++ t) is)

  -- a step that is stuck
  pub stuck_shows : (e : Kripke × ℕ) (A : EventModel) (line rest tail digits : List ℕ) → slice_get told.entries i ≡ Some e → slice_get T.problem.actions a ≡ Some A
      → line ≡ step_head i ++ rest → rest ≡ name_of T a ++ tail → tail ≡ codes " stuck " ++ digits → ShowsStuck e.0 A digits → ShowsStep T told q line
  stuck_shows e A line rest tail digits at action head name is h =
      whole e A line at action (inl (record { world = h.0; is_line = line_of line rest tail (codes " stuck " ++ decimal h.0) head name (is ∙ ap (λ d. codes " stuck " ++ d) h.1) ∙ sym (stuck_parts i (name_of T a) h.0); stuck = h.2 }))

  pub shows_stuck : (e : Kripke × ℕ) (A : EventModel) (line rest tail digits : List ℕ) → slice_get told.entries i ≡ Some e → slice_get T.problem.actions a ≡ Some A
      → line ≡ step_head i ++ rest → rest ≡ name_of T a ++ tail → tail ≡ codes " stuck " ++ digits → ShowsStep T told q line → ShowsStuck e.0 A digits
  shows_stuck e A line rest tail digits at action head name is s = by (shown_of e A line at action s)
    where
      by : Shown e A line → ShowsStuck e.0 A digits
      by (inl h) = (h.world, append_cancel_left (codes " stuck ") digits (decimal h.world) (sym is ∙ tail_is line rest tail (codes " stuck " ++ decimal h.world) head name (h.is_line ∙ stuck_parts i (name_of T a) h.world)), h.stuck)
      by (inr m) = (let other : codes " stuck " ++ digits ≡ codes " to " ++ (decimal m.place ++ 32 ∷ (codes "map " ++ map_text m.map)) = sym is ∙ tail_is line rest tail _ head name (m.is_line ∙ to_parts i (name_of T a) m.place m.map) in (let e : 115 ≡ 116 = ap (λ (xs : List ℕ). get_or xs 1 0) other in absurd (omega (arith, e))))

  -- a step that leads to an entry
  pub product_shows : (e : Kripke × ℕ) (A : EventModel) (line rest tail text : List ℕ) → slice_get told.entries i ≡ Some e → slice_get T.problem.actions a ≡ Some A
      → line ≡ step_head i ++ rest → rest ≡ name_of T a ++ tail → tail ≡ codes " to " ++ text → ShowsProduct told.entries (e.1 + cost_of T a) e.0 A text → ShowsStep T told q line
  product_shows e A line rest tail text at action head name is p =
      whole e A line at action (inr (record {
        place = p.place;
        map = p.map;
        is_line = line_of line rest tail (codes " to " ++ (decimal p.place ++ 32 ∷ (codes "map " ++ map_text p.map))) head name (is ∙ ap (λ d. codes " to " ++ d) p.is_text) ∙ sym (to_parts i (name_of T a) p.place p.map);
        entry = p.entry;
        at = p.at;
        cheap = p.cheap;
        applicable = p.applicable;
        maps = p.maps;
      }))

  pub shows_product : (e : Kripke × ℕ) (A : EventModel) (line rest tail text : List ℕ) → slice_get told.entries i ≡ Some e → slice_get T.problem.actions a ≡ Some A
      → line ≡ step_head i ++ rest → rest ≡ name_of T a ++ tail → tail ≡ codes " to " ++ text → ShowsStep T told q line → ShowsProduct told.entries (e.1 + cost_of T a) e.0 A text
  shows_product e A line rest tail text at action head name is s = by (shown_of e A line at action s)
    where
      by : Shown e A line → ShowsProduct told.entries (e.1 + cost_of T a) e.0 A text
      by (inl h) = (let other : codes " to " ++ text ≡ codes " stuck " ++ decimal h.world = sym is ∙ tail_is line rest tail _ head name (h.is_line ∙ stuck_parts i (name_of T a) h.world) in (let e : 116 ≡ 115 = ap (λ (xs : List ℕ). get_or xs 1 0) other in absurd (omega (arith, e))))
      by (inr m) = record {
        place = m.place;
        map = m.map;
        is_text = append_cancel_left (codes " to ") text (decimal m.place ++ 32 ∷ (codes "map " ++ map_text m.map)) (sym is ∙ tail_is line rest tail (codes " to " ++ (decimal m.place ++ 32 ∷ (codes "map " ++ map_text m.map))) head name (m.is_line ∙ to_parts i (name_of T a) m.place m.map));
        entry = m.entry;
        at = m.at;
        cheap = m.cheap;
        applicable = m.applicable;
        maps = m.maps;
      }

  pub neither : (line rest tail : List ℕ) → line ≡ step_head i ++ rest → rest ≡ name_of T a ++ tail → ((x : List ℕ) → tail ≢ codes " stuck " ++ x) → ((x : List ℕ) → tail ≢ codes " to " ++ x) → ShowsStep T told q line → ⊥
  neither line rest tail head name never never2 s = by s.shown
    where
      by : Shown s.entry s.action line → ⊥
      by (inl h) = never (decimal h.world) (tail_is line rest tail (codes " stuck " ++ decimal h.world) head name (h.is_line ∙ stuck_parts i (name_of T a) h.world))
      by (inr m) = never2 (decimal m.place ++ 32 ∷ (codes "map " ++ map_text m.map)) (tail_is line rest tail _ head name (m.is_line ∙ to_parts i (name_of T a) m.place m.map))

-- the action of a pair fits its entry
pub fits_entry : (T : NamedTask) (told : Progress) (h : IsSound T told) (i : ℕ) (e : Kripke × ℕ) (A : EventModel) → slice_get told.entries i ≡ Some e → ActionFits T.problem.initial A → ActionFits e.0 A
fits_entry T told h i e A at fits =
    let m = all_get (MayStand T.problem told.bound) told.entries i e h.entries at in
    ActionFits-among T.problem.initial e.0 (sym m.agents) (sym m.atoms) A fits

pub narrow_entry : (T : NamedTask) (told : Progress) (h : IsSound T told) (i : ℕ) (e : Kripke × ℕ) → slice_get told.entries i ≡ Some e → e.0.worlds ≤ 256
narrow_entry T told h i e at = (all_get (MayStand T.problem told.bound) told.entries i e h.entries at).narrow

-- entries have the agents and atoms of each of them
pub alike_entries : (T : NamedTask) (told : Progress) (h : IsSound T told) (i : ℕ) (e : Kripke × ℕ) → slice_get told.entries i ≡ Some e → AllByRecursion (λ (f : Kripke × ℕ). (f.0.agents ≡ e.0.agents) × (f.0.atoms ≡ e.0.atoms)) told.entries
alike_entries T told h i e at =
    let m = all_get (MayStand T.problem told.bound) told.entries i e h.entries at in
    All-change (MayStand T.problem told.bound) (λ (f : Kripke × ℕ). (f.0.agents ≡ e.0.agents) × (f.0.atoms ≡ e.0.atoms)) (λ f k. (k.agents ∙ sym m.agents, k.atoms ∙ sym m.atoms)) told.entries h.entries
