-- A text keeps its rules in one way.
use Rattle.std.proofs.Common.{◌≡◌, ℕ, suc, ◌+◌, ◌<◌, ◌≤◌, List, [], ◌∷◌, ◌++◌, length, refl, sym, ap, ◌∙◌, subst, arith, inl, inr, codes, decimal}
use Rattle.std.proofs.lemmas.Bool.{cases_lt}
use Rattle.std.proofs.lemmas.List.{append_cancel_left}
use Rattle.std.proofs.lemmas.Fmt.{decimal_injective}
use Rattle.hex.specs.Hex.{encode_lower}
use Rattle.ep_theory.specs.Kripke.{Kripke, IsState}
use Rattle.ep_bounds.specs.declared.bounds.TheConstants.{MOST_WORLDS}
use Rattle.ep_bytes.specs.Bytes.{bytes_of, IsWithin}
use Rattle.ep_bytes.proofs.CallerLemmas.{same_bytes}
use Rattle.ep_audit.proofs.ByteLemmas.{small_bytes}
use Rattle.ep_audit.specs.NamedTasks.{NamedTask, IsNamedTask}
use Rattle.ep_theory.specs.Closed.{MayStand}
use Rattle.ep_audit.specs.Lines.{IsLine, entry_head, entry_line}
use Rattle.ep_audit.specs.Certificates.{Comes, GoesOn, TakesAt, Takes, nothing_told, Keeps, start, more, Certifies, IsWrongLine}
use Rattle.ep_audit.specs.declared.progress.DueLine.{DueLine}
use Rattle.ep_audit.specs.declared.progress.DueLine.TheVariants.{Version, Task, Bound, Count, Entry, Start, Step, End, Nothing}
use Rattle.ep_audit.specs.declared.progress.Progress.{Progress}
use Rattle.ep_audit.proofs.TextLemmas.{cut_once, decimal_lacks, same_hex, entry_parts}
use Rattle.ep_audit.proofs.ProgressLemmas.{keeps_told}

pub same_number : (prefix : List ℕ) (m n : ℕ) → m ≤ 16384 → n ≤ 16384 → prefix ++ decimal m ≡ prefix ++ decimal n → m ≡ n
same_number prefix m n h k e = decimal_injective m n (omega (arith, h)) (omega (arith, k)) (append_cancel_left prefix (decimal m) (decimal n) e)

-- entries whose lines are equal are equal
pub one_entry : (b i : ℕ) (e f : Kripke × ℕ) → b ≤ 1000 → IsState e.0 → IsState f.0 → IsWithin MOST_WORLDS e.0 → IsWithin MOST_WORLDS f.0 → e.1 ≤ b → f.1 ≤ b → entry_line i e ≡ entry_line i f → e ≡ f
one_entry b i e f bound m n s t c d same =
    let rest = append_cancel_left (entry_head i) (decimal e.1 ++ 32 ∷ encode_lower (bytes_of e.0)) (decimal f.1 ++ 32 ∷ encode_lower (bytes_of f.0)) (sym (entry_parts i e) ∙ same ∙ entry_parts i f) in
    let parts = cut_once 32 (decimal e.1) (decimal f.1) (encode_lower (bytes_of e.0)) (encode_lower (bytes_of f.0)) (decimal_lacks 32 (omega arith) e.1 (omega (arith, bound, c))) (decimal_lacks 32 (omega arith) f.1 (omega (arith, bound, d))) rest in
    let weights = decimal_injective e.1 f.1 (omega (arith, bound, c)) (omega (arith, bound, d)) parts.0 in
    let states = same_bytes e.0 f.0 m n (same_hex (bytes_of e.0) (bytes_of f.0) (small_bytes e.0 s) (small_bytes f.0 t) parts.1) in
    λ i. (states i, weights i)

module _ (T : NamedTask) (cost : IsNamedTask T) where
  pub small : (b : ℕ) (e : Kripke × ℕ) → MayStand T.problem b e → IsWithin MOST_WORLDS e.0
  small b e m = record { worlds = omega (arith, m.narrow); agents = omega (arith, m.agents, cost.small.agents); atoms = omega (arith, m.atoms, cost.small.atoms) }

  pub same_entry : (b i : ℕ) (e f : Kripke × ℕ) → b ≤ 1000 → MayStand T.problem b e → MayStand T.problem b f → entry_line i e ≡ entry_line i f → e ≡ f
  same_entry b i e f bound m n same = one_entry b i e f bound m.valid n.valid (small b e m) (small b f n) m.cheap n.cheap same

  -- the first pair left is one
  same_due : (told : Progress) (q : ℕ) (c d : DueLine) → Comes T told q c → Comes T told q d → c ≡ d
  same_due told q (Step i) (Step j) h k =
      elim (cases_lt i j) as (λ _. Step i ≡ Step j) [
        | inl less ↦ absurd (k.3 i h.0 less h.2)
        | inr le ↦ elim (cases_lt j i) as (λ _. Step i ≡ Step j) [
          | inl less ↦ absurd (h.3 j k.0 less k.2)
          | inr ge ↦ let e : i ≡ j = omega (arith, le, ge) in ap (λ n. Step n) e
        ]
      ]
  same_due told q (Step i) End h k = absurd (k i h.0 h.1 h.2)
  same_due told q End (Step j) h k = absurd (h j k.0 k.1 k.2)
  same_due told q End End h k = refl
  same_due told q End other h k = absurd k
  same_due told q (Step i) other h k = absurd k
  same_due told q other d h k = absurd h

  same_goes_on : (told next other : Progress) (q : ℕ) → GoesOn T told q next → GoesOn T told q other → next ≡ other
  same_goes_on told next other q g h = g.after ∙ ap (λ (d : DueLine). record told { due = d }) (same_due told q g.due h.due g.comes h.comes) ∙ sym h.after

  same_at : (due : DueLine) (told next other : Progress) (line behind : List ℕ) → told.bound ≤ 1000 → TakesAt due T told line behind next → TakesAt due T told line behind other → next ≡ other
  same_at Version told next other line behind b s t = s.1 ∙ sym t.1
  same_at Task told next other line behind b s t = s.1 ∙ sym t.1
  same_at Bound told next other line behind b s t =
      s.after ∙ ap (λ n. record told { bound = n; due = Count }) (same_number (codes "none to cost ") s.bound t.bound (omega (arith, s.most)) (omega (arith, t.most)) (sym s.is_line ∙ t.is_line)) ∙ sym t.after
  same_at Count told next other line behind b s t =
      s.after ∙ ap (λ n. record told { count = n; due = Entry }) (same_number (codes "states ") s.count t.count s.most t.most (sym s.is_line ∙ t.is_line)) ∙ sym t.after
  same_at Entry told next other line behind b s t =
      s.after ∙ ap (λ (e : Kripke × ℕ). record told { entries = told.entries ++ e ∷ []; due = _ }) (same_entry told.bound (length told.entries) s.entry t.entry b s.may_stand t.may_stand (sym s.is_line ∙ t.is_line)) ∙ sym t.after
  same_at Start told next other line behind b s t = same_goes_on told next other 0 s.1 t.1
  same_at (Step q) told next other line behind b s t = same_goes_on told next other (q + 1) s.1 t.1
  same_at End told next other line behind b s t = s.2 ∙ sym t.2
  same_at Nothing told next other line behind b s t = absurd s

  -- ---- texts

  abbrev Same : List ℕ → ℕ → Progress → List ℕ → Type 0
  Same text n told rest = (told' : Progress) (rest' : List ℕ) → Keeps T text n told' rest' → (told ≡ told') × (rest ≡ rest')

  zero_case : (text rest : List ℕ) (n : ℕ) (told : Progress) → Keeps T text n told rest → n ≡ 0 → (nothing_told ≡ told) × (text ≡ rest)
  zero_case text rest n told start e = (refl, refl)
  zero_case text rest n told (more line behind next k is_line t) e = absurd (omega (arith, e))

  -- the last line
  pub record Last (text : List ℕ) (n : ℕ) (next : Progress) (behind : List ℕ) : Type 0 where
    pub told : Progress
    pub line : List ℕ
    pub keeps : Keeps T text n told (line ++ 10 ∷ behind)
    pub is_line : IsLine line
    pub takes : Takes T told line behind next

  last_line : (text behind : List ℕ) (n m : ℕ) (next : Progress) → Keeps T text m next behind → m ≡ suc n → Last text n next behind
  last_line text behind n m next start e = absurd (omega (arith, e))
  last_line text behind n m next (more {n = l} {told = told} line b x k is_line t) e =
      let same : l ≡ n = omega (arith, e) in
      record { told = told; line = line; keeps = subst (λ j. Keeps T text j told (line ++ 10 ∷ b)) same k; is_line = is_line; takes = t }

  one_more_same : (text : List ℕ) (n : ℕ) (told : Progress) (line behind : List ℕ) (next : Progress) → Keeps T text n told (line ++ 10 ∷ behind) → Same text n told (line ++ 10 ∷ behind) → IsLine line → Takes T told line behind next → Same text (suc n) next behind
  one_more_same text n told line behind next keeps same is_line t other rest k =
      let last = last_line text rest n (suc n) other k refl in
      let old = same last.told (last.line ++ 10 ∷ rest) last.keeps in
      let cut = cut_once 10 line last.line behind rest is_line last.is_line old.1 in
      let bound = (keeps_told T text n told (line ++ 10 ∷ behind) keeps).bound in
      let moved : Takes T told line behind other = subst (λ b. Takes T told line b other) (sym cut.1) (subst (λ l. Takes T told l rest other) (sym cut.0) (subst (λ o. Takes T o last.line rest other) (sym old.0) last.takes)) in
      (same_at told.due told next other line behind bound t moved, cut.1)

  pub one_way : (text : List ℕ) (n : ℕ) (told : Progress) (rest : List ℕ) → Keeps T text n told rest → Same text n told rest
  one_way text n told rest start = λ other behind k. zero_case text behind 0 other k refl
  one_way text n told rest (more {n = m} {told = old} line behind next k is_line t) = one_more_same text m old line behind next k (one_way text m old (line ++ 10 ∷ behind) k) is_line t

  -- a line that was taken when n lines were done
  pub record Went (text : List ℕ) (n : ℕ) : Type 0 where
    pub told : Progress
    pub next : Progress
    pub line : List ℕ
    pub behind : List ℕ
    pub keeps : Keeps T text n told (line ++ 10 ∷ behind)
    pub is_line : IsLine line
    pub takes : Takes T told line behind next

  went : (text : List ℕ) (n m : ℕ) (told : Progress) (rest : List ℕ) → Keeps T text m told rest → n < m → Went text n
  went text n m told rest start l = absurd (omega (arith, l))
  went text n m told rest (more {n = k} {told = old} line behind next keeps is_line t) l =
      elim (cases_lt n k) as (λ _. Went text n) [
        | inl less ↦ went text n k old (line ++ 10 ∷ behind) keeps less
        | inr le ↦
            let same : k ≡ n = omega (arith, le, l) in
            record { told = old; next = next; line = line; behind = behind; keeps = subst (λ i. Keeps T text i old (line ++ 10 ∷ behind)) same keeps; is_line = is_line; takes = t }
      ]

  nothing_more : (told other next : Progress) (line behind : List ℕ) → told ≡ other → told.due ≡ Nothing → Takes T other line behind next → ⊥
  nothing_more told other next line behind e done t =
      let due : other.due ≡ Nothing = ap (λ (o : Progress). o.due) (sym e) ∙ done in
      subst (λ d. TakesAt d T other line behind next) due t

  ended : (text : List ℕ) (n m : ℕ) (told other : Progress) (rest behind : List ℕ) → Keeps T text n told rest → told.due ≡ Nothing → Keeps T text m other behind → n < m → ⊥
  ended text n m told other rest behind k done l less =
      let w = went text n m other behind l less in
      nothing_more told w.told w.next w.line w.behind (one_way text n told rest k w.told (w.line ++ 10 ∷ w.behind) w.keeps).0 done w.takes

  broken : (text : List ℕ) (l m : ℕ) (other : Progress) (behind : List ℕ) (wrong : IsWrongLine T text l) → Keeps T text m other behind → wrong.lines < m → ⊥
  broken text l m other behind wrong k less =
      let w = went text wrong.lines m other behind k less in
      let same = one_way text wrong.lines wrong.told wrong.rest wrong.keeps w.told (w.line ++ 10 ∷ w.behind) w.keeps in
      wrong.breaks w.line w.behind w.next same.1 w.is_line (subst (λ o. Takes T o w.line w.behind w.next) (sym same.0) w.takes)

  same_lines : (n m : ℕ) → (n < m → ⊥) → (m < n → ⊥) → n ≡ m
  same_lines n m h k = elim (cases_lt n m) as (λ _. n ≡ m) [
    | inl less ↦ absurd (h less)
    | inr le ↦ elim (cases_lt m n) as (λ _. n ≡ m) [ inl less ↦ absurd (k less) | inr ge ↦ (let e : n ≡ m = omega (arith, le, ge) in e) ]
  ]

  pub one_bound : (text : List ℕ) (b c : ℕ) → Certifies T text b → Certifies T text c → b ≡ c
  one_bound text b c h k =
      let lines = same_lines h.lines k.lines (ended text h.lines k.lines h.told k.told [] [] h.keeps h.done k.keeps) (ended text k.lines h.lines k.told h.told [] [] k.keeps k.done h.keeps) in
      let told = one_way text h.lines h.told [] h.keeps k.told [] (subst (λ n. Keeps T text n k.told []) (sym lines) k.keeps) in
      sym h.bound_is ∙ ap (λ (t : Progress). t.bound) told.0 ∙ k.bound_is

  pub one_line : (text : List ℕ) (l m : ℕ) → IsWrongLine T text l → IsWrongLine T text m → l ≡ m
  one_line text l m h k =
      let lines = same_lines h.lines k.lines (broken text l k.lines k.told k.rest h k.keeps) (broken text m h.lines h.told h.rest k h.keeps) in
      h.place ∙ ap (λ n. n + 1) lines ∙ sym k.place

  pub never_both : (text : List ℕ) (b l : ℕ) → Certifies T text b → IsWrongLine T text l → ⊥
  never_both text b l h k =
      let lines = same_lines h.lines k.lines (ended text h.lines k.lines h.told k.told [] k.rest h.keeps h.done k.keeps) (broken text l h.lines h.told [] k h.keeps) in
      let told = one_way text h.lines h.told [] h.keeps k.told k.rest (subst (λ n. Keeps T text n k.told k.rest) (sym lines) k.keeps) in
      k.not_done (ap (λ (t : Progress). t.due) (sym told.0) ∙ h.done)
