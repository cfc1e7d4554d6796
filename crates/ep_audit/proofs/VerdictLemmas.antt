-- What an audit answers, from line to line.
use Rattle.std.proofs.Common.{◌≡◌, ◌≢◌, ℕ, suc, ◌+◌, ◌≤◌, ◌↔◌, Bool, true, false, List, [], ◌∷◌, ◌++◌, length, All, Result, Ok, Err, refl, sym, ap, ◌∙◌, subst}
use Rattle.std.specs.Prelude.{if◌then◌else◌, IfOk}
use Rattle.std.specs.Bool.{MatchBool}
use Rattle.ep_audit.specs.NamedTasks.{NamedTask, IsNamedTask}
use Rattle.ep_theory.specs.Closed.{HasNoPlan}
use Rattle.ep_theory.specs.Kripke.{Kripke}
use Rattle.ep_audit.specs.Lines.{IsLine, entry_line}
use Rattle.ep_audit.specs.Certificates.{Comes, TakesEntry, TakesAt, Takes, Keeps, more, Certifies, IsWrongLine}
use Rattle.ep_audit.specs.Sound.{IsSound, IsPlace}
use Rattle.ep_audit.specs.Shown.{IsTaken, IsEntryLine}
use Rattle.ep_audit.specs.Answers.{IsAudited}
use Rattle.ep_audit.specs.declared.progress.DueLine.{DueLine}
use Rattle.ep_audit.specs.declared.progress.DueLine.TheVariants.{Version, Task, Bound, Count, Entry, Start, Step, End, Nothing}
use Rattle.ep_audit.specs.declared.progress.Progress.{Progress}
use Rattle.ep_audit.specs.declared.verdict.Audited.{Audited}
use Rattle.ep_audit.specs.declared.verdict.Audited.TheVariants.{Proves, Wrong}
use Rattle.ep_audit.proofs.AnswerLemmas.{has_byte}
use Rattle.ep_audit.proofs.OneLemmas.{small, one_entry, one_bound, one_line, never_both}
use Rattle.ep_audit.proofs.TextLemmas.{cut_once}

module _ (T : NamedTask) where
  -- nothing follows the last line
  goes_on_not : (told next : Progress) (q : ℕ) (due : DueLine) → Comes T told q due → next ≡ record told { due = due } → next.due ≡ Nothing → ⊥
  goes_on_not told next q (Step k) comes e done = let one : Step k ≡ Nothing = ap (λ (t : Progress). t.due) (sym e) ∙ done in cc
  goes_on_not told next q End comes e done = let one : End ≡ Nothing = ap (λ (t : Progress). t.due) (sym e) ∙ done in cc
  goes_on_not told next q other comes e done = absurd comes

  last_behind : (due : DueLine) (told next : Progress) (line behind : List ℕ) → TakesAt due T told line behind next → next.due ≡ Nothing → behind ≡ []
  last_behind Version told next line behind t done = let one : Task ≡ Nothing = ap (λ (t : Progress). t.due) (sym t.1) ∙ done in cc
  last_behind Task told next line behind t done = let one : Bound ≡ Nothing = ap (λ (t : Progress). t.due) (sym t.1) ∙ done in cc
  last_behind Bound told next line behind t done = let one : Count ≡ Nothing = ap (λ (t : Progress). t.due) (sym t.after) ∙ done in cc
  last_behind Count told next line behind t done = let one : Entry ≡ Nothing = ap (λ (t : Progress). t.due) (sym t.after) ∙ done in cc
  last_behind Entry told next line behind t done = absurd (entry_due _ (ap (λ (t : Progress). t.due) (sym t.after) ∙ done))
    where
      entry_due : (b : Bool) → (if b then Start else Entry) ≡ Nothing → ⊥
      entry_due true e = cc
      entry_due false e = cc
  last_behind Start told next line behind t done = absurd (goes_on_not told next 0 t.1.due t.1.comes t.1.after done)
  last_behind (Step q) told next line behind t done = absurd (goes_on_not told next (q + 1) t.1.due t.1.comes t.1.after done)
  last_behind End told next line behind t done = t.1
  last_behind Nothing told next line behind t done = absurd t

  pub behind_last : (told next : Progress) (line behind : List ℕ) → Takes T told line behind next → next.due ≡ Nothing → behind ≡ []
  behind_last told next line behind t done = last_behind told.due told next line behind t done

  pub next_keeps : (text : List ℕ) (n m : ℕ) (told next : Progress) (rest line behind : List ℕ) → Keeps T text n told rest → rest ≡ line ++ 10 ∷ behind → IsLine line → Takes T told line behind next → m ≡ suc n → Keeps T text m next behind
  next_keeps text n m told next rest line behind keeps e is_line t s =
      subst (λ k. Keeps T text k next behind) (sym s) (more line behind next (subst (Keeps T text n told) e keeps) is_line t)

  pub wrong_uncut : (text : List ℕ) (n l : ℕ) (told : Progress) (rest : List ℕ) → Keeps T text n told rest → told.due ≢ Nothing → All (λ b. b ≢ 10) rest → l ≡ n + 1 → IsWrongLine T text l
  wrong_uncut text n l told rest keeps not_done lacks e = record {
    lines = n;
    told = told;
    rest = rest;
    keeps = keeps;
    not_done = not_done;
    place = e;
    breaks = λ line behind next parts is_line t. has_byte 10 line behind (subst (All (λ b. b ≢ 10)) parts lacks);
  }

  pub wrong_line : (text : List ℕ) (n l : ℕ) (told : Progress) (rest line behind : List ℕ) → Keeps T text n told rest → told.due ≢ Nothing → rest ≡ line ++ 10 ∷ behind → IsLine line
      → ((other : Progress) → Takes T told line behind other → ⊥) → l ≡ n + 1 → IsWrongLine T text l
  wrong_line text n l told rest line behind keeps not_done parts is_line never e = record {
    lines = n;
    told = told;
    rest = rest;
    keeps = keeps;
    not_done = not_done;
    place = e;
    breaks = λ line' behind' next parts' is_line' t.
        let cut = cut_once 10 line line' behind behind' is_line is_line' (sym parts ∙ parts') in
        never next (subst (λ b. Takes T told line b next) (sym cut.1) (subst (λ l. Takes T told l behind' next) (sym cut.0) t));
  }

  pub whole : (text : List ℕ) (n : ℕ) (told : Progress) (rest : List ℕ) → Keeps T text n told rest → told.due ≡ Nothing → (told.due ≡ Nothing → rest ≡ []) → Certifies T text told.bound
  whole text n told rest keeps done last = record { lines = n; told = told; keeps = subst (Keeps T text n told) (last done) keeps; done = done; bound_is = refl }

  -- ---- both sides of the answer

  pub proves_exactly : IsNamedTask T → (text : List ℕ) (r : Audited) → IsAudited T text r → (c : ℕ) → (r ≡ Proves c) ↔ Certifies T text c
  proves_exactly t text (Proves d) h c = (λ e. (let one : d ≡ c = cc in subst (Certifies T text) one h), λ k. ap (λ n. Proves n) (one_bound T t text d c h k))
  proves_exactly t text (Wrong l) h c = (λ e. cc, λ k. absurd (never_both T t text c l k h))

  pub wrong_exactly : IsNamedTask T → (text : List ℕ) (r : Audited) → IsAudited T text r → (l : ℕ) → (r ≡ Wrong l) ↔ IsWrongLine T text l
  wrong_exactly t text (Proves d) h l = (λ e. cc, λ k. absurd (never_both T t text d l h k))
  wrong_exactly t text (Wrong m) h l = (λ e. (let one : m ≡ l = cc in subst (IsWrongLine T text) one h), λ k. ap (λ n. Wrong n) (one_line T t text m l h k))

  pub no_plan_after : IsNamedTask T → (text : List ℕ) (r : Audited) → ((c : ℕ) → Certifies T text c → HasNoPlan T.problem c) → IsAudited T text r → (c : ℕ) → r ≡ Proves c → HasNoPlan T.problem c
  no_plan_after t text r none h c e = none c ((proves_exactly t text r h c).0 e)

  pub at_due : (told next : Progress) (line behind : List ℕ) (due : DueLine) (b : Bool) → told.due ≡ due → MatchBool b (TakesAt due T told line behind next) ((other : Progress) → TakesAt due T told line behind other → ⊥) → IsTaken T told line behind next b
  at_due told next line behind due b e h = subst (λ d. MatchBool b (TakesAt d T told line behind next) ((other : Progress) → TakesAt d T told line behind other → ⊥)) (sym e) h

  pub ok_at_due : {E : Type 0} (told next : Progress) (line behind : List ℕ) (due : DueLine) (r : Result Bool E) → told.due ≡ due
      → IfOk r (λ b. MatchBool b (TakesAt due T told line behind next) ((other : Progress) → TakesAt due T told line behind other → ⊥)) → IfOk r (IsTaken T told line behind next)
  ok_at_due told next line behind due (Ok b) e h = at_due told next line behind due b e h
  ok_at_due told next line behind due (Err x) e h = h

-- where only the first part may fail
pub first_fails : {E : Type 0} (A : Type 0) (B : Progress → Type 0) (next : Progress) (r : Result Bool E) → IfOk r (λ b. MatchBool b (A × B next) (A → ⊥)) → IfOk r (λ b. MatchBool b (A × B next) ((other : Progress) → A × B other → ⊥))
first_fails A B next (Ok true) h = h
first_fails A B next (Ok false) h = λ other t. h t.0
first_fails A B next (Err x) h = h

pub first_not : (A : Type 0) (B : Progress → Type 0) (next : Progress) (b : Bool) → MatchBool b (A × B next) (A → ⊥) → MatchBool b (A × B next) ((other : Progress) → A × B other → ⊥)
first_not A B next true h = h
first_not A B next false h = λ other t. h t.0

pub end_not : (A C : Type 0) (B : Progress → Type 0) (next : Progress) (b : Bool) → MatchBool b (A × C × B next) (A × C → ⊥) → MatchBool b (A × C × B next) ((other : Progress) → A × C × B other → ⊥)
end_not A C B next true h = h
end_not A C B next false h = λ other t. h (t.0, t.1)

-- what is known where a line is due
pub place_at : (T : NamedTask) (told : Progress) (due : DueLine) → IsSound T told → told.due ≡ due → IsPlace T told due
place_at T told due h e = subst (IsPlace T told) e h.place

-- the line of an entry that may stand is one that can be read
pub entry_line_of : (T : NamedTask) → IsNamedTask T → (told next : Progress) (line : List ℕ) (place : ℕ) → place ≡ length told.entries → (t : TakesEntry T told line next) → IsEntryLine place told.bound line t.entry
entry_line_of T cost told next line place e t = record {
  is_line = t.is_line ∙ ap (λ i. entry_line i t.entry) (sym e);
  valid = t.may_stand.valid;
  small = small T cost told.bound t.entry t.may_stand;
  cheap = t.may_stand.cheap;
}

-- an entry is read in one way
pub entry_one : (T : NamedTask) → IsNamedTask T → (told next : Progress) (line : List ℕ) (place : ℕ) (e : Kripke × ℕ) → told.bound ≤ 1000 → place ≡ length told.entries → IsEntryLine place told.bound line e → TakesEntry T told line next → (f : TakesEntry T told line next) → f.entry ≡ e
entry_one T cost told next line place e bound same h t f =
    let own = entry_line_of T cost told next line place same f in
    one_entry told.bound place f.entry e bound own.valid h.valid own.small h.small own.cheap h.cheap (sym own.is_line ∙ h.is_line)

pub ok_map : {E : Type 0} (r : Result Audited E) (P Q : Audited → Type 0) → IfOk r P → ((x : Audited) → P x → Q x) → IfOk r Q
ok_map (Ok x) P Q h f = f x h
ok_map (Err e) P Q h f = h
