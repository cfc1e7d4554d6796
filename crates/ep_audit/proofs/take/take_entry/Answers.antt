use Rattle.std.proofs.Common.{◌≡◌, ◌+◌, ℕ, refl, sym, ap, ◌∙◌, subst}
use Rattle.std.specs.Prelude.{◌==◌, if◌then◌else◌}
use Rattle.std.proofs.lemmas.Bool.{false≢true}
use Rattle.ep_theory.specs.Kripke.{Kripke}
use Rattle.ep_theory.specs.Closed.{MayStand}
use Rattle.ep_audit.specs.Lines.{entry_line}
use Rattle.ep_audit.specs.declared.progress.DueLine.TheVariants.{Start, Entry}
use Rattle.ep_audit.proofs.VerdictLemmas.{entry_line_of, entry_one}
use Rattle.ep_audit.proofs.take.take_entry.Goals as goal

pub returns-in_default : goal.returns-in_default
returns-in_default c = λ next t.
    let never = rw c.in_default.is at c.in_ok-state.ensures in
    never t.entry (entry_line_of c.args.task.now c.known.ensures c.args.told.now next c.args.line.now c.place_of-place.result c.place_of-place.ensures t)

pub returns-then-not-is_first_right : goal.returns-then-not-is_first_right
returns-then-not-is_first_right c = λ next t.
    let e : Kripke × ℕ = (c.in-Some.state, c.in-Some.weight) in
    let h = rw c.in-Some.is at c.in_ok-state.ensures in
    let eq = c.place_of-place.ensures in
    let same = entry_one c.args.task.now c.known.ensures c.args.told.now next c.args.line.now c.place_of-place.result e c.requires.told.bound eq h t t in
    let w : t.entry.1 ≡ c.in-Some.weight = ap (λ (x : Kripke × ℕ). x.1) same in
    false≢true (c.if-not-is_first_right.ensures.1 (λ z. sym w ∙ t.first (sym eq ∙ z)))

pub returns-then-not-branch : goal.returns-then-not-branch
returns-then-not-branch c = λ next t.
    let e : Kripke × ℕ = (c.in-Some.state, c.in-Some.weight) in
    let h = rw c.in-Some.is at c.in_ok-state.ensures in
    let same = entry_one c.args.task.now c.known.ensures c.args.told.now next c.args.line.now c.place_of-place.result e c.requires.told.bound c.place_of-place.ensures h t t in
    let stand : MayStand c.args.task.now.problem c.args.told.now.bound e = subst (MayStand c.args.task.now.problem c.args.told.now.bound) same t.may_stand in
    let yes = (c.in_ok-may_stand.ensures c.args.told.now.bound c.in-Some.weight h.cheap).1 stand in
    let no = c.if-not-branch.true in
    cc

pub returns : goal.returns
returns c =
    let e : Kripke × ℕ = (c.in-Some.state, c.in-Some.weight) in
    let h = rw c.in-Some.is at c.in_ok-state.ensures in
    let eq = c.place_of-place.ensures in
    record {
      entry = e;
      is_line = h.is_line ∙ ap (λ i. entry_line i e) eq;
      may_stand = (c.in_ok-may_stand.ensures c.args.told.now.bound c.in-Some.weight h.cheap).0 c.if-not-branch.false;
      first = λ z. (c.if-not-is_first_right.ensures.0 refl) (eq ∙ z);
      after = (λ i. record { bound = c.args.told.now.bound; count = c.args.told.now.count; entries = c.in_ok-push.ensures.ok i; due = (c.due_after-told.ensures ∙ ap (λ n. if n + 1 == c.args.told.now.count then Start else Entry) eq) i });
    }
