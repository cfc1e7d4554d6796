use Rattle.std.proofs.Common.{◌≡◌, ◌++◌, sym, ap, ◌∙◌}
use Rattle.ep_audit.specs.Lines.{entry_head}
use Rattle.ep_audit.proofs.AnswerLemmas.{entry_headless, entry_uncut, entry_is, entry_whole}
use Rattle.ep_audit.proofs.entry.read_entry.Goals as goal

pub returns-in_default : goal.returns-in_default
returns-in_default c = λ e h.
    let head : c.as_bytes.result.now ≡ entry_head c.args.place = c.as_bytes.ensures.value ∙ c.in_ok-head.ensures.ok in
    entry_headless c.args.place c.args.bound c.args.line.now e (λ rest k. c.in_default.ensures rest (k ∙ ap (λ x. x ++ rest) (sym head))) h

pub returns-in_default-cut_at : goal.returns-in_default-cut_at
returns-in_default-cut_at c = λ e h.
    let head : c.as_bytes.result.now ≡ entry_head c.args.place = c.as_bytes.ensures.value ∙ c.in_ok-head.ensures.ok in
    entry_uncut c.args.place c.args.bound c.args.line.now c.in-Some.rest.now e (c.in-Some.ensures ∙ ap (λ x. x ++ c.in-Some.rest.now) head) c.in_default-cut_at.ensures h

pub returns-in_default-number : goal.returns-in_default-number
returns-in_default-number c = λ e h.
    let head : c.as_bytes.result.now ≡ entry_head c.args.place = c.as_bytes.ensures.value ∙ c.in_ok-head.ensures.ok in
    let parts = entry_is c.args.place c.args.bound c.args.line.now c.in-Some.rest.now c.in-Some-cut_at.digits.now c.in-Some-cut_at.text.now e c.requires (c.in-Some.ensures ∙ ap (λ x. x ++ c.in-Some.rest.now) head) c.in-Some-cut_at.ensures.0 c.in-Some-cut_at.ensures.1 h in
    c.in_default-number.ensures e.1 h.cheap parts.0

pub returns-in_default-2 : goal.returns-in_default-2
returns-in_default-2 c = λ e h.
    let head : c.as_bytes.result.now ≡ entry_head c.args.place = c.as_bytes.ensures.value ∙ c.in_ok-head.ensures.ok in
    let parts = entry_is c.args.place c.args.bound c.args.line.now c.in-Some.rest.now c.in-Some-cut_at.digits.now c.in-Some-cut_at.text.now e c.requires (c.in-Some.ensures ∙ ap (λ x. x ++ c.in-Some.rest.now) head) c.in-Some-cut_at.ensures.0 c.in-Some-cut_at.ensures.1 h in
    let never = rw c.in_default-2.is at c.in_ok-state.ensures in
    never e.0 h.valid h.small parts.1

pub returns : goal.returns
returns c =
    let head : c.as_bytes.result.now ≡ entry_head c.args.place = c.as_bytes.ensures.value ∙ c.in_ok-head.ensures.ok in
    let told = rw c.in-Some-2.is at c.in_ok-state.ensures in
    entry_whole c.args.place c.args.bound c.in-Some-number.weight c.args.line.now c.in-Some.rest.now c.in-Some-cut_at.digits.now c.in-Some-cut_at.text.now c.in-Some-2.state (c.in-Some.ensures ∙ ap (λ x. x ++ c.in-Some.rest.now) head) c.in-Some-cut_at.ensures.0 c.in-Some-number.ensures.0 c.in-Some-number.ensures.1 told.0 told.1 told.2
