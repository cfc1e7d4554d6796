use Rattle.std.proofs.Common.{◌+◌, ◌-◌, List, ◌∷◌, ℕ, length, refl, sym, ap, ◌∙◌, subst, arith}
use Rattle.std.proofs.lemmas.Bool.{false≢true}
use Rattle.std.proofs.lemmas.List.{length-append}
use Rattle.ep_theory.specs.Kripke.{Kripke}
use Rattle.ep_audit.specs.Certificates.{Keeps, start}
use Rattle.ep_audit.specs.declared.progress.DueLine.TheVariants.{Version}
use Rattle.ep_audit.proofs.ProgressLemmas.{keeps_told}
use Rattle.ep_audit.proofs.VerdictLemmas.{whole, wrong_uncut, wrong_line, next_keeps, behind_last}
use Rattle.ep_audit.proofs.verdict.judge.Goals as goal

pub lines-init : goal.lines-init
lines-init c = record {
  keeps = subst (λ (es : List (Kripke × ℕ)). Keeps c.args.task.now c.args.bytes.now 0 (record { bound = 0; count = 0; entries = es; due = Version }) c.args.bytes.now) (sym c.new.ensures) start;
  counted = omega arith;
  long = omega arith;
  last = λ e. cc;
}

pub take-requires : goal.take-requires
take-requires c = keeps_told c.args.task.now c.args.bytes.now (c.lines.line - 1) c.lines.told c.lines.rest.now c.lines.invariant.keeps

pub returns-then-is_done : goal.returns-then-is_done
returns-then-is_done c = whole c.args.task.now c.args.bytes.now (c.lines.line - 1) c.lines.told c.lines.rest.now c.lines.invariant.keeps (c.if-is_done.ensures.0 refl) c.lines.invariant.last

pub returns-in_default : goal.returns-in_default
returns-in_default c =
    let counted = c.lines.invariant.counted in
    wrong_uncut c.args.task.now c.args.bytes.now (c.lines.line - 1) c.lines.line c.lines.told c.lines.rest.now c.lines.invariant.keeps (λ e. false≢true (c.if-is_done.ensures.1 e)) c.in_default.ensures (omega (arith, counted))

pub returns-then-not-branch : goal.returns-then-not-branch
returns-then-not-branch c =
    let counted = c.lines.invariant.counted in
    let never = rw c.if-not-branch.true at c.in_ok-take.ensures in
    wrong_line c.args.task.now c.args.bytes.now (c.lines.line - 1) c.lines.line c.lines.told c.lines.rest.now c.in-Some.text.now c.in-Some.behind.now c.lines.invariant.keeps (λ e. false≢true (c.if-is_done.ensures.1 e))
    c.in-Some.ensures.0 c.in-Some.ensures.1 never (omega (arith, counted))

pub overflow_add-line : goal.overflow_add-line
overflow_add-line c =
    let parts = ap length c.in-Some.ensures.0 ∙ length-append c.in-Some.text.now (10 ∷ c.in-Some.behind.now) in
    omega (arith, parts, c.lines.invariant.long, c.requires)

pub lines-smaller : goal.lines-smaller
lines-smaller c =
    let parts = ap length c.in-Some.ensures.0 ∙ length-append c.in-Some.text.now (10 ∷ c.in-Some.behind.now) in
    omega (arith, parts)

pub lines-preserved : goal.lines-preserved
lines-preserved c =
    let counted = c.lines.invariant.counted in
    let long = c.lines.invariant.long in
    let takes = rw c.if-not-branch.false at c.in_ok-take.ensures in
    let parts = ap length c.in-Some.ensures.0 ∙ length-append c.in-Some.text.now (10 ∷ c.in-Some.behind.now) in
    record {
      keeps = next_keeps c.args.task.now c.args.bytes.now (c.lines.line - 1) (c.lines.line + 1 - 1) c.lines.told c.take.new.told c.lines.rest.now c.in-Some.text.now c.in-Some.behind.now c.lines.invariant.keeps c.in-Some.ensures.0 c.in-Some.ensures.1 takes (omega (arith, counted));
      counted = omega (arith, counted);
      long = omega (arith, parts, long);
      last = behind_last c.args.task.now c.lines.told c.take.new.told c.in-Some.text.now c.in-Some.behind.now takes;
    }
