use Rattle.std.proofs.Common.{◌≡◌, ◌+◌, length, get_or, subst, sym, ap, ◌∙◌, arith}
use Rattle.ep_logic.specs.Nodes.{node_count}
use Rattle.ep_truth.specs.FormulaTables.{StayFit}
use Rattle.ep_truth.proofs.FormulaTableLemmas.{IsNumbering, numbering_room, numbering_more, numbering_all, count-parts, stay_after, stay-Not, stay-And, stay-Or, stay-Knows, stay-Common}
use Rattle.ep_truth.proofs.formula_table.FormulaTable.+entries.Goals as goal

pub numbers_of-returns-in_err-push-clause-few : goal.numbers_of-returns-in_err-push-clause-few
numbers_of-returns-in_err-push-clause-few t c =
    let fs = c.args.parts.now in
    let i = c.loop-part.part-index in
    let d = c.part-item.result in
    let part : d ≡ get_or fs i d = c.part-item.is ∙ ap (λ xs. get_or xs i d) c.as_slice-part-items.ensures in
    omega (
      arith,
      c.in_ok-entry.ensures.few,
      c.in_ok-n.ensures.few,
      ap node_count part,
      numbering_room c.args.self.now fs i d c.loop-part.self c.loop-part.numbers (omega (arith, ap length c.as_slice-part-items.ensures, c.loop-part-test.true)) c.loop-part.invariant,
    )

pub numbers_of-loop-part-preserved : goal.numbers_of-loop-part-preserved
numbers_of-loop-part-preserved t c =
    let old = c.args.self.now in
    let fs = c.args.parts.now in
    let i = c.loop-part.part-index in
    let d = c.part-item.result in
    let n = c.in_ok-n.n in
    let mid = c.entry_of.new.self in
    let new = c.number_of.new.self in
    let part : d ≡ get_or fs i d = c.part-item.is ∙ ap (λ xs. get_or xs i d) c.as_slice-part-items.ensures in
    subst (IsNumbering old fs (i + 1) new) (sym c.in_ok-push.ensures.ok)
    (numbering_more old fs i d c.loop-part.self c.loop-part.numbers (omega (arith, ap length c.as_slice-part-items.ensures, c.loop-part-test.true)) c.loop-part.invariant
    mid new n c.in_ok-entry.ensures.earlier c.in_ok-n.ensures.earlier
    (omega (arith, c.in_ok-entry.ensures.few, c.in_ok-n.ensures.few, ap node_count part))
    c.in_ok-n.ensures.number (c.in_ok-n.ensures.tree ∙ c.in_ok-entry.ensures.entry.tree ∙ part)
    (subst (λ f. StayFit c.loop-part.self f mid) part c.in_ok-entry.ensures.fit)
    (subst (λ f. StayFit mid f new) (c.in_ok-entry.ensures.entry.tree ∙ part) c.in_ok-n.ensures.fit))

pub entry_of-returns-in_ok-n-in-Not-clause-fit : goal.entry_of-returns-in_ok-n-in-Not-clause-fit
entry_of-returns-in_ok-n-in-Not-clause-fit t c =
    let old = c.args.self.now in
    let mid = c.entry_of.new.self in
    let new = c.number_of.new.self in
    let f = c.in-Not.inner in
    let first : StayFit old f mid = subst (λ x. StayFit old x mid) c.get.ensures c.in_ok-entry-in-Not.ensures.fit in
    let second : StayFit mid f new = subst (λ x. StayFit mid x new) (c.in_ok-entry-in-Not.ensures.entry.tree ∙ c.get.ensures) c.in_ok-n-in-Not.ensures.fit in
    subst (λ x. StayFit old x new) (sym c.in-Not.is) (stay-Not old new f (stay_after old mid new f first second))

pub entry_of-returns-in_ok-n-in-Knows-clause-fit : goal.entry_of-returns-in_ok-n-in-Knows-clause-fit
entry_of-returns-in_ok-n-in-Knows-clause-fit t c =
    let old = c.args.self.now in
    let mid = c.entry_of-in-Knows.new.self in
    let new = c.number_of-in-Knows.new.self in
    let f = c.in-Knows.inner in
    let first : StayFit old f mid = subst (λ x. StayFit old x mid) c.get-in-Knows.ensures c.in_ok-entry-in-Knows.ensures.fit in
    let second : StayFit mid f new = subst (λ x. StayFit mid x new) (c.in_ok-entry-in-Knows.ensures.entry.tree ∙ c.get-in-Knows.ensures) c.in_ok-n-in-Knows.ensures.fit in
    subst (λ x. StayFit old x new) (sym c.in-Knows.is) (stay-Knows old new c.in-Knows.a f (stay_after old mid new f first second))

pub entry_of-returns-in_ok-n-in-Common-clause-fit : goal.entry_of-returns-in_ok-n-in-Common-clause-fit
entry_of-returns-in_ok-n-in-Common-clause-fit t c =
    let old = c.args.self.now in
    let mid = c.entry_of-in-Common.new.self in
    let new = c.number_of-in-Common.new.self in
    let f = c.in-Common.inner in
    let first : StayFit old f mid = subst (λ x. StayFit old x mid) c.get-in-Common.ensures c.in_ok-entry-in-Common.ensures.fit in
    let second : StayFit mid f new = subst (λ x. StayFit mid x new) (c.in_ok-entry-in-Common.ensures.entry.tree ∙ c.get-in-Common.ensures) c.in_ok-n-in-Common.ensures.fit in
    subst (λ x. StayFit old x new) (sym c.in-Common.is) (stay-Common old new c.in-Common.group f (stay_after old mid new f first second))

pub entry_of-returns-in_ok-numbers-in-And-clause-fit : goal.entry_of-returns-in_ok-numbers-in-And-clause-fit
entry_of-returns-in_ok-numbers-in-And-clause-fit t c =
    let old = c.args.self.now in
    let new = c.numbers_of.new.self in
    subst (λ x. StayFit old x new) (sym c.in-And.is) (stay-And old new c.in-And.parts c.in_ok-numbers-in-And.ensures.fit)

pub entry_of-returns-in_ok-numbers-in-And-clause-few : goal.entry_of-returns-in_ok-numbers-in-And-clause-few
entry_of-returns-in_ok-numbers-in-And-clause-few t c =
    omega (arith, c.in_ok-numbers-in-And.ensures.few, ap node_count c.in-And.is, (count-parts c.in-And.parts).0)

pub entry_of-returns-in_ok-numbers-in-Or-clause-fit : goal.entry_of-returns-in_ok-numbers-in-Or-clause-fit
entry_of-returns-in_ok-numbers-in-Or-clause-fit t c =
    let old = c.args.self.now in
    let new = c.numbers_of-in-Or.new.self in
    subst (λ x. StayFit old x new) (sym c.in-Or.is) (stay-Or old new c.in-Or.parts c.in_ok-numbers-in-Or.ensures.fit)

pub entry_of-returns-in_ok-numbers-in-Or-clause-few : goal.entry_of-returns-in_ok-numbers-in-Or-clause-few
entry_of-returns-in_ok-numbers-in-Or-clause-few t c =
    omega (arith, c.in_ok-numbers-in-Or.ensures.few, ap node_count c.in-Or.is, (count-parts c.in-Or.parts).1)

pub numbers_of-returns-clause-fit : goal.numbers_of-returns-clause-fit
numbers_of-returns-clause-fit t c =
    numbering_all c.args.self.now c.args.parts.now c.loop-part.self c.loop-part.part-index c.loop-part.numbers
    (omega (arith, ap length c.as_slice-part-items.ensures, c.loop-part-test.false, c.loop-part.auto.part-index-end)) c.loop-part.invariant
