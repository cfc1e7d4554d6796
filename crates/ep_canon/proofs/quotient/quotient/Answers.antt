use Rattle.std.proofs.Common.{List, ℕ, true, replicate, length, slice_index, sym, ap, subst, ◌∙◌}
use Rattle.ep_theory.specs.Kripke.{IsState}
use Rattle.ep_theory.specs.Canonical.{Contracts}
use Rattle.ep_theory.specs.Image.{IsImage}
use Rattle.ep_theory.specs.Ranks.{RanksAt}
use Rattle.ep_logic.specs.Rows.{value_at}
use Rattle.ep_refine.specs.Numbering.{AreNumbers}
use Rattle.ep_canon.specs.Quotient.{StandFor}
use Rattle.ep_canon.proofs.QuotientLemmas.{quotient_choice, quotient_image, quotient_contracts, both_ok, mapped_ok}
use Rattle.ep_canon.proofs.quotient.quotient.Goals as goal

pub one_of_each-requires-clause-used : goal.one_of_each-requires-clause-used
one_of_each-requires-clause-used c = subst (λ (l : List ℕ). AreNumbers l c.count.result) (sym c.as_slice.ensures) c.count.ensures.numbers

pub image-requires-clause-choice : goal.image-requires-clause-choice
image-requires-clause-choice c = quotient_choice c.args.s.now c.worlds.ensures.valid c.as_slice-2.result.now c.deref.result.now c.count.result c.in_ok-keep.keep
    (ap length c.as_slice-2.ensures ∙ c.requires.one_each)
    (subst (λ (l : List ℕ). RanksAt c.args.s.now c.args.s.now.worlds (slice_index l)) (sym c.as_slice-2.ensures) c.requires.ordered)
    (subst (λ (l : List ℕ). AreNumbers l c.count.result) (sym c.as_slice-2.ensures) c.count.ensures.numbers)
    (ap length c.deref.ensures.value ∙ c.in_ok-chosen.ensures.long)
    (λ k b. subst (λ (l : List ℕ). StandFor c.as_slice-2.result.now l k) (sym c.deref.ensures.value)
    (subst (λ (l : List ℕ). StandFor l c.in_ok-chosen.chosen.items k) (c.as_slice.ensures ∙ sym c.as_slice-2.ensures) (c.in_ok-chosen.ensures.each k b)))
    (c.in_ok-keep.ensures ∙ ap (λ n. replicate n true) c.worlds.ensures.value)

pub returns-clause-contraction : goal.returns-clause-contraction
returns-clause-contraction c = both_ok c.image.result IsState (IsImage c.args.s.now (value_at c.in_ok-keep.keep) (slice_index c.as_slice-2.result.now)) (Contracts c.args.s.now)
    (λ q v m. quotient_contracts c.args.s.now c.worlds.ensures.valid c.as_slice-2.result.now c.deref.result.now c.count.result c.in_ok-keep.keep
    (ap length c.as_slice-2.ensures ∙ c.requires.one_each)
    (subst (λ (l : List ℕ). RanksAt c.args.s.now c.args.s.now.worlds (slice_index l)) (sym c.as_slice-2.ensures) c.requires.ordered)
    (subst (λ (l : List ℕ). AreNumbers l c.count.result) (sym c.as_slice-2.ensures) c.count.ensures.numbers)
    (ap length c.deref.ensures.value ∙ c.in_ok-chosen.ensures.long)
    (λ k b. subst (λ (l : List ℕ). StandFor c.as_slice-2.result.now l k) (sym c.deref.ensures.value)
    (subst (λ (l : List ℕ). StandFor l c.in_ok-chosen.chosen.items k) (c.as_slice.ensures ∙ sym c.as_slice-2.ensures) (c.in_ok-chosen.ensures.each k b)))
    (c.in_ok-keep.ensures ∙ ap (λ n. replicate n true) c.worlds.ensures.value)
    q v c.requires.reached m) c.image.ensures.valid c.image.ensures.image

pub returns-clause-image : goal.returns-clause-image
returns-clause-image c = mapped_ok c.image.result (IsImage c.args.s.now (value_at c.in_ok-keep.keep) (slice_index c.as_slice-2.result.now)) (IsImage c.args.s.now (λ _. true) (slice_index c.args.classes.now))
    (λ q m. subst (λ (l : List ℕ). IsImage c.args.s.now (λ _. true) (slice_index l) q) c.as_slice-2.ensures
    (quotient_image c.args.s.now c.worlds.ensures.valid c.as_slice-2.result.now c.deref.result.now c.count.result c.in_ok-keep.keep
    (ap length c.as_slice-2.ensures ∙ c.requires.one_each)
    (subst (λ (l : List ℕ). RanksAt c.args.s.now c.args.s.now.worlds (slice_index l)) (sym c.as_slice-2.ensures) c.requires.ordered)
    (subst (λ (l : List ℕ). AreNumbers l c.count.result) (sym c.as_slice-2.ensures) c.count.ensures.numbers)
    (ap length c.deref.ensures.value ∙ c.in_ok-chosen.ensures.long)
    (λ k b. subst (λ (l : List ℕ). StandFor c.as_slice-2.result.now l k) (sym c.deref.ensures.value)
    (subst (λ (l : List ℕ). StandFor l c.in_ok-chosen.chosen.items k) (c.as_slice.ensures ∙ sym c.as_slice-2.ensures) (c.in_ok-chosen.ensures.each k b)))
    (c.in_ok-keep.ensures ∙ ap (λ n. replicate n true) c.worlds.ensures.value)
    q m)) c.image.ensures.image
