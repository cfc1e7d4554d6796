use Rattle.std.proofs.Common.{◌≡◌, ◌<◌, ◌↔◌, List, ℕ, true, replicate, length, slice_index, sym, ap, subst, ◌∙◌}
use Rattle.ep_theory.specs.Bisimulation.{BisimilarWorlds}
use Rattle.ep_theory.specs.Image.{IsImage}
use Rattle.ep_logic.specs.Rows.{value_at}
use Rattle.ep_refine.specs.Numbering.{AreNumbers}
use Rattle.ep_apart.specs.Classes.{StandFor}
use Rattle.ep_apart.proofs.ClassLemmas.{quotient_choice, quotient_image}
use Rattle.ep_apart.proofs.Results.{if_ok}
use Rattle.ep_apart.proofs.quotient.quotient.Goals as goal

pub one_of_each-requires-clause-used : goal.one_of_each-requires-clause-used
one_of_each-requires-clause-used c = subst (λ (l : List ℕ). AreNumbers l c.count.result) (sym c.as_slice.ensures) c.count.ensures.numbers

pub image-requires-clause-choice : goal.image-requires-clause-choice
image-requires-clause-choice c = quotient_choice c.args.s.now c.worlds.ensures.valid c.as_slice-2.result.now c.deref.result.now c.count.result c.in_ok-keep.keep
    (ap length c.as_slice-2.ensures ∙ c.requires.one_each)
    (subst (λ (l : List ℕ). (w v : ℕ) → w < c.args.s.now.worlds → v < c.args.s.now.worlds → (slice_index l w ≡ slice_index l v) ↔ BisimilarWorlds c.args.s.now w c.args.s.now v) (sym c.as_slice-2.ensures) c.requires.bisimilar)
    (subst (λ (l : List ℕ). AreNumbers l c.count.result) (sym c.as_slice-2.ensures) c.count.ensures.numbers)
    (ap length c.deref.ensures.value ∙ c.in_ok-chosen.ensures.long)
    (λ k b. subst (λ (l : List ℕ). StandFor c.as_slice-2.result.now l k) (sym c.deref.ensures.value)
    (subst (λ (l : List ℕ). StandFor l c.in_ok-chosen.chosen.items k) (c.as_slice.ensures ∙ sym c.as_slice-2.ensures) (c.in_ok-chosen.ensures.each k b)))
    (c.in_ok-keep.ensures ∙ ap (λ n. replicate n true) c.worlds.ensures.value)

pub returns-clause-image : goal.returns-clause-image
returns-clause-image c = if_ok c.image.result (IsImage c.args.s.now (value_at c.in_ok-keep.keep) (slice_index c.as_slice-2.result.now)) (IsImage c.args.s.now (λ _. true) (slice_index c.args.classes.now))
    (λ q m. subst (λ (l : List ℕ). IsImage c.args.s.now (λ _. true) (slice_index l) q) c.as_slice-2.ensures
    (quotient_image c.args.s.now c.worlds.ensures.valid c.as_slice-2.result.now c.deref.result.now c.count.result c.in_ok-keep.keep
    (ap length c.as_slice-2.ensures ∙ c.requires.one_each)
    (subst (λ (l : List ℕ). (w v : ℕ) → w < c.args.s.now.worlds → v < c.args.s.now.worlds → (slice_index l w ≡ slice_index l v) ↔ BisimilarWorlds c.args.s.now w c.args.s.now v) (sym c.as_slice-2.ensures) c.requires.bisimilar)
    (subst (λ (l : List ℕ). AreNumbers l c.count.result) (sym c.as_slice-2.ensures) c.count.ensures.numbers)
    (ap length c.deref.ensures.value ∙ c.in_ok-chosen.ensures.long)
    (λ k b. subst (λ (l : List ℕ). StandFor c.as_slice-2.result.now l k) (sym c.deref.ensures.value)
    (subst (λ (l : List ℕ). StandFor l c.in_ok-chosen.chosen.items k) (c.as_slice.ensures ∙ sym c.as_slice-2.ensures) (c.in_ok-chosen.ensures.each k b)))
    (c.in_ok-keep.ensures ∙ ap (λ n. replicate n true) c.worlds.ensures.value) q m)) c.image.ensures.image
