use Rattle.std.proofs.Common.{ap, ◌∙◌}
use Rattle.ep_theory.specs.Kripke.{Kripke}
use Rattle.ep_dynamic.proofs.AheadLemmas.{openings_rise, openings_within, fits_moved, labels_moved}
use Rattle.ep_dynamic.proofs.truths.product_ahead.Goals as goal

pub designating-open-requires-clause-rising : goal.designating-open-requires-clause-rising
designating-open-requires-clause-rising g c = openings_rise c.args.s.now c.args.a.now c.in_ok-worlds.worlds c.in_ok-worlds.ensures

pub designating-open-requires-clause-within : goal.designating-open-requires-clause-within
designating-open-requires-clause-within g c = openings_within c.args.s.now c.in_ok-copy.field-0 c.args.a.now c.in_ok-worlds.worlds c.in_ok-copy.ensures c.in_ok-worlds.ensures

pub product_labelled-requires-clause-fits : goal.product_labelled-requires-clause-fits
product_labelled-requires-clause-fits g c = fits_moved c.args.s.now c.designating-open.result c.args.a.now
    (ap (λ (S : Kripke). S.agents) c.designating-open.ensures ∙ ap (λ (S : Kripke). S.agents) c.in_ok-copy.ensures)
    (ap (λ (S : Kripke). S.atoms) c.designating-open.ensures ∙ ap (λ (S : Kripke). S.atoms) c.in_ok-copy.ensures) c.requires.fits

pub product_labelled-requires-clause-labels : goal.product_labelled-requires-clause-labels
product_labelled-requires-clause-labels g c = labels_moved c.args.s.now c.in_ok-copy.field-0 c.designating-open.result c.in_ok-worlds.worlds c.args.a.now c.args.l.now c.in_ok-copy.ensures c.designating-open.ensures c.requires.labels
