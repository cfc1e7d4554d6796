use Rattle.std.proofs.Common.{◌∙◌, sym, subst, arith}
use Rattle.std.proofs.lemmas.Option.{none-some}
use Rattle.ep_theory.specs.Product.{product_of}
use Rattle.ep_theory.specs.Bisimulation.{Bisimilar}
use Rattle.ep_theory.proofs.CallerLemmas.{applicability_alike, products_bisimilar}
use Rattle.ep_update.proofs.LabelLemmas.{labels_long, labels_count}
use Rattle.ep_update.proofs.RowLemmas.{are_places}
use Rattle.ep_update.proofs.update.updated.Goals as goal

pub returns-in-Some-clause-bisimilar_err : goal.returns-in-Some-clause-bisimilar_err
returns-in-Some-clause-bisimilar_err c = λ R b fits.
    none-some c.in-Some.world (sym (c.in-Some.ensures.none.1 ((applicability_alike c.args.s.now R c.args.a.now b).1 fits)))

pub find_places-requires-clause-events : goal.find_places-requires-clause-events
find_places-requires-clause-events c =
    omega (arith, labels_count c.args.s.now c.args.a.now c.rows-2.result.now (c.rows-2.ensures ∙ c.requires.labels), c.known.ensures.valid.few_events)

pub find_places-requires-clause-rows : goal.find_places-requires-clause-rows
find_places-requires-clause-rows c = labels_long c.args.s.now c.args.a.now c.worlds.result c.rows-2.result.now c.worlds.ensures.value (c.rows-2.ensures ∙ c.requires.labels)

pub check_size-requires-clause-places : goal.check_size-requires-clause-places
check_size-requires-clause-places c = are_places c.args.s.now c.args.a.now c.worlds.result c.rows-2.result.now c.in_ok-found.found c.worlds.ensures.value (c.rows-2.ensures ∙ c.requires.labels) c.in_ok-found.ensures.places

pub check_size-requires-clause-applicable : goal.check_size-requires-clause-applicable
check_size-requires-clause-applicable c = c.first_stuck.ensures.none.0 c.in_default.is

pub built-requires-clause-places : goal.built-requires-clause-places
built-requires-clause-places c = are_places c.args.s.now c.args.a.now c.worlds.result c.rows-2.result.now c.in_ok-found.found c.worlds.ensures.value (c.rows-2.ensures ∙ c.requires.labels) c.in_ok-found.ensures.places

pub built-requires-clause-applicable : goal.built-requires-clause-applicable
built-requires-clause-applicable c = c.first_stuck.ensures.none.0 c.in_default.is

pub returns-clause-applicable : goal.returns-clause-applicable
returns-clause-applicable c = c.first_stuck.ensures.none.0 c.in_default.is

pub returns-clause-bisimilar : goal.returns-clause-bisimilar
returns-clause-bisimilar c = λ R r b. (
  (applicability_alike c.args.s.now R c.args.a.now b).0 (c.first_stuck.ensures.none.0 c.in_default.is),
  subst (λ T. Bisimilar T (product_of R c.args.a.now)) (sym c.in_ok-built.ensures) (products_bisimilar c.args.s.now R c.args.a.now c.worlds.ensures.valid r c.known.ensures.valid b),
)
