use Rattle.std.proofs.Common.{◌≡◌, ◌∙◌, ap, sym, subst}
use Rattle.ep_logic.specs.Tables.{Table}
use Rattle.ep_theory.specs.Kripke.{IsState}
use Rattle.ep_theory.specs.Product.{product_of}
use Rattle.ep_theory.proofs.CallerLemmas.{product-is_state}
use Rattle.ep_kripke.specs.States.{IsBounded, state_of}
use Rattle.ep_update.proofs.ProductLemmas.{state_is, rows_had, product_bounded}
use Rattle.ep_update.proofs.update.built.Goals as goal

pub from_relations-requires-clause-rows : goal.from_relations-requires-clause-rows
from_relations-requires-clause-rows c = rw (ap (λ (t : Table). t.rows) c.in_ok-truth.ensures, c.in_ok-relations.ensures) (rows_had c.args.s.now c.args.a.now)

state : (c : goal.After-from_relations) → state_of c.agents.result c.atoms.result c.in_ok-truth.truth.value.rows c.in_ok-relations.relations c.in_ok-designated.designated ≡ product_of c.args.s.now c.args.a.now
state c = state_is c.args.s.now c.args.a.now c.agents.result c.atoms.result c.in_ok-truth.truth.value.rows c.in_ok-relations.relations c.in_ok-designated.designated
    c.agents.ensures.value c.atoms.ensures.value (ap (λ (t : Table). t.rows) c.in_ok-truth.ensures) c.in_ok-relations.ensures c.in_ok-designated.ensures

pub from_relations-requires-clause-valid : goal.from_relations-requires-clause-valid
from_relations-requires-clause-valid c = subst IsState (sym (state_is c.args.s.now c.args.a.now c.agents.result c.atoms.result c.in_ok-truth.truth.value.rows c.in_ok-relations.relations c.in_ok-designated.designated
    c.agents.ensures.value c.atoms.ensures.value (ap (λ (t : Table). t.rows) c.in_ok-truth.ensures) c.in_ok-relations.ensures c.in_ok-designated.ensures)) (product-is_state c.args.s.now c.args.a.now c.agents.ensures.valid c.requires.action c.requires.applicable)

pub from_relations-requires-clause-bounded : goal.from_relations-requires-clause-bounded
from_relations-requires-clause-bounded c = subst IsBounded (sym (state_is c.args.s.now c.args.a.now c.agents.result c.atoms.result c.in_ok-truth.truth.value.rows c.in_ok-relations.relations c.in_ok-designated.designated
    c.agents.ensures.value c.atoms.ensures.value (ap (λ (t : Table). t.rows) c.in_ok-truth.ensures) c.in_ok-relations.ensures c.in_ok-designated.ensures)) (product_bounded c.args.s.now c.args.a.now c.agents.ensures.bounded c.requires.worlds c.requires.links)

pub returns : goal.returns
returns c = c.from_relations.ensures ∙ state c
