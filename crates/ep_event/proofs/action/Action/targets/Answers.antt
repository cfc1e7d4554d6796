use Rattle.std.proofs.Common.{◌≡◌, ◌<◌, ◌∙◌, ap, sym, [], List, ℕ, length, get_or, arith}
use Rattle.std.proofs.lemmas.List.{get_or_default, length-map}
use Rattle.ep_theory.specs.Events.{EventModel, event_links}
use Rattle.ep_theory.specs.Kripke.{successors}
use Rattle.ep_event.specs.Built.{event_of}
use Rattle.ep_theory.specs.Relations.{all_pairs}
use Rattle.ep_event.proofs.MarkLemmas.{at_place}
use Rattle.ep_event.proofs.RowLemmas.{targets_at}
use Rattle.ep_event.proofs.action.Action.targets.Goals as goal

pub returns-clause-value : goal.returns-clause-value
returns-clause-value c =
    let s = c.self.inside in
    let a = c.args.a.n in
    let e = c.args.e.n in
    let agent : c.args.a.n < length c.self.inside.relations = omega (arith, c.requires.agent, ap (λ (m : EventModel). length m.links) c.self.view_is, length-map c.self.inside.relations all_pairs) in
    let event : c.args.e.n < length c.self.inside.events = omega (arith, c.requires.event, ap (λ (m : EventModel). length m.events) c.self.view_is, length-map c.self.inside.events event_of) in
    let rows : c.index-as_slice-a.result ≡ get_or c.self.inside.relations c.args.a.n [] =
    c.index-as_slice-a.is ∙ ap (λ r. get_or r a c.index-as_slice-a.result) c.as_slice.ensures ∙ get_or_default s.relations a c.index-as_slice-a.result [] agent in
    let long = at_place (λ (r : List (List ℕ)). length r ≡ length s.events) s.relations a [] agent c.self.invariant.rows in
    let row : c.index-as_slice-e.result ≡ get_or (get_or c.self.inside.relations c.args.a.n []) c.args.e.n [] =
    c.index-as_slice-e.is ∙ ap (λ r. get_or r e c.index-as_slice-e.result) (c.as_slice-2.ensures ∙ rows) ∙ get_or_default (get_or s.relations a []) e c.index-as_slice-e.result [] (omega (arith, event, long)) in
    c.as_slice-3.ensures ∙ row ∙ sym (targets_at s.events s.relations s.designated c.self.invariant a e agent event) ∙ ap (λ (m : EventModel). successors (event_links m a) e) c.self.view_is
