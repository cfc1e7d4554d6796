use Rattle.std.proofs.Common.{◌≡◌, ◌<◌, ◌∙◌, sym, ap, List, ℕ, [], length, get_or, arith}
use Rattle.std.proofs.lemmas.List.{get_or_default}
use Rattle.ep_theory.specs.Kripke.{Kripke, links_of, successors}
use Rattle.ep_theory.specs.Relations.{all_pairs}
use Rattle.ep_theory.proofs.CallerLemmas.{All-at, get_or-pairs}
use Rattle.ep_kripke.proofs.StateLemmas.{relation_count, successors_are}
use Rattle.ep_kripke.proofs.state.State.relation.Goals as goal

agent : (c : goal.After-index-relations-a) → c.args.a.n < c.self.inside.agents
agent c = omega (arith, ap (λ (k : Kripke). k.agents) c.self.view_is, c.requires.agent)

here : (c : goal.After-index-relations-a) → c.args.a.n < length c.self.inside.relations
here c =
    let s = c.self.inside in
    omega (arith, agent c, relation_count s.agents s.atoms s.truth.value.rows s.relations s.designated c.self.invariant.0.valid c.self.invariant.0.rows)

is : (c : goal.After-index-relations-a) → c.index-relations-a.result ≡ get_or c.self.inside.relations c.args.a.n []
is c = c.index-relations-a.is ∙ ap (λ xs. get_or xs c.args.a.n c.index-relations-a.result) c.as_slice-relations.ensures ∙ get_or_default c.self.inside.relations c.args.a.n c.index-relations-a.result [] (here c)

long : (c : goal.After-index-relations-a) → length c.index-relations-a.result ≡ c.args.self.now.worlds
long c =
    let s = c.self.inside in
    let one : length (get_or s.relations c.args.a.n []) ≡ length s.truth.value.rows = All-at (λ rows. length rows ≡ length s.truth.value.rows) s.relations c.args.a.n [] (here c) c.self.invariant.0.rows in
    ap (length {A = List ℕ}) (is c) ∙ one ∙ ap (λ (k : Kripke). k.worlds) c.self.view_is

pub returns-clause-rows : goal.returns-clause-rows
returns-clause-rows c = long c

pub returns-clause-pairs : goal.returns-clause-pairs
returns-clause-pairs c =
    ap all_pairs (is c) ∙ sym (get_or-pairs c.self.inside.relations c.args.a.n) ∙ ap (λ (k : Kripke). links_of k c.args.a.n) c.self.view_is

pub returns-clause-each : goal.returns-clause-each
returns-clause-each c = λ w l.
    let s = c.self.inside in
    let world : w < length s.truth.value.rows = omega (arith, ap (λ (k : Kripke). k.worlds) c.self.view_is, l) in
    ap (λ (r : List (List ℕ)). get_or r w []) (is c)
    ∙ sym (successors_are s.agents s.atoms s.truth.value.rows s.relations s.designated c.self.invariant.0.valid c.self.invariant.0.rows c.args.a.n w (agent c) world)
    ∙ ap (λ (k : Kripke). successors (links_of k c.args.a.n) w) c.self.view_is
