use Rattle.std.proofs.Common.{◌≡◌, ℕ, [], ◌∷◌, ◌++◌, List, ap, sym, ◌∙◌, arith}
use Rattle.ep_logic.specs.Numbers.{table}
use Rattle.ep_universe.specs.Links.{agent_count}
use Rattle.ep_initial.specs.Seeing.{alike_rows, seen}
use Rattle.ep_initial.proofs.SeeingLemmas.{table-more}
use Rattle.ep_initial.proofs.seeing.relations.Goals as goal

pub loop-n-preserved : goal.loop-n-preserved
loop-n-preserved c =
    let f : ℕ → List (List ℕ) = λ a. alike_rows c.args.rows.now (seen c.args.universe.now.names c.args.sees.now a) in
    let row : c.in_ok-find_alike_rows.field-0 ≡ f c.loop-n.n = c.in_ok-find_alike_rows.ensures ∙ ap (alike_rows c.args.rows.now) (c.as_slice.ensures ∙ c.in_ok-atoms.ensures) in
    c.in_ok-push.ensures.ok ∙ (λ i. c.loop-n.invariant i ++ row i ∷ []) ∙ sym (table-more f c.loop-n.n)

pub returns : goal.returns
returns c =
    let d = c.args.universe.now.names in
    let f : ℕ → List (List ℕ) = λ a. alike_rows c.args.rows.now (seen d c.args.sees.now a) in
    let end : c.loop-n.n ≡ agent_count d = omega (arith, c.agents-agents.ensures.value) in
    c.loop-n.invariant ∙ ap (table f) end
