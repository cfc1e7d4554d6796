use Rattle.std.proofs.Common.{ℕ, ◌<◌, List, length, sum_by, subst, sym}
use Rattle.std.specs.List.{AllByRecursion}
use Rattle.ep_refine.proofs.BackwardLemmas.{rows_fit, links_few, is_shaped, leads_back}
use Rattle.ep_refine.proofs.backward.turned.Goals as goal

pub holders_of-requires-clause-fit : goal.holders_of-requires-clause-fit
holders_of-requires-clause-fit c = rows_fit c.args.s.now c.relation.ensures.valid c.args.a.n c.names.result.0.now c.names.result.1.now c.relation.result.now c.names.ensures.rows c.relation.ensures.rows c.relation.ensures.each

pub holders_of-requires-clause-links : goal.holders_of-requires-clause-links
holders_of-requires-clause-links c =
    let f = links_few c.args.s.now c.relation.ensures.valid c.args.a.n c.relation.result.now c.requires c.relation.ensures.pairs 4294967296 c.relation.ensures.bounded.links in
    subst (λ (r : List (List ℕ)). sum_by length r < 4294967296) (sym c.names.ensures.rows) f

pub users_of-requires-clause-within : goal.users_of-requires-clause-within
users_of-requires-clause-within c = subst (λ n. AllByRecursion (λ i. i < n) c.names.result.0.now) (sym c.len-count.ensures) c.names.ensures.within

pub returns-clause-shaped : goal.returns-clause-shaped
returns-clause-shaped c =
    is_shaped c.args.s.now c.relation.ensures.valid c.args.a.n c.names.result.0.now c.names.result.1.now c.relation.result.now c.names.ensures.rows c.relation.ensures.rows c.relation.ensures.each
    (record { holders = c.in_ok-holders.holders; users = c.in_ok-users.users; count = c.len-count.result }) c.in_ok-holders.ensures c.in_ok-users.ensures c.len-count.ensures c.names.ensures.few

pub returns-clause-back : goal.returns-clause-back
returns-clause-back c =
    leads_back c.args.s.now c.relation.ensures.valid c.args.a.n c.names.result.0.now c.names.result.1.now c.relation.result.now c.names.ensures.rows c.relation.ensures.rows c.relation.ensures.each
    (record { holders = c.in_ok-holders.holders; users = c.in_ok-users.users; count = c.len-count.result }) c.in_ok-holders.ensures c.in_ok-users.ensures c.len-count.ensures
