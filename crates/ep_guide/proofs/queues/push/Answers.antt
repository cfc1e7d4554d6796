use Rattle.std.proofs.Common.{◌≡◌, ◌≢◌, [], ◌∷◌, ◌++◌, None, sym, ◌∙◌, ap, subst, rules}
use Rattle.std.specs.Ordering.{nat_cmp}
use Rattle.std.specs.Map.{lookup, set_value}
use Rattle.std.specs.BTreeMap.{is_at, insert_entry}
use Rattle.ep_guide.specs.Waitings.{waiting_in, AllInUse}
use Rattle.ep_guide.proofs.WaitingLemmas.{waiting_in-set, waiting_in-insert, waiting_in-same, in_use-set, in_use-insert, in_use_found, not_empty, always_on_err}
use Rattle.ep_guide.proofs.queues.push.Goals as goal

pub returns-in_err-map_err-clause-err : goal.returns-in_err-map_err-clause-err
returns-in_err-map_err-clause-err c =
    let es = c.args.queues.now.entries in
    let new = c.get_mut.follows.lender c.push_back.new.self in
    let set : new.entries ≡ set_value (is_at (nat_cmp c.args.score)) es c.push_back.new.self = (c.get_mut.follows.holds c.push_back.new.self).0 in
    let same : c.push_back.new.self.items ≡ c.in-Some.queue.now.items = search rules in
    always_on_err c.from_residual.result (ap waiting_in set ∙ waiting_in-same c.args.score c.push_back.new.self c.in-Some.queue.now es (sym c.in-Some.ensures.value) same)

pub returns-in_err-map_err-clause-in_use : goal.returns-in_err-map_err-clause-in_use
returns-in_err-map_err-clause-in_use c =
    let es = c.args.queues.now.entries in
    let q = c.push_back.new.self in
    let new = c.get_mut.follows.lender q in
    let set : new.entries ≡ set_value (is_at (nat_cmp c.args.score)) es q = (c.get_mut.follows.holds q).0 in
    let same : q.items ≡ c.in-Some.queue.now.items = search rules in
    let some : q.items ≢ [] = λ e. in_use_found c.args.score c.in-Some.queue.now es (sym c.in-Some.ensures.value) c.requires (sym same ∙ e) in
    subst AllInUse (sym set) (in_use-set c.args.score q es some c.requires)

pub returns-in-Some-clause-ok : goal.returns-in-Some-clause-ok
returns-in-Some-clause-ok c =
    let es = c.args.queues.now.entries in
    let new = c.get_mut.follows.lender c.push_back.new.self in
    let set : new.entries ≡ set_value (is_at (nat_cmp c.args.score)) es c.push_back.new.self = (c.get_mut.follows.holds c.push_back.new.self).0 in
    let more : c.push_back.new.self.items ≡ c.in-Some.queue.now.items ++ c.args.id ∷ [] = search rules in
    ap waiting_in set ∙ waiting_in-set c.args.score c.args.id c.push_back.new.self c.in-Some.queue.now es c.get_mut.ensures.ordered (sym c.in-Some.ensures.value) more

pub returns-in-Some-clause-in_use : goal.returns-in-Some-clause-in_use
returns-in-Some-clause-in_use c =
    let es = c.args.queues.now.entries in
    let q = c.push_back.new.self in
    let new = c.get_mut.follows.lender q in
    let set : new.entries ≡ set_value (is_at (nat_cmp c.args.score)) es q = (c.get_mut.follows.holds q).0 in
    let more : q.items ≡ c.in-Some.queue.now.items ++ c.args.id ∷ [] = search rules in
    let some : q.items ≢ [] = λ e. not_empty c.in-Some.queue.now.items c.args.id (sym more ∙ e) in
    subst AllInUse (sym set) (in_use-set c.args.score q es some c.requires)

pub returns-clause-ok : goal.returns-clause-ok
returns-clause-ok c =
    let es = c.args.queues.now.entries in
    let q = c.push_back-2.new.self in
    let one : q.items ≡ c.args.id ∷ [] = search rules in
    let none : lookup (is_at (nat_cmp c.args.score)) es ≡ None = search rules in
    let new : c.insert.new.self.entries ≡ insert_entry nat_cmp es c.args.score q = search rules in
    ap waiting_in new ∙ waiting_in-insert c.args.score c.args.id q es c.get_mut.ensures.ordered none one

pub returns-clause-in_use : goal.returns-clause-in_use
returns-clause-in_use c =
    let es = c.args.queues.now.entries in
    let q = c.push_back-2.new.self in
    let one : q.items ≡ c.args.id ∷ [] = search rules in
    let new : c.insert.new.self.entries ≡ insert_entry nat_cmp es c.args.score q = search rules in
    subst AllInUse (sym new) (in_use-insert c.args.score q es (λ e. cc (one, e)) c.requires)
