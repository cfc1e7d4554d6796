use Rattle.std.proofs.Common.{sym, ap, subst, arith}
use Rattle.ep_store.specs.Stored.{Stored, Lacks, MayCome}
use Rattle.ep_store.specs.Inside.{IsStore}
use Rattle.ep_store.proofs.KeyLemmas.{lacks_key}
use Rattle.ep_store.proofs.CaseLemmas.{new_kept}
use Rattle.ep_store.proofs.store.Store.put.Goals as goal

pub insert-requires : goal.insert-requires
insert-requires c =
    let es = ap (λ (s : Stored). s.entries) c.self.view_is in
    lacks_key c.args.key.items c.args.entry.canon c.requires.valid c.requires.key c.self.inside.map.entries c.self.invariant.keyed
    (subst (λ l. Lacks l c.args.entry.canon) (sym es) c.requires.absent)

pub invariant_of-self-2 : goal.invariant_of-self-2
invariant_of-self-2 c =
    let es = ap (λ (s : Stored). s.entries) c.self.view_is in
    let count = c.len-count.ensures.len in
    let left = c.if-count-self.false in
    subst (IsStore c.self.inside.limit) (sym c.in_ok-insert.ensures.ok)
    (new_kept c.self.inside.limit c.self.inside.map.entries c.self.invariant c.args.key c.args.entry
    (subst (λ l. Lacks l c.args.entry.canon) (sym es) c.requires.absent) (omega (arith, count, left)) c.requires.key c.requires.valid
    (subst (λ l. MayCome l c.args.entry.weight c.args.entry.from) (sym es) c.requires.comes))
