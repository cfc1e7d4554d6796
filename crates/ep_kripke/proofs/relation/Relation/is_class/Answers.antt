use Rattle.std.proofs.Common.{◌≡◌, ◌<◌, ◌∙◌, [], get_or, length, ap, sym, subst}
use Rattle.std.specs.Ordering.{nat_cmp}
use Rattle.std.specs.List.{AllByRecursion}
use Rattle.ep_theory.specs.Rising.{IsRising}
use Rattle.ep_theory.proofs.CallerLemmas.{All-at}
use Rattle.ep_kripke.specs.States.{AreRow}
use Rattle.ep_kripke.proofs.NameLemmas.{length-named, row_seen}
use Rattle.ep_kripke.proofs.EquivalenceLemmas.{class_is, class_shared}
use Rattle.ep_kripke.proofs.relation.Relation.is_class.Goals as goal

pub has-requires-clause-rising : goal.has-requires-clause-rising
has-requires-clause-rising c =
    let names = c.names.result.0.now in
    let rows = c.names.result.1.now in
    let seen = c.args.self.now in
    subst (IsRising nat_cmp) (sym (row_seen names rows seen c.args.w c.names.ensures.rows c.requires.world)) (All-at (AreRow (length seen)) seen c.args.w [] c.requires.world c.requires.rows).rising

pub is_shared-requires-clause-within : goal.is_shared-requires-clause-within
is_shared-requires-clause-within c =
    let names = c.names.result.0.now in
    let rows = c.names.result.1.now in
    let seen = c.args.self.now in
    let long : length c.args.self.now ≡ length c.names.result.0.now = sym (ap length c.names.ensures.rows) ∙ length-named names rows in
    subst (λ n. AllByRecursion (λ v. v < n) (get_or rows (get_or names c.args.w 0) [])) long
    (subst (AllByRecursion (λ v. v < length seen)) (sym (row_seen names rows seen c.args.w c.names.ensures.rows c.requires.world)) (All-at (AreRow (length seen)) seen c.args.w [] c.requires.world c.requires.rows).within)

pub returns-then-has : goal.returns-then-has
returns-then-has c =
    let names = c.names.result.0.now in
    let rows = c.names.result.1.now in
    let seen = c.args.self.now in (
      λ t. class_is names rows seen c.args.w c.names.ensures.rows c.requires.rows c.requires.world (c.has.ensures.0 c.if-has.true) (c.is_shared.ensures.0 t),
      λ k. c.is_shared.ensures.1 (class_shared names rows seen c.args.w c.names.ensures.rows c.requires.rows c.requires.world k).1,
    )
