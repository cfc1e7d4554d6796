use Rattle.std.proofs.Common.{◌≡◌, ◌∙◌, ◌<◌, sym, ap, subst, refl, rules, arith, length, get_or, drop, [], IsTrue}
use Rattle.ep_theory.specs.Kripke.{Kripke}
use Rattle.ep_logic.specs.AgentSets.{is_nobody}
use Rattle.ep_dynamic.specs.declared.node.DynNode.TheFolds.{the_lemmas}
use Rattle.ep_dynamic.specs.DynamicLabels.{Labels, FitsTask, IsAhead, SaysTruth, spent}
use Rattle.ep_theory.specs.Truth.{Either}
use Rattle.ep_update.specs.Ahead.{openings}
use Rattle.ep_dynamic.specs.DynamicTruth.{DynTruth}
use Rattle.ep_dynamic.proofs.LabelLemmas.{labels-True, labels-False, labels-Atom, labels-Not, labels-And, labels-Or, labels-Knows, labels-Common, fits-Atom, fits-Not, fits-And, fits-Or, fits-Knows, fits-Common, fits-After, long_of, closed_at, refused_at, long_at, after_at, some_is, none_is, part_refused, part_made, part_fits, each_end, either_end}
use Rattle.ep_base.specs.Refusals.{Reports}
use Rattle.ep_dynamic.specs.declared.truths.DynFail.TheVariants.{OutOfMemory}
use Rattle.ep_dynamic.proofs.DynamicLemmas.{says_everywhere, says_each, says_either, says-none}
use Rattle.ep_dynamic.proofs.AheadLemmas.{fits_moved}
use Rattle.ep_dynamic.proofs.truths.+dynamic.Goals as goal

pub label_node-returns-in-True : goal.label_node-returns-in-True
label_node-returns-in-True g t c = subst (λ n. Labels c.args.task.now c.args.s.now n c.all_true.result) (sym c.in-True.is) (labels-True c.args.task.now c.args.s.now c.all_true.result c.all_true.ensures)

pub label_node-returns-in-False : goal.label_node-returns-in-False
label_node-returns-in-False g t c = subst (λ n. Labels c.args.task.now c.args.s.now n c.all_false.result) (sym c.in-False.is) (labels-False c.args.task.now c.args.s.now c.all_false.result c.all_false.ensures)

pub label_node-atom_row-requires : goal.label_node-atom_row-requires
label_node-atom_row-requires g t c = fits-Atom c.args.task.now c.in-Atom.p c.args.s.now c.requires.among (subst (FitsTask c.args.task.now) c.in-Atom.is c.requires.fits)

pub label_node-returns-in-Atom : goal.label_node-returns-in-Atom
label_node-returns-in-Atom g t c = subst (λ n. Labels c.args.task.now c.args.s.now n c.atom_row.result) (sym c.in-Atom.is) (labels-Atom c.args.task.now c.args.s.now c.in-Atom.p c.atom_row.result c.atom_row.ensures)

pub label_node-returns-in-Not : goal.label_node-returns-in-Not
label_node-returns-in-Not g t c = subst (λ n. Labels c.args.task.now c.args.s.now n c.turned.result) (sym c.in-Not.is)
    (labels-Not c.args.task.now c.args.s.now c.in-Not.inner c.label_node.result c.turned.result (subst (λ n. Labels c.args.task.now c.args.s.now n c.label_node.result) c.get.ensures c.label_node.ensures) c.turned.ensures)

pub label_node-returns-in-And : goal.label_node-returns-in-And
label_node-returns-in-And g t c = subst (λ n. Labels c.args.task.now c.args.s.now n c.label_all.result) (sym c.in-And.is) (labels-And c.args.task.now c.args.s.now c.in-And.parts c.label_all.result c.label_all.ensures)

pub label_node-returns-in-Or : goal.label_node-returns-in-Or
label_node-returns-in-Or g t c = subst (λ n. Labels c.args.task.now c.args.s.now n c.label_any.result) (sym c.in-Or.is) (labels-Or c.args.task.now c.args.s.now c.in-Or.parts c.label_any.result c.label_any.ensures)

pub label_node-returns-in-Knows : goal.label_node-returns-in-Knows
label_node-returns-in-Knows g t c = subst (λ n. Labels c.args.task.now c.args.s.now n c.known.result) (sym c.in-Knows.is)
    (labels-Knows c.args.task.now c.args.s.now c.worlds-worlds.ensures.valid c.in-Knows.a c.in-Knows.inner c.label_node-row.result c.known.result (subst (λ n. Labels c.args.task.now c.args.s.now n c.label_node-row.result) c.get-in-Knows.ensures c.label_node-row.ensures) c.known.ensures)

pub label_node-returns-in-Common : goal.label_node-returns-in-Common
label_node-returns-in-Common g t c = subst (λ n. Labels c.args.task.now c.args.s.now n c.shared.result) (sym c.in-Common.is)
    (labels-Common c.args.task.now c.args.s.now c.worlds-worlds.ensures.valid c.in-Common.group c.in-Common.inner c.label_node-row-in-Common.result c.shared.result (subst (λ n. Labels c.args.task.now c.args.s.now n c.label_node-row-in-Common.result) c.get-in-Common.ensures c.label_node-row-in-Common.ensures) c.shared.ensures)

pub label_node-label_node-requires : goal.label_node-label_node-requires
label_node-label_node-requires g t c = λ κs l. (search (rules, the_lemmas), (search rules, (c.requires.among, subst (FitsTask c.args.task.now) (sym c.get.ensures) (fits-Not c.args.task.now c.in-Not.inner (subst (FitsTask c.args.task.now) c.in-Not.is c.requires.fits)))))

pub label_node-label_all-requires : goal.label_node-label_all-requires
label_node-label_all-requires g t c = λ κs l. (search (rules, the_lemmas), (search rules, (c.requires.among, fits-And c.args.task.now c.in-And.parts (subst (FitsTask c.args.task.now) c.in-And.is c.requires.fits))))

pub label_node-label_any-requires : goal.label_node-label_any-requires
label_node-label_any-requires g t c = λ κs l. (search (rules, the_lemmas), (search rules, (c.requires.among, fits-Or c.args.task.now c.in-Or.parts (subst (FitsTask c.args.task.now) c.in-Or.is c.requires.fits))))

pub label_node-label_node-row-requires : goal.label_node-label_node-row-requires
label_node-label_node-row-requires g t c = λ κs l. (search (rules, the_lemmas), (search rules, (c.requires.among, subst (FitsTask c.args.task.now) (sym c.get-in-Knows.ensures) (fits-Knows c.args.task.now c.in-Knows.a c.in-Knows.inner (subst (FitsTask c.args.task.now) c.in-Knows.is c.requires.fits)).1)))

pub label_node-known-requires-clause-agent : goal.label_node-known-requires-clause-agent
label_node-known-requires-clause-agent g t c = subst (λ n. c.in-Knows.a.n < n) (sym c.requires.among.agents) (fits-Knows c.args.task.now c.in-Knows.a c.in-Knows.inner (subst (FitsTask c.args.task.now) c.in-Knows.is c.requires.fits)).0

pub label_node-known-requires-clause-long : goal.label_node-known-requires-clause-long
label_node-known-requires-clause-long g t c = long_of c.args.task.now c.args.s.now c.get-in-Knows.result.now c.label_node-row.result c.label_node-row.ensures

pub label_node-label_node-row-requires-in-Common : goal.label_node-label_node-row-requires-in-Common
label_node-label_node-row-requires-in-Common g t c = λ κs l. (search (rules, the_lemmas), (search rules, (c.requires.among, subst (FitsTask c.args.task.now) (sym c.get-in-Common.ensures) (fits-Common c.args.task.now c.in-Common.group c.in-Common.inner (subst (FitsTask c.args.task.now) c.in-Common.is c.requires.fits)).1)))

pub label_node-shared-requires-clause-group : goal.label_node-shared-requires-clause-group
label_node-shared-requires-clause-group g t c = subst (λ n. IsTrue (is_nobody (drop n c.in-Common.group))) (sym c.requires.among.agents) (fits-Common c.args.task.now c.in-Common.group c.in-Common.inner (subst (FitsTask c.args.task.now) c.in-Common.is c.requires.fits)).0

pub label_node-shared-requires-clause-long : goal.label_node-shared-requires-clause-long
label_node-shared-requires-clause-long g t c = long_of c.args.task.now c.args.s.now c.get-in-Common.result.now c.label_node-row-in-Common.result c.label_node-row-in-Common.ensures

pub label_node-action-action-requires : goal.label_node-action-action-requires
label_node-action-action-requires g t c = (fits-After c.args.task.now c.in-After.a c.in-After.inner (subst (FitsTask c.args.task.now) c.in-After.is c.requires.fits)).0

pub label_node-look_ahead-requires : goal.label_node-look_ahead-requires
label_node-look_ahead-requires g t c = fits_moved c.args.task.now.initial c.args.s.now c.action-action.result.now c.requires.among.agents c.requires.among.atoms c.action-action.ensures.fits

pub label_node-returns-in-Err : goal.label_node-returns-in-Err
label_node-returns-in-Err g t c = subst (λ n. Reports OutOfMemory (spent c.args.task.now c.args.s.now n) c.in-Err.e) (sym c.in-After.is)
    (refused_at c.args.task.now c.args.s.now c.action-action.ensures.valid.actions c.worlds-worlds.ensures.valid c.in-After.a c.in-After.inner c.action-action.result.now c.action-action.ensures.value c.in-Err.e c.in-Err.ensures)

pub label_node-returns-in-Ok-None : goal.label_node-returns-in-Ok-None
label_node-returns-in-Ok-None g t c = subst (λ n. Labels c.args.task.now c.args.s.now n c.all_true-in-Ok-None.result) (sym c.in-After.is)
    (closed_at c.args.task.now c.args.s.now c.action-action.ensures.valid.actions c.worlds-worlds.ensures.valid c.in-After.a c.in-After.inner c.action-action.result.now c.action-action.ensures.value c.all_true-in-Ok-None.result
    (none_is (openings c.args.s.now c.action-action.result.now ≡ []) (IsAhead c.args.s.now c.action-action.result.now) c.in-Ok-None.field-0 c.in-Ok-None.field-0-is c.in-Ok-None.ensures) c.all_true-in-Ok-None.ensures)

pub label_node-label_node-row-requires-in-Ok-Some : goal.label_node-label_node-row-requires-in-Ok-Some
label_node-label_node-row-requires-in-Ok-Some g t c =
    let k = (some_is (openings c.args.s.now c.action-action.result.now ≡ []) (IsAhead c.args.s.now c.action-action.result.now) c.in-Ok-Some.field-0 c.in-Ok-Some.ahead c.in-Ok-Some.field-0-is c.in-Ok-Some.ensures) in
    λ κs l. (
      search (rules, the_lemmas),
      (
        search rules,
        (
          record {
            agents = ap (λ (P : Kripke). P.agents) k.product ∙ c.requires.among.agents;
            atoms = ap (λ (P : Kripke). P.atoms) k.product ∙ c.requires.among.atoms;
          },
          subst (FitsTask c.args.task.now) (sym c.get-in-Ok-Some.ensures) (fits-After c.args.task.now c.in-After.a c.in-After.inner (subst (FitsTask c.args.task.now) c.in-After.is c.requires.fits)).1,
        ),
      ),
    )

pub label_node-behind-requires-clause-list : goal.label_node-behind-requires-clause-list
label_node-behind-requires-clause-list g t c = c.as_slice.ensures ∙ (some_is (openings c.args.s.now c.action-action.result.now ≡ []) (IsAhead c.args.s.now c.action-action.result.now) c.in-Ok-Some.field-0 c.in-Ok-Some.ahead c.in-Ok-Some.field-0-is c.in-Ok-Some.ensures).places

pub label_node-behind-requires-clause-long : goal.label_node-behind-requires-clause-long
label_node-behind-requires-clause-long g t c =
    long_at c.args.task.now c.args.s.now c.action-action.ensures.valid.actions c.worlds-worlds.ensures.valid c.in-After.a c.get-in-Ok-Some.result.now c.action-action.result.now c.action-action.ensures.value c.in-Ok-Some.ahead
    (some_is (openings c.args.s.now c.action-action.result.now ≡ []) (IsAhead c.args.s.now c.action-action.result.now) c.in-Ok-Some.field-0 c.in-Ok-Some.ahead c.in-Ok-Some.field-0-is c.in-Ok-Some.ensures) c.label_node-row-in-Ok-Some.result c.label_node-row-in-Ok-Some.ensures

pub label_node-returns-in-Ok-Some : goal.label_node-returns-in-Ok-Some
label_node-returns-in-Ok-Some g t c = subst (λ n. Labels c.args.task.now c.args.s.now n c.behind.result) (sym c.in-After.is)
    (after_at c.args.task.now c.args.s.now c.action-action.ensures.valid.actions c.worlds-worlds.ensures.valid c.in-After.a c.in-After.inner c.action-action.result.now c.action-action.ensures.value c.in-Ok-Some.ahead
    (some_is (openings c.args.s.now c.action-action.result.now ≡ []) (IsAhead c.args.s.now c.action-action.result.now) c.in-Ok-Some.field-0 c.in-Ok-Some.ahead c.in-Ok-Some.field-0-is c.in-Ok-Some.ensures) c.label_node-row-in-Ok-Some.result c.behind.result
    (subst (λ n. Labels c.args.task.now c.in-Ok-Some.ahead.product n c.label_node-row-in-Ok-Some.result) c.get-in-Ok-Some.ensures c.label_node-row-in-Ok-Some.ensures) c.behind.ensures)

pub label_all-loop-part-init : goal.label_all-loop-part-init
label_all-loop-part-init g t c = record { says = says_everywhere c.args.s.now.worlds (λ w. Unit {0}) c.in_ok-row.row c.in_ok-row.ensures (λ w l. tt); made = refl }

pub label_all-label_node-requires : goal.label_all-label_node-requires
label_all-label_node-requires g t c =
    let T = c.args.task.now in
    let S = c.args.s.now in
    let fs = c.args.parts.now in
    let i = c.loop-part.part-index in
    let d = c.part-item.result in
    let items = c.as_slice-part-items.ensures in
    let l : c.loop-part.part-index < length c.args.parts.now = omega (arith, ap length items, c.loop-part-test.true) in
    let part : c.part-item.result ≡ get_or c.args.parts.now c.loop-part.part-index c.part-item.result = c.part-item.is ∙ ap (λ xs. get_or xs i d) items in
    λ κs l'. (search (rules, the_lemmas), (search rules, (c.requires.among, subst (FitsTask T) (sym part) (part_fits T fs i d l c.requires.fits))))

pub label_all-and_with-requires : goal.label_all-and_with-requires
label_all-and_with-requires g t c = c.loop-part.invariant.says.long ∙ sym c.in-Ok.ensures.0.long

pub label_all-returns-in-Err : goal.label_all-returns-in-Err
label_all-returns-in-Err g t c =
    let T = c.args.task.now in
    let S = c.args.s.now in
    let fs = c.args.parts.now in
    let i = c.loop-part.part-index in
    let d = c.part-item.result in
    let items = c.as_slice-part-items.ensures in
    let l : c.loop-part.part-index < length c.args.parts.now = omega (arith, ap length items, c.loop-part-test.true) in
    let part : c.part-item.result ≡ get_or c.args.parts.now c.loop-part.part-index c.part-item.result = c.part-item.is ∙ ap (λ xs. get_or xs i d) items in
    part_refused T S fs i d c.in-Err.e l c.loop-part.invariant.made (subst (λ n. Reports OutOfMemory (spent T S n) c.in-Err.e) part c.in-Err.ensures)

pub label_all-loop-part-preserved : goal.label_all-loop-part-preserved
label_all-loop-part-preserved g t c =
    let T = c.args.task.now in
    let S = c.args.s.now in
    let fs = c.args.parts.now in
    let i = c.loop-part.part-index in
    let d = c.part-item.result in
    let items = c.as_slice-part-items.ensures in
    let l : c.loop-part.part-index < length c.args.parts.now = omega (arith, ap length items, c.loop-part-test.true) in
    let part : c.part-item.result ≡ get_or c.args.parts.now c.loop-part.part-index c.part-item.result = c.part-item.is ∙ ap (λ xs. get_or xs i d) items in
    record {
      says = says_each T S fs i d c.loop-part.row c.in-Ok.next c.and_with.new.self l c.loop-part.invariant.says (subst (λ n. SaysTruth T S n c.in-Ok.next) part c.in-Ok.ensures.0) c.and_with.ensures;
      made = part_made T S fs i d l c.loop-part.invariant.made (ap (spent T S) (sym part) ∙ c.in-Ok.ensures.1);
    }

pub label_all-returns : goal.label_all-returns
label_all-returns g t c =
    let items = c.as_slice-part-items.ensures in
    each_end c.args.task.now c.args.s.now c.args.parts.now c.loop-part.part-index c.loop-part.row (omega (arith, ap length items, c.loop-part-test.false)) c.loop-part.invariant.says c.loop-part.invariant.made

pub label_any-loop-part-init : goal.label_any-loop-part-init
label_any-loop-part-init g t c = record { says = says-none c.args.task.now c.args.s.now (λ w. Either (DynTruth c.args.task.now.actions c.args.s.now w) []) c.args.s.now.worlds c.in_ok-row.row refl c.in_ok-row.ensures (λ w z. z); made = refl }

pub label_any-label_node-requires : goal.label_any-label_node-requires
label_any-label_node-requires g t c =
    let T = c.args.task.now in
    let S = c.args.s.now in
    let fs = c.args.parts.now in
    let i = c.loop-part.part-index in
    let d = c.part-item.result in
    let items = c.as_slice-part-items.ensures in
    let l : c.loop-part.part-index < length c.args.parts.now = omega (arith, ap length items, c.loop-part-test.true) in
    let part : c.part-item.result ≡ get_or c.args.parts.now c.loop-part.part-index c.part-item.result = c.part-item.is ∙ ap (λ xs. get_or xs i d) items in
    λ κs l'. (search (rules, the_lemmas), (search rules, (c.requires.among, subst (FitsTask T) (sym part) (part_fits T fs i d l c.requires.fits))))

pub label_any-or_with-requires : goal.label_any-or_with-requires
label_any-or_with-requires g t c = c.loop-part.invariant.says.long ∙ sym c.in-Ok.ensures.0.long

pub label_any-returns-in-Err : goal.label_any-returns-in-Err
label_any-returns-in-Err g t c =
    let T = c.args.task.now in
    let S = c.args.s.now in
    let fs = c.args.parts.now in
    let i = c.loop-part.part-index in
    let d = c.part-item.result in
    let items = c.as_slice-part-items.ensures in
    let l : c.loop-part.part-index < length c.args.parts.now = omega (arith, ap length items, c.loop-part-test.true) in
    let part : c.part-item.result ≡ get_or c.args.parts.now c.loop-part.part-index c.part-item.result = c.part-item.is ∙ ap (λ xs. get_or xs i d) items in
    part_refused T S fs i d c.in-Err.e l c.loop-part.invariant.made (subst (λ n. Reports OutOfMemory (spent T S n) c.in-Err.e) part c.in-Err.ensures)

pub label_any-loop-part-preserved : goal.label_any-loop-part-preserved
label_any-loop-part-preserved g t c =
    let T = c.args.task.now in
    let S = c.args.s.now in
    let fs = c.args.parts.now in
    let i = c.loop-part.part-index in
    let d = c.part-item.result in
    let items = c.as_slice-part-items.ensures in
    let l : c.loop-part.part-index < length c.args.parts.now = omega (arith, ap length items, c.loop-part-test.true) in
    let part : c.part-item.result ≡ get_or c.args.parts.now c.loop-part.part-index c.part-item.result = c.part-item.is ∙ ap (λ xs. get_or xs i d) items in
    record {
      says = says_either T S fs i d c.loop-part.row c.in-Ok.next c.or_with.new.self l c.loop-part.invariant.says (subst (λ n. SaysTruth T S n c.in-Ok.next) part c.in-Ok.ensures.0) c.or_with.ensures;
      made = part_made T S fs i d l c.loop-part.invariant.made (ap (spent T S) (sym part) ∙ c.in-Ok.ensures.1);
    }

pub label_any-returns : goal.label_any-returns
label_any-returns g t c =
    let items = c.as_slice-part-items.ensures in
    either_end c.args.task.now c.args.s.now c.args.parts.now c.loop-part.part-index c.loop-part.row (omega (arith, ap length items, c.loop-part-test.false)) c.loop-part.invariant.says c.loop-part.invariant.made
