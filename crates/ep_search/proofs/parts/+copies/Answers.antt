use Rattle.std.proofs.Common.{rules, ◌≡◌, ◌<◌, length, get_or, IsTrue, ap, sym, ◌∙◌, subst, arith}
use Rattle.ep_logic.specs.Nodes.{is_formed, node_count}
use Rattle.ep_logic.specs.declared.formula.Node.TheFolds.{the_lemmas}
use Rattle.ep_search.proofs.PartLemmas.{few_parts, parts_of_And, parts_of_Or, part_formed, part_small}
use Rattle.ep_search.proofs.parts.+copies.Goals as goal

pub copy_part-and-requires-clause-many : goal.copy_part-and-requires-clause-many
copy_part-and-requires-clause-many t c =
    let h = parts_of_And c.in-And.parts c.args.node.now c.in-And.is c.requires.formed c.requires.small in
    omega (arith, h.many, ap length c.in_ok-copy_parts-in-And.ensures.value)

pub copy_part-or-requires-clause-many : goal.copy_part-or-requires-clause-many
copy_part-or-requires-clause-many t c =
    let h = parts_of_Or c.in-Or.parts c.args.node.now c.in-Or.is c.requires.formed c.requires.small in
    omega (arith, h.many, ap length c.in_ok-copy_parts-in-Or.ensures.value)

pub copy_parts-returns-in_err-copy_part-clause-few : goal.copy_parts-returns-in_err-copy_part-clause-few
copy_parts-returns-in_err-copy_part-clause-few t c = omega (arith, few_parts c.args.parts.now, c.requires.small)

pub copy_parts-returns-in_err-push-clause-few : goal.copy_parts-returns-in_err-push-clause-few
copy_parts-returns-in_err-push-clause-few t c = omega (arith, few_parts c.args.parts.now, c.requires.small)

pub copy_parts-returns-clause-few : goal.copy_parts-returns-clause-few
copy_parts-returns-clause-few t c = omega (arith, few_parts c.args.parts.now, c.requires.small)

pub copy_part-copy_parts-requires : goal.copy_part-copy_parts-requires
copy_part-copy_parts-requires t c =
    let h = parts_of_And c.in-And.parts c.args.node.now c.in-And.is c.requires.formed c.requires.small in
    (search (rules, the_lemmas), (h.formed, h.small))

pub copy_part-copy_parts-requires-in-Or : goal.copy_part-copy_parts-requires-in-Or
copy_part-copy_parts-requires-in-Or t c =
    let h = parts_of_Or c.in-Or.parts c.args.node.now c.in-Or.is c.requires.formed c.requires.small in
    (search (rules, the_lemmas), (h.formed, h.small))

pub copy_parts-copy_part-requires : goal.copy_parts-copy_part-requires
copy_parts-copy_part-requires t c =
    let lt : c.loop-part.part-index < length c.args.parts.now = omega (arith, c.loop-part-test.true, ap length c.as_slice-part-items.ensures) in
    let is : c.part-item.result ≡ get_or c.args.parts.now c.loop-part.part-index c.part-item.result = c.part-item.is ∙ ap (λ xs. get_or xs c.loop-part.part-index c.part-item.result) c.as_slice-part-items.ensures in (
      search (rules, the_lemmas),
      (
        subst (λ n. IsTrue (is_formed n)) (sym is) (part_formed c.args.parts.now c.loop-part.part-index c.part-item.result lt c.requires.formed),
        omega (arith, ap node_count is, part_small c.args.parts.now c.loop-part.part-index c.part-item.result lt, c.requires.small),
      ),
    )
