use Rattle.std.proofs.Common.{◌≡◌, ◌++◌, ◌∷◌, [], ◌<◌, length, map, take, get_or, ap, sym, ◌∙◌, arith}
use Rattle.std.specs.Prelude.{codes}
use Rattle.std.proofs.lemmas.List.{length-map, get_or_default, take_all}
use Rattle.std.proofs.lemmas.List.Elements.{All-get_or}
use Rattle.ep_types.specs.Names.{names_of}
use Rattle.ep_types.specs.Tasks.{declarations}
use Rattle.ep_universe.specs.Objects.{agents_of}
use Rattle.ep_universe.specs.PrintedNames.{object_name}
use Rattle.ep_universe.proofs.LinkLemmas.{map_more}
use Rattle.ep_universe.proofs.NameLemmas.{objects-below}
use Rattle.ep_universe.proofs.names.agent_names.Goals as goal

pub bounds-names-object : goal.bounds-names-object
bounds-names-object c =
    let d = declarations c.args.typed.now in
    let i = c.loop-object.object-index in
    let items = c.requires.agents in
    let long = ap length items in
    let test = c.loop-object-test.true in
    let below = All-get_or (λ o. o < length d.objects) (agents_of d) i 0 (omega arith) (objects-below d (codes "agent")) in
    let same = ap (λ z. get_or z i 0) items in
    let names = ap length c.requires.names in
    let many = length-map d.objects (λ e. e.0) in
    omega (arith, below, same, names, many)

pub loop-object-preserved : goal.loop-object-preserved
loop-object-preserved c =
    let d = declarations c.args.typed.now in
    let i = c.loop-object.object-index in
    let agents = c.args.objects.now in
    let items = c.requires.agents in
    let o = get_or agents i 0 in
    let long = ap length items in
    let l : i < length agents = c.loop-object-test.true in
    let x = c.index-names-object.result in
    let below = All-get_or (λ o. o < length d.objects) (agents_of d) i 0 (omega (arith, l, long)) (objects-below d (codes "agent")) in
    let same = ap (λ z. get_or z i 0) items in
    let many = length-map d.objects (λ e. e.0) in
    let name : c.in_ok-copy_text.field-0 ≡ object_name d o =
    c.in_ok-copy_text.ensures ∙ c.index-names-object.is ∙ (λ j. get_or (c.requires.names j) o x) ∙ get_or_default (names_of d.objects) o x [] (omega (arith, below, many, same)) in
    c.in_ok-push.ensures.ok
    ∙ (λ j. c.loop-object.invariant j ++ name j ∷ [])
    ∙ sym (map_more (object_name d) agents i o l (get_or_default agents i 0 o l))
