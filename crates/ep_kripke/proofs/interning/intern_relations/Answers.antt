use Rattle.std.proofs.Common.{◌≡◌, ◌<◌, ◌++◌, ◌∷◌, [], get_or, length, sym, ap, ◌∙◌, arith}
use Rattle.std.proofs.lemmas.List.{take_more, get_or_default}
use Rattle.ep_kripke.proofs.InterningLemmas.{links_next, keeps_more}
use Rattle.ep_kripke.proofs.interning.intern_relations.Goals as goal

pub loop-relation-preserved : goal.loop-relation-preserved
loop-relation-preserved c =
    let l = c.loop-relation in
    let i = c.in_ok-relation.ensures in
    let rows = c.args.relations.now in
    let inside : c.loop-relation.relation-index < length c.args.relations.now = omega (arith, c.loop-relation-test.true) in
    let item : c.relation-item.result ≡ get_or c.args.relations.now c.loop-relation.relation-index [] = c.relation-item.is ∙ get_or_default rows l.relation-index c.relation-item.result [] inside in
    let places : c.extend_from_slice.new.self.items ≡ c.loop-relation.all_places.items ++ c.in_ok-relation.field-0.places.items =
    c.in_ok-extend_from_slice.ensures.items ∙ ap (λ ps. c.loop-relation.all_places.items ++ ps) c.deref.ensures.value in
    record {
      relations = c.in_ok-push.ensures.ok ∙ (λ j. l.invariant.relations j ++ (i.relation ∙ item) j ∷ []) ∙ sym (take_more rows l.relation-index [] inside);
      stand = links_next c.args.worlds l.table c.intern_relation.new.table l.all_places.items c.extend_from_slice.new.self.items c.in_ok-relation.field-0.places.items rows l.relation-index
          c.relation-item.result i.kept l.invariant.stand i.places inside item places;
      kept = keeps_more c.args.table.now l.table c.intern_relation.new.table l.invariant.kept i.kept;
    }
