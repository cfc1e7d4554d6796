use Rattle.std.proofs.Common.{◌≡◌, ◌<◌, ◌++◌, List, ℕ, length, map, [], ◌∷◌, arith, ap, sym, ◌∙◌}
use Rattle.std.proofs.lemmas.Bool.{eqb-true, eqb-false}
use Rattle.std.proofs.lemmas.List.{take_all, length-map}
use Rattle.ep_name.specs.Names.{printed, mark_before}
use Rattle.ep_name.proofs.CallerLemmas.{opened, opened-none, opened-some}
use Rattle.ep_tree.specs.declared.tree.Name.{Name}
use Rattle.ep_plan_text.proofs.NameLemmas.{opened-name}
use Rattle.ep_plan_text.proofs.read.name_of.Goals as goal
use Rattle.ep_plan_text.proofs.read.name_of.Goals.{then-not-is_empty+in_ok-push-2, else-not-is_empty}

abbrev text_of : Name → List ℕ
text_of n = n.text

pub loop-place-preserved : goal.loop-place-preserved
loop-place-preserved c =
    let ns = c.as_slice-objects.result.now in
    let i = c.loop-place.place in
    let name = c.args.call.now.name.text in
    let o = c.index-objects-place.result in
    let within : i < length ns = omega arith in
    let marked : c.push.new.self.items ≡ c.loop-place.name.items ++ mark_before i ∷ [] =
    c.in_ok-push.ensures.items ∙ ap (λ b. c.loop-place.name.items ++ b ∷ []) c.mark_before.ensures in
    let longer : c.extend_from_slice.new.self.items ≡ c.push.new.self.items ++ c.as_slice-in-loop-place.result.now = c.in_ok-extend_from_slice.ensures.items in
    longer
    ∙ (λ j. marked j ++ c.as_slice-in-loop-place.ensures.value j)
    ∙ ap (λ t. (t ++ mark_before i ∷ []) ++ o.text) c.loop-place.invariant
    ∙ sym (opened-name name ns i o within c.index-objects-place.is)

pub returns : goal.returns
returns c =
    let ns = c.as_slice-objects.result.now in
    let name = c.args.call.now.name.text in
    let all : c.as_slice-objects.result.now ≡ c.args.call.now.args = c.as_slice-objects.ensures in
    let end : c.loop-place.name.items ≡ opened name (map text_of ns) =
    c.loop-place.invariant ∙ ap (λ os. opened name (map text_of os)) (take_all c.loop-place.place ns (omega arith)) in
    elim c.if-not-is_empty.branch [
      | then-not-is_empty+in_ok-push-2 w ↦
          ap (λ t. t.items) w.name-is
          ∙ w.in_ok-push-2.ensures.items
          ∙ ap (λ t. t ++ 41 ∷ []) end
          ∙ opened-some name (map text_of ns)
          (let some = eqb-false (length ns) 0 (sym c.is_empty.ensures ∙ w.if-not-is_empty.true) in let long = length-map ns text_of in omega arith)
          ∙ ap (λ os. printed name (map text_of os)) all
      | else-not-is_empty w ↦
          ap (λ t. t.items) w.name-is
          ∙ end
          ∙ opened-none name (map text_of ns) (length-map ns text_of ∙ eqb-true (length ns) 0 (sym c.is_empty.ensures ∙ w.if-not-is_empty.false))
          ∙ ap (λ os. printed name (map text_of os)) all
    ]
