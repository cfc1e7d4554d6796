use Rattle.std.proofs.Common.{◌≡◌, ◌<◌, List, ℕ, length, map, get_or, [], ◌∷◌, ◌++◌, All, arith, ap, sym, ◌∙◌, subst}
use Rattle.std.proofs.lemmas.List.{get_or_read, take_all, length-map}
use Rattle.std.proofs.lemmas.List.Elements.{All-append, All-push, All-get_or, All-same}
use Rattle.std.proofs.lemmas.Bool.{eqb-true, eqb-false}
use Rattle.ep_name.specs.Names.{mark_before}
use Rattle.ep_name.proofs.PrintLemmas.{opened, opened-more, opened-none, opened-some, mark-ascii}
use Rattle.ep_name.proofs.print.print_name.Goals as goal
use Rattle.ep_name.proofs.print.print_name.Goals.{then-not-is_empty+in_ok-push-2, else-not-is_empty}

pub loop-place-preserved : goal.loop-place-preserved
loop-place-preserved c =
    let names = c.args.names.now in
    let os = c.args.objects.now in
    let i = c.loop-place.place in
    let within : i < length os = omega arith in
    let o = get_or os i 0 in
    let of_name : c.as_slice-in-loop-place.result.now ≡ get_or names o [] =
    c.as_slice-in-loop-place.ensures.value ∙ get_or_read names o c.index-names-object.result (All-get_or (λ o. o < length names) os i 0 within c.requires) c.index-names-object.is [] in
    let marked : c.push.new.self.items ≡ c.loop-place.text.items ++ mark_before i ∷ [] =
    c.in_ok-push.ensures.items ∙ ap (λ b. c.loop-place.text.items ++ b ∷ []) c.mark_before.ensures in
    let longer : c.extend_from_slice.new.self.items ≡ c.push.new.self.items ++ c.as_slice-in-loop-place.result.now = c.in_ok-extend_from_slice.ensures.items in
    record {
      value =
          longer
          ∙ (λ j. marked j ++ of_name j)
          ∙ ap (λ t. (t ++ mark_before i ∷ []) ++ get_or names o []) c.loop-place.invariant.value
          ∙ sym (opened-more c.args.name.now (λ o. get_or names o []) os i 0 within);
      ascii =
          All-same (λ b. b < 128) _ _ (longer ∙ ap (λ t. t ++ c.as_slice-in-loop-place.result.now) marked)
          (All-append (λ b. b < 128) _ _ (All-push (λ b. b < 128) _ _ c.loop-place.invariant.ascii (mark-ascii i))
          (subst (All (λ b. b < 128)) (sym c.as_slice-in-loop-place.ensures.value) c.as_slice-in-loop-place.ensures.ascii));
    }

pub returns : goal.returns
returns c =
    let os = c.args.objects.now in
    let f : ℕ → List ℕ = λ o. get_or c.args.names.now o [] in
    let end : c.loop-place.text.items ≡ opened c.args.name.now (map f os) =
    c.loop-place.invariant.value ∙ ap (λ os. opened c.args.name.now (map f os)) (take_all c.loop-place.place os (omega arith)) in
    c.from_vec.ensures ∙ elim c.if-not-is_empty.branch [
      | then-not-is_empty+in_ok-push-2 w ↦
          ap (λ t. t.items) w.text-is
          ∙ w.in_ok-push-2.ensures.items
          ∙ ap (λ t. t ++ 41 ∷ []) end
          ∙ opened-some c.args.name.now (map f os)
          (let some = eqb-false (length os) 0 (sym c.is_empty.ensures ∙ w.if-not-is_empty.true) in let long = length-map os f in omega arith)
      | else-not-is_empty w ↦
          ap (λ t. t.items) w.text-is
          ∙ end
          ∙ opened-none c.args.name.now (map f os) (length-map os f ∙ eqb-true (length os) 0 (sym c.is_empty.ensures ∙ w.if-not-is_empty.false))
    ]
