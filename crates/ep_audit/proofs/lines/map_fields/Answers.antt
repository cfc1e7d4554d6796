use Rattle.std.proofs.Common.{◌≡◌, ◌≤◌, ◌^◌, ◌<◌, List, [], ◌∷◌, ◌++◌, length, map, Option, ℕ, sym, ap, ◌∙◌, subst, arith, append-nil}
use Rattle.std.specs.List.{AllByRecursion}
use Rattle.std.proofs.lemmas.List.{length-append}
use Rattle.ep_audit.specs.Lines.{field, map_text}
use Rattle.ep_audit.specs.Shown.{IsBelow}
use Rattle.ep_audit.proofs.FieldLemmas.{parts_of, first_part, last_part, no_map, one_more, whole_map}
use Rattle.ep_audit.proofs.ProgressLemmas.{all_snoc}
use Rattle.ep_audit.proofs.lines.map_fields.Goals as goal

pub returns-in_default-map_field : goal.returns-in_default-map_field
returns-in_default-map_field c =
    let few : c.args.most ≤ 2 ^ 32 = omega (arith, c.ranges.most.fits) in
    let part = first_part c.loop-first.rest.now c.in-Some.first.now c.in-Some.after.now c.in-Some.ensures.0 c.in-Some.ensures.1 in
    no_map c.args.most few c.args.text.now c.in-Some.first.now (map field c.loop-first.fields) (parts_of c.in-Some.after.now) (c.loop-first.invariant.parts ∙ ap (λ y. map field c.loop-first.fields ++ y) part) c.in_default-map_field.ensures

pub loop-first-preserved : goal.loop-first-preserved
loop-first-preserved c =
    let part = first_part c.loop-first.rest.now c.in-Some.first.now c.in-Some.after.now c.in-Some.ensures.0 c.in-Some.ensures.1 in
    let fields = c.loop-first.fields in
    let value = c.in-Some-map_field.value in
    let parts = one_more c.args.text.now c.in-Some.first.now fields value (parts_of c.in-Some.after.now) (c.loop-first.invariant.parts ∙ ap (λ y. map field fields ++ y) part) c.in-Some-map_field.ensures.0 in
    record {
      parts = subst (λ (m : List (Option ℕ)). parts_of c.args.text.now ≡ map field m ++ parts_of c.in-Some.after.now) (sym c.in_ok-push.ensures.ok) parts;
      below = subst (AllByRecursion (IsBelow c.args.most)) (sym c.in_ok-push.ensures.ok) (all_snoc (IsBelow c.args.most) fields value c.loop-first.invariant.below c.in-Some-map_field.ensures.1);
    }

pub returns-in_default-map_field-2 : goal.returns-in_default-map_field-2
returns-in_default-map_field-2 c =
    let few : c.args.most ≤ 2 ^ 32 = omega (arith, c.ranges.most.fits) in
    let part = last_part c.loop-first.rest.now c.in_default.ensures in
    no_map c.args.most few c.args.text.now c.loop-first.rest.now (map field c.loop-first.fields) [] (c.loop-first.invariant.parts ∙ ap (λ y. map field c.loop-first.fields ++ y) part) c.in_default-map_field-2.ensures

pub returns : goal.returns
returns c =
    let part = last_part c.loop-first.rest.now c.in_default.ensures in
    let fields = c.loop-first.fields in
    let value = c.in-Some-map_field-2.value in
    let parts = one_more c.args.text.now c.loop-first.rest.now fields value [] (c.loop-first.invariant.parts ∙ ap (λ y. map field fields ++ y) part) c.in-Some-map_field-2.ensures.0 in
    let whole = whole_map c.args.text.now (fields ++ value ∷ []) (parts ∙ append-nil (map field (fields ++ value ∷ []))) in
    let made = sym c.in_ok-push-2.ensures.ok in (
      subst (λ (m : List (Option ℕ)). 0 < length m) made (omega (arith, length-append fields (value ∷ []))),
      subst (λ (m : List (Option ℕ)). c.args.text.now ≡ map_text m) made whole,
      subst (AllByRecursion (IsBelow c.args.most)) made (all_snoc (IsBelow c.args.most) fields value c.loop-first.invariant.below c.in-Some-map_field-2.ensures.1),
    )
