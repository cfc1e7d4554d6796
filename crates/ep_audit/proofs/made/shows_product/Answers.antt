use Rattle.std.proofs.Common.{◌≡◌, ℕ, length, Some, refl, sym, ap, ◌∙◌, arith}
use Rattle.std.specs.Prelude.{slice_get}
use Rattle.std.proofs.lemmas.Option.{same_Some, slice_get_within, slice_get_read}
use Rattle.ep_theory.specs.Kripke.{Kripke}
use Rattle.ep_audit.specs.Shown.{ShowsMap, ShowsProduct}
use Rattle.ep_audit.proofs.AnswerLemmas.{ok_iff, never_true, product_uncut, product_is, place_is, shown_product, product_shown}
use Rattle.ep_audit.proofs.made.shows_product.Goals as goal

pub returns-in_default : goal.returns-in_default
returns-in_default c = never_true _ (λ p. product_uncut c.args.entries.now c.args.most c.args.s.now c.args.a.now c.args.text.now c.in_default.ensures p)

pub returns-in_default-number : goal.returns-in_default-number
returns-in_default-number c = never_true _ (λ p.
    let q = product_is c.args.entries.now c.args.most c.args.s.now c.args.a.now c.args.text.now c.in-Some.digits.now c.in-Some.rest.now c.requires.few c.in-Some.ensures.0 c.in-Some.ensures.1 p in
    c.in_default-number.ensures p.place (omega (arith, q.2)) q.0)

pub returns-in_default-behind : goal.returns-in_default-behind
returns-in_default-behind c = never_true _ (λ p.
    let q = product_is c.args.entries.now c.args.most c.args.s.now c.args.a.now c.args.text.now c.in-Some.digits.now c.in-Some.rest.now c.requires.few c.in-Some.ensures.0 c.in-Some.ensures.1 p in
    c.in_default-behind.ensures _ q.1)

pub returns-then-place-entries : goal.returns-then-place-entries
returns-then-place-entries c = never_true _ (λ p.
    let same = place_is c.args.entries.now c.args.most c.in-Some-number.place c.args.s.now c.args.a.now c.args.text.now c.in-Some.digits.now c.in-Some.rest.now c.requires.few c.in-Some.ensures.0 c.in-Some.ensures.1 c.in-Some-number.ensures.0 c.in-Some-number.ensures.1 p in
    let l = slice_get_within c.args.entries.now p.place p.entry p.at in
    absurd (omega (arith, same, l, c.if-place-entries.true)))

pub returns-then-from-most : goal.returns-then-from-most
returns-then-from-most c = never_true _ (λ p.
    let same = place_is c.args.entries.now c.args.most c.in-Some-number.place c.args.s.now c.args.a.now c.args.text.now c.in-Some.digits.now c.in-Some.rest.now c.requires.few c.in-Some.ensures.0 c.in-Some.ensures.1 c.in-Some-number.ensures.0 c.in-Some-number.ensures.1 p in
    let e = c.index-entries-place.result in
    let at : slice_get c.args.entries.now c.in-Some-number.place ≡ Some e = slice_get_read c.args.entries.now (length c.args.entries.now) c.in-Some-number.place e refl c.if-place-entries.false c.index-entries-place.is in
    let entry : p.entry ≡ e = same_Some p.entry e (sym p.at ∙ ap (slice_get c.args.entries.now) same ∙ at) in
    let weight : p.entry.1 ≡ e.1 = ap (λ (x : Kripke × ℕ). x.1) entry in
    absurd (omega (arith, weight, p.cheap, c.from.ensures, c.if-from-most.true)))

pub returns-in-Some-2 : goal.returns-in-Some-2
returns-in-Some-2 c =
    let e = c.index-entries-place.result in
    let made = rw c.in-Some-2.is at c.in_ok-made.ensures in
    let at : slice_get c.args.entries.now c.in-Some-number.place ≡ Some e = slice_get_read c.args.entries.now (length c.args.entries.now) c.in-Some-number.place e refl c.if-place-entries.false c.index-entries-place.is in
    ok_iff c.shows_map.result (ShowsMap c.in-Some-2.made e.0 c.in-Some-behind.fields.now) (ShowsProduct c.args.entries.now c.args.most c.args.s.now c.args.a.now c.args.text.now)
    (λ m. shown_product c.args.entries.now c.args.most c.in-Some-number.place c.args.s.now c.args.a.now c.args.text.now c.in-Some.digits.now c.in-Some.rest.now c.in-Some-behind.fields.now e c.in-Some-2.made
    c.in-Some.ensures.0 c.in-Some-number.ensures.0 c.in-Some-behind.ensures at (omega (arith, c.from.ensures, c.if-from-most.false)) made.0 made.1 m)
    (λ p. product_shown c.args.entries.now c.args.most c.in-Some-number.place c.args.s.now c.args.a.now c.args.text.now c.in-Some.digits.now c.in-Some.rest.now c.in-Some-behind.fields.now e c.in-Some-2.made
    c.requires.few c.in-Some.ensures.0 c.in-Some.ensures.1 c.in-Some-number.ensures.0 c.in-Some-number.ensures.1 c.in-Some-behind.ensures at made.1 p)
    c.shows_map.ensures
