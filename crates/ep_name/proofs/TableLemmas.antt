-- A table's texts at their places.
use Rattle.std.proofs.Common.{◌≡◌, ◌≢◌, ℕ, ◌+◌, ◌<◌, ◌^◌, Bool, true, false, cond, Option, None, Some, List, [], ◌∷◌, ◌++◌, length, All, refl, ap, ◌∙◌, sym, arith, subst, is_some}
use Rattle.std.specs.Prelude.{nat_eq, AllPairs}
use Rattle.std.specs.Global.{Vec}
use Rattle.std.specs.Cmp.Lexicographic.{pointwise, bytes_decides}
use Rattle.std.specs.Map.{lookup}
use Rattle.std.proofs.lemmas.Bool.{true≢false}
use Rattle.std.proofs.lemmas.List.{map-append, length-append}
use Rattle.std.proofs.lemmas.List.Elements.{All-nil, All-cons, All-head, All-tail, All-push}
use Rattle.std.proofs.lemmas.List.Quantifiers.{all_pairs_push}
use Rattle.ep_name.specs.Tables.{texts_of, IsTable}

abbrev Entry : Type 0
Entry = Vec ℕ × List ℕ

-- each text stands at itself
abbrev IsKeyed : List Entry → Type 0
IsKeyed es = All (λ e. e.0.items ≡ e.1) es

abbrev pub at : List ℕ → List Entry → Option (List ℕ)
at q es = lookup (λ k. pointwise nat_eq q k.items) es

module _ (q : List ℕ) where
  found-step : (x : List ℕ) (rest : Option (List ℕ)) (b : Bool) → (b ≡ true → q ≡ x) → (is_some rest ≡ true → rest ≡ Some q) →
      is_some (cond b (Some x) rest) ≡ true → cond b (Some x) rest ≡ Some q
  found-step x rest true same h k = ap Some (sym (same refl))
  found-step x rest false same h k = h k

  pub found : (es : List Entry) → IsKeyed es → is_some (at q es) ≡ true → at q es ≡ Some q
  found [] t h = absurd (true≢false (sym h))
  found (e ∷ es) t h =
      found-step e.1 (at q es) (pointwise nat_eq q e.0.items)
      (λ same. (bytes_decides q e.0.items).0 same ∙ All-head (λ e. e.0.items ≡ e.1) e es t)
      (found es (All-tail (λ e. e.0.items ≡ e.1) e es t)) h

  lacking-step : (x : List ℕ) (xs : List (List ℕ)) (rest : Option (List ℕ)) (b : Bool) → (q ≡ x → b ≡ true) → (is_some rest ≡ false → All (λ y. y ≢ q) xs) →
      is_some (cond b (Some x) rest) ≡ false → All (λ y. y ≢ q) (x ∷ xs)
  lacking-step x xs rest true same h k = absurd (true≢false k)
  lacking-step x xs rest false same h k = All-cons (λ y. y ≢ q) x xs (λ e. true≢false (sym (same (sym e)))) (h k)

  pub lacking : (es : List Entry) → IsKeyed es → is_some (at q es) ≡ false → All (λ y. y ≢ q) (texts_of es)
  lacking [] t h = All-nil (λ y. y ≢ q)
  lacking (e ∷ es) t h =
      lacking-step e.1 (texts_of es) (at q es) (pointwise nat_eq q e.0.items)
      (λ same. (bytes_decides q e.0.items).1 (same ∙ sym (All-head (λ e. e.0.items ≡ e.1) e es t)))
      (lacking es (All-tail (λ e. e.0.items ≡ e.1) e es t)) h

  absent-step : (x : List ℕ) (rest : Option (List ℕ)) (b : Bool) → (b ≡ true → q ≡ x) → x ≢ q → rest ≡ None → cond b (Some x) rest ≡ None
  absent-step x rest true same other h = absurd (other (sym (same refl)))
  absent-step x rest false same other h = h

  pub absent : (es : List Entry) → IsKeyed es → All (λ y. y ≢ q) (texts_of es) → at q es ≡ None
  absent [] t h = refl
  absent (e ∷ es) t h =
      absent-step e.1 (at q es) (pointwise nat_eq q e.0.items)
      (λ same. (bytes_decides q e.0.items).0 same ∙ All-head (λ e. e.0.items ≡ e.1) e es t)
      (All-head (λ y. y ≢ q) e.1 (texts_of es) h)
      (absent es (All-tail (λ e. e.0.items ≡ e.1) e es t) (All-tail (λ y. y ≢ q) e.1 (texts_of es) h))

pub texts-push : (es : List Entry) (e : Entry) → texts_of (es ++ e ∷ []) ≡ texts_of es ++ e.1 ∷ []
texts-push es e = map-append (λ e. e.1) es (e ∷ [])

apart-push : (xs : List (List ℕ)) (x : List ℕ) → AllPairs (λ y z. y ≢ z) xs → All (λ y. y ≢ x) xs → AllPairs (λ y z. y ≢ z) (xs ++ x ∷ [])
apart-push xs x h k = all_pairs_push (λ y z. y ≢ z) xs x h k

pub table-push : (es : List Entry) (e : Entry) → IsTable es → e.0.items ≡ e.1 → All (λ y. y ≢ e.1) (texts_of es) → length es + 1 < 2 ^ 32 → IsTable (es ++ e ∷ [])
table-push es e t h k l = (
  All-push (λ e. e.0.items ≡ e.1) es e t.0 h,
  subst (AllPairs (λ y z. y ≢ z)) (sym (texts-push es e)) (apart-push (texts_of es) e.1 t.1 k),
  let n = length-append es (e ∷ []) in omega arith,
)
