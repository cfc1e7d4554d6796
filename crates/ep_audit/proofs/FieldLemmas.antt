-- The fields of a map.
use Rattle.std.proofs.Common.{◌≡◌, ◌≢◌, ℕ, ◌<◌, ◌≤◌, ◌^◌, false, ◌==◌, List, [], ◌∷◌, ◌++◌, length, map, All, Option, Some, None, refl, sym, ap, ◌∙◌, arith, append_assoc}
use Rattle.std.specs.List.{AllByRecursion, slice_split, join_with_byte}
use Rattle.std.proofs.lemmas.Bool.{ne_eqb}
use Rattle.std.proofs.lemmas.List.{map-append}
use Rattle.std.proofs.lemmas.List.Elements.{All-nil, All-cons, All-weaker}
use Rattle.std.proofs.lemmas.List.Splits.{slice_split_at, slice_split_none, join_with_byte-slice_split}
use Rattle.ep_audit.specs.Lines.{field, map_text}
use Rattle.ep_audit.specs.Shown.{IsBelow}
use Rattle.ep_audit.proofs.TextLemmas.{decimal_lacks}

-- the parts between commas
abbrev pub parts_of : List ℕ → List (List ℕ)
parts_of text = slice_split (λ b. b == 44) text

pub no_comma : (text : List ℕ) → All (λ b. b ≢ 44) text → All (λ b. (b == 44) ≡ false) text
no_comma text h = All-weaker (λ b. b ≢ 44) (λ b. (b == 44) ≡ false) (λ b k. ne_eqb b 44 k) text h

pub first_part : (text first after : List ℕ) → text ≡ first ++ 44 ∷ after → All (λ b. b ≢ 44) first → parts_of text ≡ first ∷ parts_of after
first_part text first after e h = ap parts_of e ∙ slice_split_at (λ b. b == 44) first 44 after (no_comma first h) refl

pub last_part : (text : List ℕ) → All (λ b. b ≢ 44) text → parts_of text ≡ text ∷ []
last_part text h = slice_split_none (λ b. b == 44) text (no_comma text h)

field_lacks : (most : ℕ) → most ≤ 2 ^ 32 → (f : Option ℕ) → IsBelow most f → All (λ b. b ≢ 44) (field f)
field_lacks most few None h = All-cons (λ b. b ≢ 44) 45 [] (λ e. absurd (omega (arith, e))) (All-nil (λ b. b ≢ 44))
field_lacks most few (Some v) h = decimal_lacks 44 (omega arith) v (omega (arith, h, few))

pub parts_of_map : (most : ℕ) → most ≤ 2 ^ 32 → (m : List (Option ℕ)) → 0 < length m → AllByRecursion (IsBelow most) m → parts_of (map_text m) ≡ map field m
parts_of_map most few [] some all = absurd (omega (arith, some))
parts_of_map most few (f ∷ []) some all = last_part (field f) (field_lacks most few f all.0)
parts_of_map most few (f ∷ g ∷ fs) some all =
    first_part (map_text (f ∷ g ∷ fs)) (field f) (map_text (g ∷ fs)) refl (field_lacks most few f all.0) ∙ ap (λ xs. field f ∷ xs) (parts_of_map most few (g ∷ fs) (omega arith) all.1)

-- what stands among the fields is a field
among : (most : ℕ) (m : List (Option ℕ)) (xs tail : List (List ℕ)) (x : List ℕ) → AllByRecursion (IsBelow most) m → map field m ≡ xs ++ x ∷ tail → (f : Option ℕ) × IsBelow most f × (x ≡ field f)
among most [] [] tail x all e = cc
among most [] (y ∷ xs) tail x all e = cc
among most (f ∷ m) [] tail x all e = (f, all.0, cc)
among most (f ∷ m) (y ∷ xs) tail x all e = among most m xs tail x all.1 (cc)

-- a text with a part that is no field is that of no map
pub no_map : (most : ℕ) → most ≤ 2 ^ 32 → (text x : List ℕ) (xs tail : List (List ℕ)) → parts_of text ≡ xs ++ x ∷ tail → ((f : Option ℕ) → IsBelow most f → x ≢ field f)
    → (m : List (Option ℕ)) → 0 < length m → AllByRecursion (IsBelow most) m → text ≢ map_text m
no_map most few text x xs tail parts never m some all e =
    let f = among most m xs tail x all (sym (parts_of_map most few m some all) ∙ ap parts_of (sym e) ∙ parts) in
    never f.0 f.1 f.2

-- the text of its parts
pub whole_map : (text : List ℕ) (m : List (Option ℕ)) → parts_of text ≡ map field m → text ≡ map_text m
whole_map text m e = sym (join_with_byte-slice_split 44 text) ∙ ap (join_with_byte 44) e

-- one more field
pub one_more : (text x : List ℕ) (m : List (Option ℕ)) (f : Option ℕ) (tail : List (List ℕ)) → parts_of text ≡ map field m ++ x ∷ tail → x ≡ field f → parts_of text ≡ map field (m ++ f ∷ []) ++ tail
one_more text x m f tail parts e =
    parts ∙ ap (λ y. map field m ++ y ∷ tail) e ∙ sym (append_assoc (map field m) (field f ∷ []) tail) ∙ ap (λ ys. ys ++ tail) (sym (map-append field m (f ∷ [])))
