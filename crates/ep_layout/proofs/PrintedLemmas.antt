-- What is written of one list of tokens behind another.
use Rattle.std.proofs.Common.{◌≡◌, ℕ, suc, ◌+◌, ◌<◌, List, [], ◌∷◌, ◌++◌, length, map, drop, get_or, refl, sym, ap, ◌∙◌, drop-cons, add-one, Result, Ok, Err, OnOk}
use Rattle.std.specs.List.{flat_map}
use Rattle.ep_tree.specs.declared.terminal.Terminal.{Terminal}
use Rattle.ep_tree.specs.Marks.{Mark}
use Rattle.ep_tree.specs.Terminals.{text_of}
use Rattle.ep_layout.specs.Printing.{Printed, write, written}
use Rattle.ep_tree.specs.Spelling.{behind}

pub written-append : (p : Printed) (xs ys : List Mark) → written p (xs ++ ys) ≡ written (written p xs) ys
written-append p [] ys = refl
written-append p (x ∷ xs) ys = written-append (write p x.text) xs ys

pub ruleset printed = (written-append)

drop-next : {A : Type 0} (xs : List A) (i : ℕ) (x : A) → i < length xs → x ≡ get_or xs i x → drop i xs ≡ x ∷ drop (i + 1) xs
drop-next xs i x l e = drop-cons xs i x l ∙ ap (λ z. z ∷ drop (suc i) xs) (sym e) ∙ ap (λ n. x ∷ drop n xs) (sym (add-one i))

-- One item more: what is left makes the whole.
pub each-next : {A : Type 0} (f : A → List Mark) (xs : List A) (i : ℕ) (x : A) (p q whole : Printed) → i < length xs → x ≡ get_or xs i x
    → q ≡ written p (f x) → written p (flat_map f (drop i xs)) ≡ whole → written q (flat_map f (drop (i + 1) xs)) ≡ whole
each-next f xs i x p q whole l e w left =
    ap (λ z. written z (flat_map f (drop (i + 1) xs))) w ∙ sym (written-append p (f x) (flat_map f (drop (i + 1) xs)))
    ∙ ap (λ z. written p (flat_map f z)) (sym (drop-next xs i x l e)) ∙ left

pub behind-next : {A : Type 0} (t : Terminal) (f : A → List Mark) (xs : List A) (i : ℕ) (x : A) (p r q whole : Printed) → i < length xs → x ≡ get_or xs i x
    → r ≡ write p (text_of t) → q ≡ written r (f x) → written p (behind t (map f (drop i xs))) ≡ whole → written q (behind t (map f (drop (i + 1) xs))) ≡ whole
behind-next t f xs i x p r q whole l e v w left =
    ap (λ z. written z (behind t (map f (drop (i + 1) xs)))) (w ∙ ap (λ z. written z (f x)) v)
    ∙ sym (written-append (write p (text_of t)) (f x) (behind t (map f (drop (i + 1) xs))))
    ∙ ap (λ z. written p (behind t (map f z))) (sym (drop-next xs i x l e)) ∙ left

-- a token, and two lists behind it
pub written-headed : (start p q r : Printed) (m : Mark) (xs ys : List Mark) → p ≡ write start m.text → q ≡ written p xs → r ≡ written q ys → r ≡ written start (m ∷ (xs ++ ys))
written-headed start p q r m xs ys e f g =
    g ∙ ap (λ z. written z ys) (f ∙ ap (λ z. written z xs) e) ∙ sym (written-append (write start m.text) xs ys)

pub on_ok : {A E : Type 0} {P Q : Type 0} (r : Result A E) → (P → Q) → OnOk r P → OnOk r Q
on_ok (Ok x) f p = f p
on_ok (Err e) f p = tt
