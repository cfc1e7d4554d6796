-- The texts of lists of marks.
use Rattle.std.proofs.Common.{◌≡◌, suc, List, [], ◌∷◌, ◌++◌, length, refl, ap}
use Rattle.ep_tree.specs.Marks.{Mark, texts}

pub texts-append : (xs ys : List Mark) → texts (xs ++ ys) ≡ texts xs ++ texts ys
texts-append [] ys = refl
texts-append (x ∷ xs) ys = ap (λ ts. x.text ∷ ts) (texts-append xs ys)

pub length-texts : (xs : List Mark) → length (texts xs) ≡ length xs
length-texts [] = refl
length-texts (x ∷ xs) = ap suc (length-texts xs)
