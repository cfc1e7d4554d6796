-- Pieces that stand in turn before the rest of a text.
use Rattle.std.proofs.Common.{◌≡◌, ℕ, ◌+◌, List, [], ◌∷◌, ◌++◌, length, refl, sym, ap, ◌∙◌, subst, arith, append_assoc, length-append}
use Rattle.std.specs.Prelude.{IsTrue}
use Rattle.std.proofs.lemmas.List.{append-nil}
use Rattle.ep_lex.specs.Pieces.{is_piece, ends, Piece, Split, IsStray}
use Rattle.ep_lex.proofs.Splits.{stray_more}

-- the bytes that the pieces make up
abbrev pub joined : List Piece → List ℕ
joined [] = []
joined (p ∷ ps) = p.text ++ joined ps

-- each is a piece that what follows does not go on with
abbrev pub StandBefore : List Piece → List ℕ → Type 0
StandBefore [] rest = Unit {0}
StandBefore (p ∷ ps) rest = IsTrue (is_piece p.kind p.text) × IsTrue (ends p.kind p.text (joined ps ++ rest)) × StandBefore ps rest

pub joined-push : (ps : List Piece) (p : Piece) → joined (ps ++ p ∷ []) ≡ joined ps ++ p.text
joined-push [] p = append-nil p.text
joined-push (q ∷ qs) p = ap (λ z. q.text ++ z) (joined-push qs p) ∙ sym (append_assoc q.text (joined qs) p.text)

pub StandBefore-push : (ps : List Piece) (p : Piece) (rest : List ℕ) → StandBefore ps (p.text ++ rest)
    → IsTrue (is_piece p.kind p.text) → IsTrue (ends p.kind p.text rest) → StandBefore (ps ++ p ∷ []) rest
StandBefore-push [] p rest s i e = (i, e, tt)
StandBefore-push (q ∷ qs) p rest s i e =
    let same : joined (qs ++ p ∷ []) ++ rest ≡ joined qs ++ (p.text ++ rest) = ap (λ z. z ++ rest) (joined-push qs p) ∙ append_assoc (joined qs) p.text rest in
    (s.0, subst (λ z. IsTrue (ends q.kind q.text z)) (sym same) s.1, StandBefore-push qs p rest s.2 i e)

-- pieces to the end of the text are a split of it
pub StandBefore-split : (ps : List Piece) → StandBefore ps [] → Split (joined ps) ps
StandBefore-split [] s = refl
StandBefore-split (p ∷ ps) s =
    (joined ps, refl, s.0, subst (λ z. IsTrue (ends p.kind p.text z)) (append-nil (joined ps)) s.1, StandBefore-split ps s.2)

-- what is stray in the rest is stray in the text
pub StandBefore-stray : (ps : List Piece) (rest : List ℕ) (k : ℕ) → StandBefore ps rest → IsStray rest k → IsStray (joined ps ++ rest) (length (joined ps) + k)
StandBefore-stray [] rest k s w = let z : 0 + k ≡ k = omega arith in subst (λ n. IsStray rest n) (sym z) w
StandBefore-stray (p ∷ ps) rest k s w =
    let n : length p.text + (length (joined ps) + k) ≡ length (p.text ++ joined ps) + k = omega (arith, length-append p.text (joined ps)) in
    subst (λ m. IsStray ((p.text ++ joined ps) ++ rest) m) n
    (stray_more p ((p.text ++ joined ps) ++ rest) (joined ps ++ rest) (length (joined ps) + k) (append_assoc p.text (joined ps) rest) s.0 s.1
    (StandBefore-stray ps rest k s.2 w))
