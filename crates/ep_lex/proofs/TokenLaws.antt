-- The tokens of a text, by its pieces.
use Rattle.std.proofs.Common.{◌≡◌, ℕ, zero, suc, ◌+◌, ◌-◌, ◌≤◌, List, [], ◌∷◌, ◌++◌, length, take, drop, map, Some, refl, sym, ap, ◌∙◌, subst, arith, append_assoc, length-append}
use Rattle.std.specs.Prelude.{IsTrue, slice_get, slice_range}
use Rattle.std.proofs.lemmas.List.{append-nil}
use Rattle.std.proofs.Math.Seq.{take-append_seam, drop-append_seam}
use Rattle.ep_lex.specs.declared.token.PieceKind.{PieceKind}
use Rattle.ep_lex.specs.declared.token.PieceKind.TheVariants.{Blank, Comment, Spelling}
use Rattle.ep_lex.specs.declared.token.TokenKind.{TokenKind}
use Rattle.ep_lex.specs.declared.token.Token.{Token}
use Rattle.ep_lex.specs.Pieces.{is_piece, Piece, Split}
use Rattle.ep_lex.specs.Tokens.{token_behind, tokens_behind, line_behind, AreTokens, Lexed, AreLexed, spelling, spellings}
use Rattle.ep_lex.proofs.Scanned.{Split-same}
use Rattle.ep_lex.proofs.Prefixes.{joined}

-- A text has one list of tokens.
pub tokens-unique : (bytes : List ℕ) (ts us : List Token) → AreTokens bytes ts → AreTokens bytes us → ts ≡ us
tokens-unique bytes ts us t u = t.tokens_are ∙ ap (tokens_behind []) (Split-same bytes t.pieces u.pieces t.split u.split) ∙ sym u.tokens_are

pub lexed-unique : (bytes : List ℕ) (f g : Lexed) → AreLexed bytes f → AreLexed bytes g → f ≡ g
lexed-unique bytes f g p q =
    let tokens = tokens-unique bytes f.tokens g.tokens p.tokens q.tokens in
    let line = p.end_line ∙ sym q.end_line in
    λ i. record { tokens = tokens i; end_line = line i }

pub tokens_behind-append : (before : List ℕ) (ps qs : List Piece) → tokens_behind before (ps ++ qs) ≡ tokens_behind before ps ++ tokens_behind (before ++ joined ps) qs
tokens_behind-append before [] qs = ap (λ z. tokens_behind z qs) (sym (append-nil before))
tokens_behind-append before (p ∷ ps) qs =
    ap (λ z. token_behind before p.kind p.text ++ z) (tokens_behind-append (before ++ p.text) ps qs
    ∙ ap (λ z. tokens_behind (before ++ p.text) ps ++ tokens_behind z qs) (append_assoc before p.text (joined ps)))
    ∙ sym (append_assoc (token_behind before p.kind p.text) (tokens_behind (before ++ p.text) ps) (tokens_behind (before ++ (p.text ++ joined ps)) qs))

-- a token lies within the bytes, and its bytes there are a spelling of its kind
pub record IsSpelled (bytes : List ℕ) (t : Token) : Type 0 where
  pub within : t.start + t.len ≤ length bytes
  pub spelled : IsTrue (is_piece (Spelling t.kind) (spelling bytes t))

slice_range-seam : (xs ys zs : List ℕ) → slice_range (xs ++ (ys ++ zs)) (length xs) (length xs + length ys) ≡ ys
slice_range-seam xs ys zs =
    let n : (length xs + length ys) - length xs ≡ length ys = omega arith in
    ap (λ k. take k (drop (length xs) (xs ++ (ys ++ zs)))) n ∙ ap (take (length ys)) (drop-append_seam xs (ys ++ zs)) ∙ take-append_seam ys zs

-- the bytes of a piece that is a spelling
abbrev pub text_of : PieceKind → List ℕ → List (List ℕ)
text_of Blank text = []
text_of Comment text = []
text_of (Spelling kind) text = text ∷ []

abbrev pub texts_of : List Piece → List (List ℕ)
texts_of [] = []
texts_of (p ∷ ps) = text_of p.kind p.text ++ texts_of ps

-- the bytes of the tokens are the texts of the spellings among the pieces
spellings_behind : (before rest : List ℕ) (ps : List Piece) → Split rest ps → map (spelling (before ++ rest)) (tokens_behind before ps) ≡ texts_of ps
spellings_behind before rest [] s = refl
spellings_behind before rest (p ∷ ps) s =
    by_kind p.kind (ap (λ z. map (spelling z) (tokens_behind (before ++ p.text) ps)) same ∙ spellings_behind (before ++ p.text) s.0 ps s.4)
  where
    same : before ++ rest ≡ (before ++ p.text) ++ s.0
    same = ap (λ z. before ++ z) s.1 ∙ sym (append_assoc before p.text s.0)

    here : slice_range (before ++ rest) (length before) (length before + length p.text) ≡ p.text
    here = ap (λ z. slice_range (before ++ z) (length before) (length before + length p.text)) s.1 ∙ slice_range-seam before p.text s.0

    by_kind : (k : PieceKind) → map (spelling (before ++ rest)) (tokens_behind (before ++ p.text) ps) ≡ texts_of ps
        → map (spelling (before ++ rest)) (token_behind before k p.text ++ tokens_behind (before ++ p.text) ps) ≡ text_of k p.text ++ texts_of ps
    by_kind Blank behind = behind
    by_kind Comment behind = behind
    by_kind (Spelling k) behind = ap (λ z. z ∷ map (spelling (before ++ rest)) (tokens_behind (before ++ p.text) ps)) here ∙ ap (λ z. p.text ∷ z) behind

pub spellings-are : (bytes : List ℕ) (ts : List Token) (ps : List Piece) → AreTokens bytes ts → Split bytes ps → spellings bytes ts ≡ texts_of ps
spellings-are bytes ts ps t s =
    ap (spellings bytes) t.tokens_are ∙ spellings_behind [] bytes t.pieces t.split ∙ ap texts_of (Split-same bytes t.pieces ps t.split s)

spelled_behind : (before rest : List ℕ) (ps : List Piece) → Split rest ps → (i : ℕ) (t : Token) → slice_get (tokens_behind before ps) i ≡ Some t → IsSpelled (before ++ rest) t
spelled_behind before rest [] s i t e = absurd (cc)
spelled_behind before rest (p ∷ ps) s i t e =
    by_kind p.kind s.2 i e (λ j g. subst (λ z. IsSpelled z t) (sym same) (spelled_behind (before ++ p.text) s.0 ps s.4 j t g))
  where
    same : before ++ rest ≡ (before ++ p.text) ++ s.0
    same = ap (λ z. before ++ z) s.1 ∙ sym (append_assoc before p.text s.0)

    here : slice_range (before ++ rest) (length before) (length before + length p.text) ≡ p.text
    here = ap (λ z. slice_range (before ++ z) (length before) (length before + length p.text)) s.1 ∙ slice_range-seam before p.text s.0

    first : (k : TokenKind) → IsTrue (is_piece (Spelling k) p.text) → record { kind = k; start = length before; len = length p.text; line = line_behind before } ≡ t → IsSpelled (before ++ rest) t
    first k i g = subst (IsSpelled (before ++ rest)) g (record {
      within = omega (arith, ap length s.1, length-append before rest, length-append p.text s.0);
      spelled = subst (λ z. IsTrue (is_piece (Spelling k) z)) (sym here) i;
    })

    by_kind : (k : PieceKind) → IsTrue (is_piece k p.text) → (j : ℕ) → slice_get (token_behind before k p.text ++ tokens_behind (before ++ p.text) ps) j ≡ Some t
        → ((m : ℕ) → slice_get (tokens_behind (before ++ p.text) ps) m ≡ Some t → IsSpelled (before ++ rest) t) → IsSpelled (before ++ rest) t
    by_kind Blank i j g behind = behind j g
    by_kind Comment i j g behind = behind j g
    by_kind (Spelling k) i zero g behind = first k i (cc)
    by_kind (Spelling k) i (suc j) g behind = behind j g

-- Each token of a text is spelled there.
pub token-spelled : (bytes : List ℕ) (ts : List Token) → AreTokens bytes ts → (i : ℕ) (t : Token) → slice_get ts i ≡ Some t → IsSpelled bytes t
token-spelled bytes ts a i t e = spelled_behind [] bytes a.pieces a.split i t (ap (λ z. slice_get z i) (sym a.tokens_are) ∙ e)
