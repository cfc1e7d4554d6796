-- A text has one front piece.
use Rattle.std.proofs.Common.{◌≡◌, ℕ, zero, suc, ◌≤◌, ◌<◌, Bool, true, false, cond, ◌&&◌, ◌||◌, ◌==◌, List, [], ◌∷◌, ◌++◌, length, Ok, Err, refl, sym, ap, ◌∙◌, subst, arith, append_assoc}
use Rattle.std.specs.Prelude.{not, nat_le, take_while}
use Rattle.std.proofs.lemmas.Bool.{false≢true, true≢false, eqb-true, eq-eqb, le-leb, leb-false, and_from}
use Rattle.std.proofs.lemmas.Bool.Decides.{nat_tests}
use Rattle.std.proofs.lemmas.List.Sums.{take_while-cons}
use Rattle.std.specs.List.{list_all}
use Rattle.ep_lex.specs.declared.token.TokenKind.TheVariants.{Word, Number, Mark}
use Rattle.ep_lex.specs.declared.token.PieceKind.{PieceKind}
use Rattle.ep_lex.specs.declared.token.PieceKind.TheVariants.{Blank, Comment, Spelling}
use Rattle.ep_lex.specs.Pieces.{is_blank, is_letter, is_digit, is_word_byte, is_comment_byte, is_mark_byte, is_mark, is_piece, stops, ends, is_equals, is_full_at, Begins, Piece, Split}
use Rattle.ep_lex.specs.Scan.{behind, Scanned, at_most, with_next, scan}

both : (a b : Bool) → (a && b) ≡ true → (a ≡ true) × (b ≡ true)
both true b e = (refl, e)
both false b e = absurd (false≢true e)

-- a front that passes, before what does not go on
take_while-append : (p : ℕ → Bool) (xs ys : List ℕ) → list_all p xs ≡ true → stops p ys ≡ true → (take_while p (xs ++ ys) ≡ xs) × (behind p (xs ++ ys) ≡ ys)
take_while-append p [] [] a s = (refl, refl)
take_while-append p [] (y ∷ ys) a s = by_test (p y) refl s
  where
    by_test : (b : Bool) → p y ≡ b → not b ≡ true → (take_while p (y ∷ ys) ≡ []) × (cond (p y) (behind p ys) (y ∷ ys) ≡ y ∷ ys)
    by_test true e h = absurd (false≢true h)
    by_test false e h = (take_while-cons p y ys ∙ ap (λ b. cond b (y ∷ take_while p ys) []) e, ap (λ b. cond b (behind p ys) (y ∷ ys)) e)
take_while-append p (x ∷ xs) ys a s =
    let h = both (p x) (list_all p xs) a in
    let r = take_while-append p xs ys h.1 s in
    (take_while-cons p x (xs ++ ys) ∙ ap (λ b. cond b (x ∷ take_while p (xs ++ ys)) []) h.0 ∙ ap (λ z. x ∷ z) r.0, ap (λ b. cond b (behind p (xs ++ ys)) (x ∷ (xs ++ ys))) h.0 ∙ r.1)

pub letter_alone : (b : ℕ) → is_letter b ≡ true → (is_blank b ≡ false) × ((b == 35) ≡ false)
letter_alone b e = (grind (arith, nat_tests), grind (arith, nat_tests))

pub digit_alone : (b : ℕ) → is_digit b ≡ true → (is_blank b ≡ false) × ((b == 35) ≡ false) × (is_letter b ≡ false)
digit_alone b e = (grind (arith, nat_tests), grind (arith, nat_tests), grind (arith, nat_tests))

mark_alone : (b : ℕ) → is_mark_byte b ≡ true → (is_blank b ≡ false) × ((b == 35) ≡ false) × (is_letter b ≡ false) × (is_digit b ≡ false) × ((b == 45) ≡ false)
mark_alone b e = (grind (arith, nat_tests), grind (arith, nat_tests), grind (arith, nat_tests), grind (arith, nat_tests), grind (arith, nat_tests))

-- a word or a number is no longer than it may be
at_most_fits : (k : ℕ) (s : PieceKind) (text rest : List ℕ) → length text ≤ k → at_most k s text rest ≡ Ok (s, text, rest)
at_most_fits k s text rest l = ap (λ b. cond b (Ok (s, text, rest)) (Err k)) (le-leb (length text) k l)

not_false : (b : Bool) → not b ≡ true → b ≡ false
not_false true e = absurd (false≢true e)
not_false false e = refl

-- The front piece is the one that is scanned.
scan_word : (b : ℕ) (bs rest : List ℕ) → is_letter b ≡ true → list_all is_word_byte bs ≡ true → length bs ≤ 63 → stops is_word_byte rest ≡ true
    → scan (b ∷ (bs ++ rest)) ≡ Ok (Spelling Word, b ∷ bs, rest)
scan_word b bs rest l a n s =
    let h = letter_alone b l in
    let r = take_while-append is_word_byte bs rest a s in
    rw (h.0, h.1, l, r.0, r.1) (at_most_fits 64 (Spelling Word) (b ∷ bs) rest (omega arith))

scan_number : (b : ℕ) (bs rest : List ℕ) → is_digit b ≡ true → list_all is_digit bs ≡ true → length bs ≤ 8 → stops is_digit rest ≡ true
    → scan (b ∷ (bs ++ rest)) ≡ Ok (Spelling Number, b ∷ bs, rest)
scan_number b bs rest l a n s =
    let h = digit_alone b l in
    let r = take_while-append is_digit bs rest a s in
    rw (h.0, h.1, h.2, l, r.0, r.1) (at_most_fits 9 (Spelling Number) (b ∷ bs) rest (omega arith))

hash_alone : (b : ℕ) → (b == 35) ≡ true → is_blank b ≡ false
hash_alone b e = grind (arith, nat_tests)

scan_comment : (b : ℕ) (bs rest : List ℕ) → (b == 35) ≡ true → list_all is_comment_byte bs ≡ true → stops is_comment_byte rest ≡ true
    → scan (b ∷ (bs ++ rest)) ≡ Ok (Comment, b ∷ bs, rest)
scan_comment b bs rest h a s = let r = take_while-append is_comment_byte bs rest a s in let q = hash_alone b h in rw (q, h, r.0, r.1) refl

colon_alone : (b : ℕ) → (b == 58) ≡ true → (is_blank b ≡ false) × ((b == 35) ≡ false) × (is_letter b ≡ false) × (is_digit b ≡ false)
colon_alone b e = (grind (arith, nat_tests), grind (arith, nat_tests), grind (arith, nat_tests), grind (arith, nat_tests))

dash_alone : (b : ℕ) → (b == 45) ≡ true → (is_blank b ≡ false) × ((b == 35) ≡ false) × (is_letter b ≡ false) × (is_digit b ≡ false) × ((b == 58) ≡ false)
dash_alone b e = (grind (arith, nat_tests), grind (arith, nat_tests), grind (arith, nat_tests), grind (arith, nat_tests), grind (arith, nat_tests))

next_other : (b w : ℕ) (rest : List ℕ) (alone : Scanned) → stops (λ c. c == w) rest ≡ true → with_next b w rest alone ≡ alone
next_other b w [] alone s = refl
next_other b w (c ∷ cs) alone s = let h = not_false (c == w) s in ap (λ t. cond t (Ok (Spelling Mark, b ∷ c ∷ [], cs)) alone) h

scan_colon : (b : ℕ) (rest : List ℕ) → (b == 58) ≡ true → stops is_equals rest ≡ true → scan (b ∷ rest) ≡ Ok (Spelling Mark, b ∷ [], rest)
scan_colon b rest e s = let h = colon_alone b e in rw (h.0, h.1, h.2, h.3, e) (next_other b 61 rest (Ok (Spelling Mark, b ∷ [], rest)) s)

scan_mark : (b : ℕ) (rest : List ℕ) → is_mark_byte b ≡ true → (b == 58) ≡ false → scan (b ∷ rest) ≡ Ok (Spelling Mark, b ∷ [], rest)
scan_mark b rest e d = let h = mark_alone b e in rw (e, h.0, h.1, h.2, h.3, d, h.4) refl

scan_assign : (b c : ℕ) (rest : List ℕ) → (b == 58) ≡ true → (c == 61) ≡ true → scan (b ∷ c ∷ rest) ≡ Ok (Spelling Mark, b ∷ c ∷ [], rest)
scan_assign b c rest e f = let h = colon_alone b e in rw (h.0, h.1, h.2, h.3, e, f) refl

scan_arrow : (b c : ℕ) (rest : List ℕ) → (b == 45) ≡ true → (c == 62) ≡ true → scan (b ∷ c ∷ rest) ≡ Ok (Spelling Mark, b ∷ c ∷ [], rest)
scan_arrow b c rest e f = let h = dash_alone b e in rw (h.0, h.1, h.2, h.3, h.4, e, f) refl

scan_one : (b : ℕ) (rest : List ℕ) (t : Bool) → (b == 58) ≡ t → is_mark_byte b ≡ true → (not ((b == 58) && true) || stops is_equals rest) ≡ true
    → scan (b ∷ rest) ≡ Ok (Spelling Mark, b ∷ [], rest)
scan_one b rest true e m s = scan_colon b rest e (ends_with (b == 58) (stops is_equals rest) e s)
  where
    ends_with : (x y : Bool) → x ≡ true → (not (x && true) || y) ≡ true → y ≡ true
    ends_with true y e s = s
    ends_with false y e s = absurd (false≢true e)
scan_one b rest false e m s = scan_mark b rest m e

scan_two : (b c : ℕ) (rest : List ℕ) (t : Bool) → (b == 58) ≡ t → ((b == 58 && c == 61) || (b == 45 && c == 62)) ≡ true → scan (b ∷ c ∷ rest) ≡ Ok (Spelling Mark, b ∷ c ∷ [], rest)
scan_two b c rest true e m = let f : (c == 61) ≡ true = grind (arith, nat_tests) in scan_assign b c rest e f
scan_two b c rest false e m = let f : (b == 45) ≡ true = grind (arith, nat_tests) in let g : (c == 62) ≡ true = grind (arith, nat_tests) in scan_arrow b c rest f g

small : (a k : ℕ) → nat_le a k ≡ true → a ≤ k
small a k e = grind (arith, nat_tests)

-- A piece that what follows does not go on with is the one that is scanned, so there is no other.
pub scan_piece : (s : PieceKind) (text rest : List ℕ) → is_piece s text ≡ true → ends s text rest ≡ true → scan (text ++ rest) ≡ Ok (s, text, rest)
scan_piece s [] rest p e = absurd (false≢true p)
scan_piece Blank (b ∷ []) rest p e = let h = both (is_blank b) true p in rw h.0 refl
scan_piece Blank (b ∷ c ∷ bs) rest p e = let h = both (is_blank b) (length (c ∷ bs) == 0) p in absurd (omega (arith, eqb-true (length (c ∷ bs)) 0 h.1))
scan_piece Comment (b ∷ bs) rest p e = let h = both (b == 35) (list_all is_comment_byte bs) p in scan_comment b bs rest h.0 h.1 e
scan_piece (Spelling Word) (b ∷ bs) rest p e =
    let h = both (is_letter b && list_all is_word_byte bs) (nat_le (length bs) 63) p in
    let g = both (is_letter b) (list_all is_word_byte bs) h.0 in scan_word b bs rest g.0 g.1 (small (length bs) 63 h.1) e
scan_piece (Spelling Number) (b ∷ bs) rest p e =
    let h = both (is_digit b && list_all is_digit bs) (nat_le (length bs) 8) p in
    let g = both (is_digit b) (list_all is_digit bs) h.0 in scan_number b bs rest g.0 g.1 (small (length bs) 8 h.1) e
scan_piece (Spelling Mark) (b ∷ []) rest p e = scan_one b rest (b == 58) refl p e
scan_piece (Spelling Mark) (b ∷ c ∷ []) rest p e = scan_two b c rest (b == 58) refl p
scan_piece (Spelling Mark) (b ∷ c ∷ d ∷ bs) rest p e = absurd (false≢true p)

pub never_empty : (s : PieceKind) (text rest : List ℕ) → text ++ rest ≡ [] → is_piece s text ≡ true → ⊥
never_empty s [] rest e p = false≢true p
never_empty s (b ∷ bs) rest e p = let h : b ∷ (bs ++ rest) ≡ [] = e in cc

one_scan : (r : Scanned) (k l : PieceKind) (xs ys us vs : List ℕ) → r ≡ Ok (k, xs, us) → r ≡ Ok (l, ys, vs) → (k ≡ l) × (xs ≡ ys) × (us ≡ vs)
one_scan r k l xs ys us vs e f =
    let one : ◌≡◌ {A = PieceKind × List ℕ × List ℕ} (k, xs, us) (l, ys, vs) = cc in
    (ap (λ z. z.0) one, ap (λ z. z.1) one, ap (λ z. z.2) one)

-- A text has one split.
pub Split-same : (bytes : List ℕ) (ps qs : List Piece) → Split bytes ps → Split bytes qs → ps ≡ qs
Split-same bytes [] [] s t = refl
Split-same bytes [] (q ∷ qs) s t = absurd (never_empty q.kind q.text t.0 (sym t.1 ∙ s) t.2)
Split-same bytes (p ∷ ps) [] s t = absurd (never_empty p.kind p.text s.0 (sym s.1 ∙ t) s.2)
Split-same bytes (p ∷ ps) (q ∷ qs) s t =
    let a : scan bytes ≡ Ok (p.kind, p.text, s.0) = ap scan s.1 ∙ scan_piece p.kind p.text s.0 s.2 s.3 in
    let b : scan bytes ≡ Ok (q.kind, q.text, t.0) = ap scan t.1 ∙ scan_piece q.kind q.text t.0 t.2 t.3 in
    let same = one_scan (scan bytes) p.kind q.kind p.text q.text s.0 t.0 a b in
    let rest = Split-same t.0 ps qs (subst (λ z. Split z ps) same.2 s.4) t.4 in
    let piece : p ≡ q = ap (λ z. record { kind = z; text = p.text }) same.0 ∙ ap (λ z. record { kind = q.kind; text = z }) same.1 in
    ap (λ z. z ∷ ps) piece ∙ ap (λ z. q ∷ z) rest

Spans : (ℕ → Bool) → List ℕ → List ℕ → List ℕ → Type 0
Spans p bs xs ys = (list_all p xs ≡ true) × (stops p ys ≡ true) × (bs ≡ xs ++ ys)

spans_more : (p : ℕ → Bool) (b : ℕ) (bs xs ys : List ℕ) (t : Bool) → p b ≡ t → Spans p bs xs ys → Spans p (b ∷ bs) (cond t (b ∷ xs) []) (cond t ys (b ∷ bs))
unfolding Spans
spans_more p b bs xs ys true e s = (rw e s.0, s.1, ap (λ z. b ∷ z) s.2)
spans_more p b bs xs ys false e s = (refl, ap not e, refl)

spans : (p : ℕ → Bool) (bs : List ℕ) → Spans p bs (take_while p bs) (behind p bs)
unfolding Spans
spans p [] = (refl, refl, refl)
spans p (b ∷ bs) = subst (λ z. Spans p (b ∷ bs) z (behind p (b ∷ bs))) (sym (take_while-cons p b bs)) (spans_more p b bs (take_while p bs) (behind p bs) (p b) refl (spans p bs))

-- what a scan says
abbrev pub IsScanned : List ℕ → Scanned → Type 0
IsScanned bs (Ok x) = (bs ≡ x.1 ++ x.2) × (is_piece x.0 x.1 ≡ true) × (ends x.0 x.1 x.2 ≡ true)
IsScanned bs (Err zero) = Begins bs → ⊥
IsScanned bs (Err (suc k)) = (s : PieceKind) × (text : List ℕ) × (c : ℕ) × (rest : List ℕ)
    × (bs ≡ text ++ c ∷ rest) × (length text ≡ suc k) × (is_piece s text ≡ true) × (is_full_at s (length text) c ≡ true)

branch : (bs : List ℕ) (t : Bool) (x y : Scanned) → (t ≡ true → IsScanned bs x) → (t ≡ false → IsScanned bs y) → IsScanned bs (cond t x y)
branch bs true x y p q = p refl
branch bs false x y p q = q refl

-- no piece begins with the byte
nothing : (b : ℕ) (bs : List ℕ) → is_blank b ≡ false → (b == 35) ≡ false → is_letter b ≡ false → is_digit b ≡ false
    → ((text : List ℕ) (rest : List ℕ) → b ∷ bs ≡ text ++ rest → is_mark text ≡ true → ⊥) → Begins (b ∷ bs) → ⊥
nothing b bs d0 d1 d2 d3 no_mark (s, [], rest, e, p) = false≢true p
nothing b bs d0 d1 d2 d3 no_mark (Blank, c ∷ cs, rest, e, p) =
    let h : b ∷ bs ≡ c ∷ (cs ++ rest) = e in let same : b ≡ c = cc in false≢true (sym d0 ∙ ap is_blank same ∙ (both (is_blank c) (length cs == 0) p).0)
nothing b bs d0 d1 d2 d3 no_mark (Comment, c ∷ cs, rest, e, p) =
    let h : b ∷ bs ≡ c ∷ (cs ++ rest) = e in let same : b ≡ c = cc in false≢true (sym d1 ∙ ap (λ z. z == 35) same ∙ (both (c == 35) (list_all is_comment_byte cs) p).0)
nothing b bs d0 d1 d2 d3 no_mark (Spelling Word, c ∷ cs, rest, e, p) =
    let h : b ∷ bs ≡ c ∷ (cs ++ rest) = e in let same : b ≡ c = cc in
    false≢true (sym d2 ∙ ap is_letter same ∙ (both (is_letter c) (list_all is_word_byte cs) (both (is_letter c && list_all is_word_byte cs) (nat_le (length cs) 63) p).0).0)
nothing b bs d0 d1 d2 d3 no_mark (Spelling Number, c ∷ cs, rest, e, p) =
    let h : b ∷ bs ≡ c ∷ (cs ++ rest) = e in let same : b ≡ c = cc in
    false≢true (sym d3 ∙ ap is_digit same ∙ (both (is_digit c) (list_all is_digit cs) (both (is_digit c && list_all is_digit cs) (nat_le (length cs) 8) p).0).0)
nothing b bs d0 d1 d2 d3 no_mark (Spelling Mark, c ∷ cs, rest, e, p) = no_mark (c ∷ cs) rest e p

-- a list longer than n, cut before its byte n
cut : (p : ℕ → Bool) (n : ℕ) (xs : List ℕ) → n < length xs → list_all p xs ≡ true
    → (t : List ℕ) × (c : ℕ) × (d : List ℕ) × (xs ≡ t ++ c ∷ d) × (length t ≡ n) × (list_all p t ≡ true) × (p c ≡ true)
cut p n [] l a = absurd (omega arith)
cut p zero (x ∷ xs) l a = ([], x, xs, refl, refl, refl, (both (p x) (list_all p xs) a).0)
cut p (suc n) (x ∷ xs) l a =
    let h = both (p x) (list_all p xs) a in
    let r = cut p n xs (omega arith) h.1 in
    (x ∷ r.0, r.1, r.2, ap (λ z. x ∷ z) r.3, ap suc r.4, and_from (p x) (list_all p r.0) h.0 r.5, r.6)

scanned_word : (b : ℕ) (bs xs ys : List ℕ) → is_letter b ≡ true → Spans is_word_byte bs xs ys → IsScanned (b ∷ bs) (at_most 64 (Spelling Word) (b ∷ xs) ys)
unfolding Spans
scanned_word b bs xs ys l s = branch (b ∷ bs) (nat_le (length (b ∷ xs)) 64) _ _
    (λ e. let n : length xs ≤ 63 = omega (arith, small (length (b ∷ xs)) 64 e) in
    (ap (λ z. b ∷ z) s.2, and_from (is_letter b && list_all is_word_byte xs) (nat_le (length xs) 63) (and_from (is_letter b) (list_all is_word_byte xs) l s.0) (le-leb (length xs) 63 n), s.1))
    (λ e. let n : 63 < length xs = omega (arith, leb-false (length (b ∷ xs)) 64 e) in
    let r = cut is_word_byte 63 xs n s.0 in (
      Spelling Word,
      b ∷ r.0,
      r.1,
      r.2 ++ ys,
      ap (λ z. b ∷ z) (s.2 ∙ ap (λ z. z ++ ys) r.3 ∙ append_assoc r.0 (r.1 ∷ r.2) ys),
      ap suc r.4,
      and_from (is_letter b && list_all is_word_byte r.0) (nat_le (length r.0) 63) (and_from (is_letter b) (list_all is_word_byte r.0) l r.5) (le-leb (length r.0) 63 (omega (arith, r.4))),
      and_from (length (b ∷ r.0) == 64) (is_word_byte r.1) (eq-eqb (length (b ∷ r.0)) 64 (omega (arith, r.4))) r.6,
    ))

scanned_number : (b : ℕ) (bs xs ys : List ℕ) → is_digit b ≡ true → Spans is_digit bs xs ys → IsScanned (b ∷ bs) (at_most 9 (Spelling Number) (b ∷ xs) ys)
unfolding Spans
scanned_number b bs xs ys l s = branch (b ∷ bs) (nat_le (length (b ∷ xs)) 9) _ _
    (λ e. let n : length xs ≤ 8 = omega (arith, small (length (b ∷ xs)) 9 e) in
    (ap (λ z. b ∷ z) s.2, and_from (is_digit b && list_all is_digit xs) (nat_le (length xs) 8) (and_from (is_digit b) (list_all is_digit xs) l s.0) (le-leb (length xs) 8 n), s.1))
    (λ e. let n : 8 < length xs = omega (arith, leb-false (length (b ∷ xs)) 9 e) in
    let r = cut is_digit 8 xs n s.0 in (
      Spelling Number,
      b ∷ r.0,
      r.1,
      r.2 ++ ys,
      ap (λ z. b ∷ z) (s.2 ∙ ap (λ z. z ++ ys) r.3 ∙ append_assoc r.0 (r.1 ∷ r.2) ys),
      ap suc r.4,
      and_from (is_digit b && list_all is_digit r.0) (nat_le (length r.0) 8) (and_from (is_digit b) (list_all is_digit r.0) l r.5) (le-leb (length r.0) 8 (omega (arith, r.4))),
      and_from (length (b ∷ r.0) == 9) (is_digit r.1) (eq-eqb (length (b ∷ r.0)) 9 (omega (arith, r.4))) r.6,
    ))

or_true : (x : Bool) → (x || true) ≡ true
or_true true = refl
or_true false = refl

scanned_colon : (b : ℕ) (bs : List ℕ) → (b == 58) ≡ true → IsScanned (b ∷ bs) (with_next b 61 bs (Ok (Spelling Mark, b ∷ [], bs)))
scanned_colon b [] e = (refl, (let m : is_mark_byte b ≡ true = grind (arith, nat_tests) in m), or_true (not (b == 58 && true)))
scanned_colon b (c ∷ cs) e = branch (b ∷ c ∷ cs) (c == 61) _ _
    (λ f. (refl, (rw (e, f) refl), rw e refl))
    (λ f. (refl, (let m : is_mark_byte b ≡ true = grind (arith, nat_tests) in m), rw (e, f) refl))

-- a mark of one byte that begins here is this byte
one_or_two : (b : ℕ) (bs : List ℕ) → is_mark_byte b ≡ false → ((c : ℕ) (cs : List ℕ) → bs ≡ c ∷ cs → ((b == 58 && c == 61) || (b == 45 && c == 62)) ≡ false)
    → (text rest : List ℕ) → b ∷ bs ≡ text ++ rest → is_mark text ≡ true → ⊥
one_or_two b bs d two [] rest e m = false≢true m
one_or_two b bs d two (t ∷ []) rest e m = let h : b ∷ bs ≡ t ∷ rest = e in let same : b ≡ t = cc in false≢true (sym d ∙ ap is_mark_byte same ∙ m)
one_or_two b bs d two (t ∷ u ∷ []) rest e m =
    let h : b ∷ bs ≡ t ∷ u ∷ rest = e in let same : b ≡ t = cc in let tail : bs ≡ u ∷ rest = cc in
    false≢true (sym (two u rest tail) ∙ ap (λ z. (z == 58 && u == 61) || (z == 45 && u == 62)) same ∙ m)
one_or_two b bs d two (t ∷ u ∷ v ∷ ts) rest e m = false≢true m

dash_no_mark : (b : ℕ) → (b == 45) ≡ true → is_mark_byte b ≡ false
dash_no_mark b e = grind (arith, nat_tests)

scanned_dash : (b : ℕ) (bs : List ℕ) → (b == 45) ≡ true → IsScanned (b ∷ bs) (with_next b 62 bs (Err 0))
scanned_dash b [] e = let h = dash_alone b e in
    nothing b [] h.0 h.1 h.2 h.3 (one_or_two b [] (dash_no_mark b e) (λ c cs q. absurd (cc)))
scanned_dash b (c ∷ cs) e = branch (b ∷ c ∷ cs) (c == 62) _ _
    (λ f. let h = dash_alone b e in (refl, rw (h.4, e, f) refl, rw h.4 refl))
    (λ f. let h = dash_alone b e in nothing b (c ∷ cs) h.0 h.1 h.2 h.3
    (one_or_two b (c ∷ cs) (dash_no_mark b e) (λ d ds q. let same : c ≡ d = cc in let g : (d == 62) ≡ false = ap (λ z. z == 62) (sym same) ∙ f in rw (h.4, e, g) refl)))

-- What a scan gives is a piece that goes no further, and where it gives none, none begins or a full one goes on.
pub scan_is : (bs : List ℕ) → IsScanned bs (scan bs)
unfolding Spans
scan_is [] = λ s. never_empty s.0 s.1 s.2 (sym s.3) s.4
scan_is (b ∷ bs) =
    branch (b ∷ bs) (is_blank b) _ _ (λ e. (refl, rw e refl, refl)) (λ d0.
    branch (b ∷ bs) (b == 35) _ _ (λ e. let s = spans_no_feed bs in (ap (λ z. b ∷ z) s.2, rw e s.0, s.1)) (λ d1.
    branch (b ∷ bs) (is_letter b) _ _ (λ e. scanned_word b bs _ _ e (spans is_word_byte bs)) (λ d2.
    branch (b ∷ bs) (is_digit b) _ _ (λ e. scanned_number b bs _ _ e (spans is_digit bs)) (λ d3.
    branch (b ∷ bs) (b == 58) _ _ (λ e. scanned_colon b bs e) (λ d4.
    branch (b ∷ bs) (b == 45) _ _ (λ e. scanned_dash b bs e) (λ d5.
    branch (b ∷ bs) (is_mark_byte b) (Ok (Spelling Mark, b ∷ [], bs)) (Err 0) (λ e. (refl, e, ends_other (b == 58) (stops is_equals bs) d4))
    (λ d6. nothing b bs d0 d1 d2 d3 (one_or_two b bs d6 (λ c cs q. neither (b == 58) (b == 45) (c == 61) (c == 62) d4 d5)))))))))
  where
    spans_no_feed : (bs : List ℕ) → (list_all is_comment_byte (take_while is_comment_byte bs) ≡ true) × (stops is_comment_byte (behind is_comment_byte bs) ≡ true) × (bs ≡ take_while is_comment_byte bs ++ behind is_comment_byte bs)
    spans_no_feed bs = spans is_comment_byte bs

    ends_other : (x y : Bool) → x ≡ false → (not (x && true) || y) ≡ true
    ends_other true y e = absurd (true≢false e)
    ends_other false y e = refl

    neither : (x y u v : Bool) → x ≡ false → y ≡ false → ((x && u) || (y && v)) ≡ false
    neither true y u v e f = absurd (true≢false e)
    neither false true u v e f = absurd (true≢false f)
    neither false false u v e f = refl

pub take_while-append_all : (p : ℕ → Bool) (xs ys : List ℕ) → list_all p xs ≡ true → take_while p (xs ++ ys) ≡ xs ++ take_while p ys
take_while-append_all p [] ys a = refl
take_while-append_all p (x ∷ xs) ys a =
    let h = both (p x) (list_all p xs) a in
    take_while-cons p x (xs ++ ys) ∙ ap (λ b. cond b (x ∷ take_while p (xs ++ ys)) []) h.0 ∙ ap (λ z. x ∷ z) (take_while-append_all p xs ys h.1)

pub take_while-first : (p : ℕ → Bool) (c : ℕ) (r : List ℕ) → p c ≡ true → take_while p (c ∷ r) ≡ c ∷ take_while p r
take_while-first p c r e = take_while-cons p c r ∙ ap (λ b. cond b (c ∷ take_while p r) []) e
