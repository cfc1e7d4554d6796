-- Scanning on gives the split, or the stray byte.
use Rattle.std.proofs.Common.{◌≡◌, ℕ, zero, suc, ◌+◌, ◌≤◌, ◌<◌, Bool, true, false, ◌==◌, ◌&&◌, ◌||◌, List, [], ◌∷◌, ◌++◌, length, take, drop, get_or, Result, Ok, Err, refl, sym, ap, ◌∙◌, subst, arith, ◌⊎◌, inl, inr, ⊎_elim, append_assoc, length-append}
use Rattle.std.proofs.Math.Seq.{take-append-add, drop-append-add}
use Rattle.std.proofs.lemmas.List.{take-append-drop, drop_more, length-take-le, append-nil, take_at, get_or_at, get_or-append-add}
use Rattle.std.proofs.lemmas.Bool.{false≢true, true≢false, and_parts, eqb-true, lt-leb}
use Rattle.std.proofs.lemmas.Bool.Decides.{nat_tests}
use Rattle.std.specs.Prelude.{not, nat_le, take_while, IfSome, IsSomeAnd, IsTrue}
use Rattle.std.specs.List.{list_all}
use Rattle.ep_lex.specs.declared.token.TokenKind.TheVariants.{Word, Number, Mark}
use Rattle.ep_lex.specs.declared.token.PieceKind.{PieceKind}
use Rattle.ep_lex.specs.declared.token.PieceKind.TheVariants.{Blank, Comment, Spelling}
use Rattle.ep_lex.specs.Pieces.{is_letter, is_digit, is_word_byte, is_mark_byte, is_equals, is_colon, is_piece, ends, is_full, is_full_at, is_comment, last_piece, Begins, Piece, Split, IsStray}
use Rattle.ep_lex.specs.Scan.{Scanned, scan, lengths}
use Rattle.ep_lex.proofs.Scanned.{IsScanned, scan_is, scan_piece, never_empty, letter_alone, digit_alone, take_while-append_all, take_while-first}

-- the pieces from a place on, or the place of the stray byte
abbrev pub before : Piece → Result (List Piece) ℕ → Result (List Piece) ℕ
before p (Ok ps) = Ok (p ∷ ps)
before p (Err k) = Err (length p.text + k)

abbrev pub split_on : Scanned → (List ℕ → Result (List Piece) ℕ) → Result (List Piece) ℕ
split_on (Ok x) go = before (record { kind = x.0; text = x.1 }) (go x.2)
split_on (Err k) go = Err k

unfoldable pub split : ℕ → List ℕ → Result (List Piece) ℕ
split zero bytes = Ok []
split (suc fuel) [] = Ok []
split (suc fuel) (b ∷ bs) = split_on (scan (b ∷ bs)) (split fuel)

pub long : (s : PieceKind) (text : List ℕ) → is_piece s text ≡ true → 1 ≤ length text
long s [] p = absurd (false≢true p)
long s (b ∷ bs) p = omega arith

ends-nil : (s : PieceKind) (text : List ℕ) → ends s text [] ≡ true
ends-nil Blank text = refl
ends-nil Comment text = refl
ends-nil (Spelling Word) text = refl
ends-nil (Spelling Number) text = refl
ends-nil (Spelling Mark) text = grind arith

ends-take : (s : PieceKind) (text : List ℕ) (j : ℕ) (r : List ℕ) → ends s text r ≡ true → ends s text (take j r) ≡ true
ends-take s text zero r e = ends-nil s text
ends-take s text (suc j) [] e = e
ends-take Blank text (suc j) (b ∷ bs) e = e
ends-take Comment text (suc j) (b ∷ bs) e = e
ends-take (Spelling Word) text (suc j) (b ∷ bs) e = e
ends-take (Spelling Number) text (suc j) (b ∷ bs) e = e
ends-take (Spelling Mark) text (suc j) (b ∷ bs) e = e

full_no_comment : (s : PieceKind) (n c : ℕ) → is_full_at s n c ≡ true → is_comment s ≡ false
full_no_comment Blank n c e = refl
full_no_comment Comment n c e = absurd (false≢true e)
full_no_comment (Spelling k) n c e = refl

-- the stray byte of a scan
pub scan_stray : (b : ℕ) (bs : List ℕ) (k : ℕ) → IsScanned (b ∷ bs) (Err k) → IsStray (b ∷ bs) k
scan_stray b bs zero s = record { within = omega arith; pieces = []; split = refl; no_comment = tt; why = inr s }
scan_stray b bs (suc k) (s, text, c, rest, e, l, p, f) =
    let t : take (suc k) (b ∷ bs) ≡ text = ap (take (suc k)) e ∙ take_at text (c ∷ rest) (suc k) l in
    let g : get_or (b ∷ bs) (suc k) 0 ≡ c = ap (λ z. get_or z (suc k) 0) e ∙ get_or_at text c rest 0 (suc k) l in
    record {
      within = omega (arith, l, ap length e, length-append text (c ∷ rest));
      pieces = record { kind = s; text = text } ∷ [];
      split = ([], t ∙ sym (append-nil text), p, ends-nil s text, refl);
      no_comment = full_no_comment s (length text) c f;
      why = inl (subst (λ z. is_full_at s (length text) z ≡ true) (sym g) f);
    }

feed : (b : ℕ) → not (not (b == 10)) ≡ true → is_piece Blank (b ∷ []) ≡ true
feed b y = grind (arith, nat_tests)

-- behind a comment stands a line feed
comment_blank : (s : PieceKind) (text r : List ℕ) → ends s text r ≡ true → 0 < length r → (Begins r → ⊥) → is_comment s ≡ false
comment_blank Blank text r e l d = refl
comment_blank (Spelling k) text r e l d = refl
comment_blank Comment text [] e l d = absurd (omega arith)
comment_blank Comment text (b ∷ bs) e l d = absurd (d (Blank, b ∷ [], bs, refl, feed b e))

-- no piece comes before the place, so it is the first
place_zero : (r : List ℕ) (k : ℕ) → k < length r → take k r ≡ [] → k ≡ 0
place_zero r zero l e = refl
place_zero [] (suc k) l e = absurd (omega arith)
place_zero (b ∷ bs) (suc k) l e = let h : b ∷ take k bs ≡ [] = e in absurd (cc)

first_no_comment : (p : Piece) (r : List ℕ) (k : ℕ) → ends p.kind p.text r ≡ true → (ps : List Piece) → k < length r → Split (take k r) ps
    → IsSomeAnd (last_piece ps) (λ q. is_full (get_or r k 0) q ≡ true) ⊎ (Begins (drop k r) → ⊥) → IfSome (last_piece ps) (λ q. is_comment q.kind ≡ false)
    → IfSome (last_piece (p ∷ ps)) (λ q. is_comment q.kind ≡ false)
first_no_comment p r k e [] l s (inl w) c = absurd w
first_no_comment p r k e [] l s (inr w) c =
    let z = place_zero r k l s in
    comment_blank p.kind p.text r e (omega arith) (subst (λ n. Begins (drop n r) → ⊥) z w)
first_no_comment p r k e (q ∷ qs) l s w c = c

why_more : (p : Piece) (bs r : List ℕ) (k : ℕ) (ps : List Piece) → bs ≡ p.text ++ r
    → IsSomeAnd (last_piece ps) (λ q. is_full (get_or r k 0) q ≡ true) ⊎ (Begins (drop k r) → ⊥)
    → IsSomeAnd (last_piece (p ∷ ps)) (λ q. is_full (get_or bs (length p.text + k) 0) q ≡ true) ⊎ (Begins (drop (length p.text + k) bs) → ⊥)
why_more p bs r k [] e (inl w) = absurd w
why_more p bs r k (q ∷ qs) e (inl w) =
    let g : get_or bs (length p.text + k) 0 ≡ get_or r k 0 = ap (λ z. get_or z (length p.text + k) 0) e ∙ get_or-append-add p.text r k 0 in
    inl (subst (λ c. IsSomeAnd (last_piece (q ∷ qs)) (λ q. is_full c q ≡ true)) (sym g) w)
why_more p bs r k ps e (inr w) = inr (λ b. w (subst Begins (ap (drop (length p.text + k)) e ∙ drop-append-add p.text r k) b))

pub stray_more : (p : Piece) (bs r : List ℕ) (k : ℕ) → bs ≡ p.text ++ r → is_piece p.kind p.text ≡ true → ends p.kind p.text r ≡ true → IsStray r k → IsStray bs (length p.text + k)
stray_more p bs r k e i d s = record {
  within = omega (arith, s.within, ap length e, length-append p.text r);
  pieces = p ∷ s.pieces;
  split = (take k r, ap (take (length p.text + k)) e ∙ take-append-add p.text r k, i, ends-take p.kind p.text k r d, s.split);
  no_comment = first_no_comment p r k d s.pieces s.within s.split s.why s.no_comment;
  why = why_more p bs r k s.pieces e s.why;
}

-- what scanning on says
abbrev pub IsSplit : List ℕ → Result (List Piece) ℕ → Type 0
IsSplit bs (Ok ps) = Split bs ps
IsSplit bs (Err k) = IsStray bs k

before_is : (p : Piece) (bs r : List ℕ) → bs ≡ p.text ++ r → is_piece p.kind p.text ≡ true → ends p.kind p.text r ≡ true → (q : Result (List Piece) ℕ) → IsSplit r q → IsSplit bs (before p q)
before_is p bs r e i d (Ok ps) s = (r, e, i, d, s)
before_is p bs r e i d (Err k) s = stray_more p bs r k e i d s

on_is : (b : ℕ) (bs : List ℕ) (r : Scanned) → IsScanned (b ∷ bs) r → (go : List ℕ → Result (List Piece) ℕ)
    → ((x : List ℕ) → length x ≤ length bs → IsSplit x (go x)) → IsSplit (b ∷ bs) (split_on r go)
on_is b bs (Ok x) s go g =
    let l : length x.2 ≤ length bs = omega (arith, ap length s.0, length-append x.1 x.2, long x.0 x.1 s.1) in
    before_is (record { kind = x.0; text = x.1 }) (b ∷ bs) x.2 s.0 s.1 s.2 (go x.2) (g x.2 l)
on_is b bs (Err k) s go g = scan_stray b bs k s

-- A text has a split or a stray byte, and scanning on finds it.
pub split_is : (fuel : ℕ) (bs : List ℕ) → length bs ≤ fuel → IsSplit bs (split fuel bs)
unfolding split
split_is zero [] l = refl
split_is zero (b ∷ bs) l = absurd (omega arith)
split_is (suc fuel) [] l = refl
split_is (suc fuel) (b ∷ bs) l = on_is b bs (scan (b ∷ bs)) (scan_is (b ∷ bs)) (split fuel) (λ x m. split_is fuel x (omega (arith, m)))

-- ---- a stray byte is found, so there is at most one, and no split beside it

none_by : (bs : List ℕ) (r : Scanned) → IsScanned bs r → (Begins bs → ⊥) → r ≡ Err 0
none_by bs (Ok x) s d = absurd (d (x.0, x.1, x.2, s.0, s.1))
none_by bs (Err zero) s d = refl
none_by bs (Err (suc k)) (s, text, c, rest, e, l, p, f) d = absurd (d (s, text, c ∷ rest, e, p))

scan_none : (bs : List ℕ) → (Begins bs → ⊥) → scan bs ≡ Err 0
scan_none bs d = none_by bs (scan bs) (scan_is bs) d

word_begins : (c : ℕ) (r : List ℕ) (t u : Bool) → is_letter c ≡ t → is_digit c ≡ u → (t || u) ≡ true → Begins (c ∷ r)
word_begins c r true u e f h = (Spelling Word, c ∷ [], r, refl, rw e refl)
word_begins c r false true e f h = (Spelling Number, c ∷ [], r, refl, rw f refl)
word_begins c r false false e f h = absurd (false≢true h)

not_from : (b : Bool) → (b ≡ true → ⊥) → not b ≡ true
not_from true d = absurd (d refl)
not_from false d = refl

or_right : (a b : Bool) → b ≡ true → (a || b) ≡ true
or_right true b e = refl
or_right false b e = e

equals_mark : (c : ℕ) → is_equals c ≡ true → is_mark_byte c ≡ true
equals_mark c e = grind (arith, nat_tests)

-- what begins no piece ends each but a comment
ends_none : (s : PieceKind) (text : List ℕ) (c : ℕ) (r : List ℕ) → is_comment s ≡ false → (Begins (c ∷ r) → ⊥) → ends s text (c ∷ r) ≡ true
ends_none Blank text c r n d = refl
ends_none Comment text c r n d = absurd (true≢false n)
ends_none (Spelling Word) text c r n d = not_from (is_word_byte c) (λ e. d (word_begins c r (is_letter c) (is_digit c) refl refl e))
ends_none (Spelling Number) text c r n d = not_from (is_digit c) (λ e. d (Spelling Number, c ∷ [], r, refl, rw e refl))
ends_none (Spelling Mark) text c r n d = or_right (not (is_colon text)) (not (is_equals c)) (not_from (is_equals c) (λ e. d (Spelling Mark, c ∷ [], r, refl, equals_mark c e)))

full_word : (b c : ℕ) (bs r : List ℕ) → is_piece (Spelling Word) (b ∷ bs) ≡ true → is_full_at (Spelling Word) (length (b ∷ bs)) c ≡ true → scan (b ∷ (bs ++ c ∷ r)) ≡ Err (length (b ∷ bs))
full_word b c bs r p f =
    let h = and_parts (is_letter b && list_all is_word_byte bs) (nat_le (length bs) 63) p in
    let g = and_parts (is_letter b) (list_all is_word_byte bs) h.0 in
    let q = and_parts (length (b ∷ bs) == 64) (is_word_byte c) f in
    let l : length (b ∷ bs) ≡ 64 = eqb-true (length (b ∷ bs)) 64 q.0 in
    let a = letter_alone b g.0 in
    let w = take_while-append_all is_word_byte bs (c ∷ r) g.1 in
    let t : nat_le (length (b ∷ take_while is_word_byte (bs ++ c ∷ r))) 64 ≡ false =
    lt-leb (length (b ∷ take_while is_word_byte (bs ++ c ∷ r))) 64 (omega (arith, l, ap length w, length-append bs (take_while is_word_byte (c ∷ r)), ap length (take_while-first is_word_byte c r q.1))) in
    rw (a.0, a.1, g.0, t, l) refl

full_number : (b c : ℕ) (bs r : List ℕ) → is_piece (Spelling Number) (b ∷ bs) ≡ true → is_full_at (Spelling Number) (length (b ∷ bs)) c ≡ true → scan (b ∷ (bs ++ c ∷ r)) ≡ Err (length (b ∷ bs))
full_number b c bs r p f =
    let h = and_parts (is_digit b && list_all is_digit bs) (nat_le (length bs) 8) p in
    let g = and_parts (is_digit b) (list_all is_digit bs) h.0 in
    let q = and_parts (length (b ∷ bs) == 9) (is_digit c) f in
    let l : length (b ∷ bs) ≡ 9 = eqb-true (length (b ∷ bs)) 9 q.0 in
    let a = digit_alone b g.0 in
    let w = take_while-append_all is_digit bs (c ∷ r) g.1 in
    let t : nat_le (length (b ∷ take_while is_digit (bs ++ c ∷ r))) 9 ≡ false =
    lt-leb (length (b ∷ take_while is_digit (bs ++ c ∷ r))) 9 (omega (arith, l, ap length w, length-append bs (take_while is_digit (c ∷ r)), ap length (take_while-first is_digit c r q.1))) in
    rw (a.0, a.1, a.2, g.0, t, l) refl

full_scan : (s : PieceKind) (text : List ℕ) (c : ℕ) (r : List ℕ) → is_piece s text ≡ true → is_full_at s (length text) c ≡ true → scan (text ++ c ∷ r) ≡ Err (length text)
full_scan s [] c r p f = absurd (false≢true p)
full_scan (Spelling Word) (b ∷ bs) c r p f = full_word b c bs r p f
full_scan (Spelling Number) (b ∷ bs) c r p f = full_number b c bs r p f
full_scan (Spelling Mark) (b ∷ bs) c r p f = absurd (false≢true f)
full_scan Blank (b ∷ bs) c r p f = absurd (false≢true f)
full_scan Comment (b ∷ bs) c r p f = absurd (false≢true f)

-- why the byte c before r is stray behind these pieces
Why : List Piece → ℕ → List ℕ → Type 0
Why ps c r = IsSomeAnd (last_piece ps) (λ q. is_full c q ≡ true) ⊎ (Begins (c ∷ r) → ⊥)

ends-grow : (s : PieceKind) (text rest zs : List ℕ) → 0 < length rest → ends s text rest ≡ true → ends s text (rest ++ zs) ≡ true
ends-grow s text [] zs l e = absurd (omega arith)
ends-grow Blank text (b ∷ bs) zs l e = e
ends-grow Comment text (b ∷ bs) zs l e = e
ends-grow (Spelling Word) text (b ∷ bs) zs l e = e
ends-grow (Spelling Number) text (b ∷ bs) zs l e = e
ends-grow (Spelling Mark) text (b ∷ bs) zs l e = e

some_left : (q : Piece) (ps : List Piece) (rest : List ℕ) → Split rest (q ∷ ps) → 0 < length rest
some_left q ps rest s = omega (arith, ap length s.1, length-append q.text s.0, long q.kind q.text s.2)

split_scan : (fuel : ℕ) (xs : List ℕ) (r : Scanned) → scan xs ≡ r → 0 < length xs → split (suc fuel) xs ≡ split_on r (split fuel)
unfolding split
split_scan fuel [] r e l = absurd (omega arith)
split_scan fuel (b ∷ bs) r e l = ap (λ z. split_on z (split fuel)) e

one_fault : (fuel : ℕ) (p : Piece) (c : ℕ) (r : List ℕ) → is_piece p.kind p.text ≡ true → is_comment p.kind ≡ false → Why (p ∷ []) c r → length (p.text ++ c ∷ r) ≤ fuel
    → split fuel (p.text ++ c ∷ r) ≡ Err (length p.text)
unfolding Why
one_fault zero p c r i n w l = absurd (omega (arith, length-append p.text (c ∷ r)))
one_fault (suc fuel) p c r i n (inl f) l =
    split_scan fuel (p.text ++ c ∷ r) (Err (length p.text)) (full_scan p.kind p.text c r i f) (omega (arith, length-append p.text (c ∷ r)))
one_fault (suc zero) p c r i n (inr d) l = absurd (omega (arith, length-append p.text (c ∷ r), long p.kind p.text i))
one_fault (suc (suc fuel)) p c r i n (inr d) l =
    let e = ends_none p.kind p.text c r n d in
    let s1 = split_scan (suc fuel) (p.text ++ c ∷ r) (Ok (p.kind, p.text, c ∷ r)) (scan_piece p.kind p.text (c ∷ r) i e) (omega (arith, length-append p.text (c ∷ r))) in
    let s2 : split (suc fuel) (c ∷ r) ≡ Err 0 = split_scan fuel (c ∷ r) (Err 0) (scan_none (c ∷ r) d) (omega arith) in
    let z : length p.text + 0 ≡ length p.text = omega arith in
    s1 ∙ ap (before p) s2 ∙ ap Err z

fault_at : (fuel : ℕ) (ps : List Piece) (before_c : List ℕ) (c : ℕ) (r : List ℕ) → Split before_c ps → IfSome (last_piece ps) (λ q. is_comment q.kind ≡ false) → Why ps c r
    → length (before_c ++ c ∷ r) ≤ fuel → split fuel (before_c ++ c ∷ r) ≡ Err (length before_c)
unfolding Why
fault_at zero ps xs c r s n w l = absurd (omega (arith, length-append xs (c ∷ r)))
fault_at (suc fuel) [] xs c r s n (inl w) l = absurd w
fault_at (suc fuel) [] xs c r s n (inr d) l =
    rw s (split_scan fuel (c ∷ r) (Err 0) (scan_none (c ∷ r) d) (omega arith))
fault_at (suc fuel) (p ∷ []) xs c r s n w l =
    let e : xs ≡ p.text = s.1 ∙ ap (λ z. p.text ++ z) s.4 ∙ append-nil p.text in
    let h = one_fault (suc fuel) p c r s.2 n w (omega (arith, ap length e, length-append xs (c ∷ r), length-append p.text (c ∷ r))) in
    subst (λ z. split (suc fuel) (z ++ c ∷ r) ≡ Err (length z)) (sym e) h
fault_at (suc fuel) (p ∷ q ∷ ps) xs c r s n w l =
    let e : xs ++ c ∷ r ≡ p.text ++ (s.0 ++ c ∷ r) = ap (λ z. z ++ c ∷ r) s.1 ∙ append_assoc p.text s.0 (c ∷ r) in
    let d = ends-grow p.kind p.text s.0 (c ∷ r) (some_left q ps s.0 s.4) s.3 in
    let h = fault_at fuel (q ∷ ps) s.0 c r s.4 n w (omega (arith, ap length e, length-append p.text (s.0 ++ c ∷ r), long p.kind p.text s.2)) in
    let s1 = split_scan fuel (p.text ++ (s.0 ++ c ∷ r)) (Ok (p.kind, p.text, s.0 ++ c ∷ r)) (scan_piece p.kind p.text (s.0 ++ c ∷ r) s.2 d) (omega (arith, length-append p.text (s.0 ++ c ∷ r), long p.kind p.text s.2)) in
    let z : length p.text + length s.0 ≡ length xs = omega (arith, ap length s.1, length-append p.text s.0) in
    ap (split (suc fuel)) e ∙ s1 ∙ ap (before p) h ∙ ap Err z

-- What is stray is what scanning on stops at. So no two places are stray, and none is where there is a split.
pub Stray-found : (bs : List ℕ) (k : ℕ) → IsStray bs k → split (length bs) bs ≡ Err k
unfolding Why
Stray-found bs k s =
    let c = get_or bs k 0 in
    let e : bs ≡ take k bs ++ c ∷ drop (k + 1) bs = sym (take-append-drop k bs) ∙ ap (λ z. take k bs ++ z) (drop_more bs k 0 s.within) in
    let l : length (take k bs) ≡ k = length-take-le k bs (omega (arith, s.within)) in
    let w : Why s.pieces c (drop (k + 1) bs) = ⊎_elim (λ x. inl x) (λ d. inr (λ b. d (subst Begins (sym (drop_more bs k 0 s.within)) b))) s.why in
    let h = fault_at (length bs) s.pieces (take k bs) c (drop (k + 1) bs) s.split s.no_comment w (omega (arith, ap length e)) in
    subst (λ z. split (length bs) z ≡ Err (length (take k bs))) (sym e) h ∙ ap Err l

-- A split is what scanning on finds.
pub Split-found : (fuel : ℕ) (bs : List ℕ) (ps : List Piece) → length bs ≤ fuel → Split bs ps → split fuel bs ≡ Ok ps
unfolding split
Split-found zero [] [] l s = refl
Split-found zero (b ∷ bs) ps l s = absurd (omega arith)
Split-found zero [] (p ∷ ps) l s = absurd (never_empty p.kind p.text s.0 (sym s.1) s.2)
Split-found (suc fuel) bs [] l s = ap (split (suc fuel)) s
Split-found (suc fuel) bs (p ∷ ps) l s =
    let n : length s.0 ≤ fuel = omega (arith, ap length s.1, length-append p.text s.0, long p.kind p.text s.2) in
    let m : 0 < length (p.text ++ s.0) = omega (arith, length-append p.text s.0, long p.kind p.text s.2) in
    ap (split (suc fuel)) s.1 ∙ split_scan fuel (p.text ++ s.0) (Ok (p.kind, p.text, s.0)) (scan_piece p.kind p.text s.0 s.2 s.3) m
    ∙ ap (before p) (Split-found fuel s.0 ps n s.4)

-- a piece of this kind and length stands at the front of the bytes, and what follows does not go on with it
pub record IsFront (bytes : List ℕ) (kind : PieceKind) (len : ℕ) : Type 0 where
  pub text : List ℕ
  pub rest : List ℕ
  pub bytes_are : bytes ≡ text ++ rest
  pub length_is : length text ≡ len
  pub piece : IsTrue (is_piece kind text)
  pub ended : IsTrue (ends kind text rest)

-- What a scan of some bytes answers.
pub front-scanned : (bs : List ℕ) (kind : PieceKind) (len : ℕ) → Ok (kind, len) ≡ lengths (scan bs) → IsFront bs kind len
front-scanned bs kind len e = by_scan (scan bs) (scan_is bs) e
  where
    by_scan : (s : Scanned) → IsScanned bs s → Ok (kind, len) ≡ lengths s → IsFront bs kind len
    by_scan (Ok x) i e =
        let pair : ◌≡◌ {A = PieceKind × ℕ} (kind, len) (x.0, length x.1) = cc in
        let k : x.0 ≡ kind = ap (λ z. z.0) (sym pair) in
        record {
          text = x.1;
          rest = x.2;
          bytes_are = i.0;
          length_is = ap (λ z. z.1) (sym pair);
          piece = subst (λ z. is_piece z x.1 ≡ true) k i.1;
          ended = subst (λ z. ends z x.1 x.2 ≡ true) k i.2;
        }
    by_scan (Err k) i e = absurd (cc)

pub stray-scanned : (bs : List ℕ) (k : ℕ) → 0 < length bs → Err k ≡ lengths (scan bs) → IsStray bs k
stray-scanned [] k l e = absurd (omega arith)
stray-scanned (b ∷ bs) k l e = by_scan (scan (b ∷ bs)) (scan_is (b ∷ bs)) e
  where
    by_scan : (s : Scanned) → IsScanned (b ∷ bs) s → Err k ≡ lengths s → IsStray (b ∷ bs) k
    by_scan (Ok x) i e = absurd (cc)
    by_scan (Err j) i e = let same : j ≡ k = cc in subst (λ z. IsStray (b ∷ bs) z) same (scan_stray b bs j i)
