-- How far the tokens of a text are read.
use Rattle.std.proofs.Common.{◌≡◌, ℕ, ◌+◌, ◌-◌, ◌≤◌, ◌<◌, Bool, true, false, cond, List, [], ◌∷◌, ◌++◌, length, take, drop, get_or, Ok, Err, refl, sym, ap, ◌∙◌, subst, arith, append_assoc, length-append}
use Rattle.std.specs.Prelude.{nat_lt, nat_le, ◌==◌, ◌&&◌, ◌||◌}
use Rattle.std.specs.List.{count_by, list_all}
use Rattle.std.proofs.lemmas.Bool.{false≢true, and_parts, eqb-true, ltb-true, ltb-false}
use Rattle.std.proofs.lemmas.Bool.Decides.{nat_tests}
use Rattle.std.proofs.lemmas.List.{append-nil, take-append-drop, length-take-le, take_all, take-append-le, get_or-drop, length-drop, length-take}
use Rattle.std.proofs.Math.ListN.{drop_of_length-le}
use Rattle.std.proofs.Math.Seq.{take-append_seam, drop-append_seam}
use Rattle.std.proofs.lemmas.List.Sums.{sum_by-append}
use Rattle.ep_lex.specs.declared.token.TokenKind.{TokenKind}
use Rattle.ep_lex.specs.declared.token.TokenKind.TheVariants.{Word, Number, Mark}
use Rattle.ep_lex.specs.declared.token.PieceKind.{PieceKind}
use Rattle.ep_lex.specs.declared.token.PieceKind.TheVariants.{Blank, Comment, Spelling}
use Rattle.ep_lex.specs.declared.token.Token.{Token}
use Rattle.ep_lex.specs.Pieces.{is_line_feed, is_blank, is_letter, is_digit, is_word_byte, is_comment_byte, is_mark_byte, is_piece, Piece, Split, IsStray}
use Rattle.ep_lex.specs.Scan.{scan, lengths}
use Rattle.ep_lex.specs.Tokens.{token_behind, tokens_behind, line_behind, AreTokens, Lexed, AreLexed, HasTooManyTokens}
use Rattle.ep_lex.specs.declared.limits.TheConstants.{MOST_TOKENS}
use Rattle.ep_lex.proofs.Splits.{long, IsFront, front-scanned, stray-scanned}
use Rattle.ep_lex.proofs.Prefixes.{joined, StandBefore, joined-push, StandBefore-push, StandBefore-split, StandBefore-stray}
use Rattle.ep_lex.proofs.TokenLaws.{tokens_behind-append}

-- The bytes before `at` are pieces, of which these are the tokens, as many of them as are kept.
pub record IsReadTo (bytes : List ℕ) (at line count : ℕ) (kept : List Token) : Type 0 where
  pub pieces : List Piece
  pub before : StandBefore pieces (drop at bytes)
  pub joined_is : joined pieces ≡ take at bytes
  pub within : at ≤ length bytes
  pub line_is : line ≡ line_behind (take at bytes)
  pub count_is : count ≡ length (tokens_behind [] pieces)
  pub kept_are : kept ≡ take MOST_TOKENS (tokens_behind [] pieces)
  pub few : count ≤ at

-- the text in front of the next piece, and the piece
module _ (bytes : List ℕ) (at line count : ℕ) (kept : List Token) (r : IsReadTo bytes at line count kept)
    (kind : PieceKind) (len : ℕ) (n : IsFront (drop at bytes) kind len) where
  bytes_are : bytes ≡ (joined r.pieces ++ n.text) ++ n.rest
  bytes_are =
      sym (take-append-drop at bytes) ∙ ap (λ z. z ++ drop at bytes) (sym r.joined_is) ∙ ap (λ z. joined r.pieces ++ z) n.bytes_are
      ∙ sym (append_assoc (joined r.pieces) n.text n.rest)

  length_before : length (joined r.pieces) ≡ at
  length_before = ap length r.joined_is ∙ length-take-le at bytes r.within

  length_through : length (joined r.pieces ++ n.text) ≡ at + len
  length_through = omega (arith, length-append (joined r.pieces) n.text, length_before, n.length_is)

  taken : take (at + len) bytes ≡ joined r.pieces ++ n.text
  taken = ap (λ z. take z bytes) (sym length_through) ∙ ap (take (length (joined r.pieces ++ n.text))) bytes_are ∙ take-append_seam (joined r.pieces ++ n.text) n.rest

  dropped : drop (at + len) bytes ≡ n.rest
  dropped = ap (λ z. drop z bytes) (sym length_through) ∙ ap (drop (length (joined r.pieces ++ n.text))) bytes_are ∙ drop-append_seam (joined r.pieces ++ n.text) n.rest

  this_piece : Piece
  this_piece = record { kind = kind; text = n.text }

  stands : StandBefore (r.pieces ++ this_piece ∷ []) (drop (at + len) bytes)
  unfolding this_piece
  stands = subst (StandBefore (r.pieces ++ this_piece ∷ [])) (sym dropped)
      (StandBefore-push r.pieces this_piece n.rest (subst (StandBefore r.pieces) n.bytes_are r.before) n.piece n.ended)

  joined_now : joined (r.pieces ++ this_piece ∷ []) ≡ take (at + len) bytes
  unfolding this_piece
  joined_now = joined-push r.pieces this_piece ∙ sym taken

  pub next-within : (at + len ≤ length bytes) × (1 ≤ len)
  next-within = (omega (arith, length_through, ap length bytes_are, length-append (joined r.pieces ++ n.text) n.rest), omega (arith, n.length_is, long kind n.text n.piece))

  new_tokens : List Token
  new_tokens = token_behind (joined r.pieces) kind n.text

  tokens_now : tokens_behind [] (r.pieces ++ this_piece ∷ []) ≡ tokens_behind [] r.pieces ++ new_tokens
  unfolding this_piece new_tokens
  tokens_now = tokens_behind-append [] r.pieces (this_piece ∷ []) ∙ ap (λ z. tokens_behind [] r.pieces ++ z) (append-nil (token_behind (joined r.pieces) kind n.text))

  lines_now : line + count_by is_line_feed n.text ≡ line_behind (take (at + len) bytes)
  lines_now =
      let feeds = sum_by-append (λ b. cond (is_line_feed b) 1 0) (joined r.pieces) n.text in
      let front : line ≡ line_behind (joined r.pieces) = r.line_is ∙ ap line_behind (sym r.joined_is) in
      let both : line + count_by is_line_feed n.text ≡ line_behind (joined r.pieces ++ n.text) = omega (arith, feeds, front) in
      both ∙ ap line_behind (sym taken)

  -- the next piece is read
  step : (line' count' : ℕ) (kept' : List Token) → line' ≡ line + count_by is_line_feed n.text → count' ≡ count + length new_tokens
      → kept' ≡ take MOST_TOKENS (tokens_behind [] r.pieces ++ new_tokens) → length new_tokens ≤ 1 → IsReadTo bytes (at + len) line' count' kept'
  step line' count' kept' l c k m = record {
    pieces = r.pieces ++ this_piece ∷ [];
    before = stands;
    joined_is = joined_now;
    within = next-within.0;
    line_is = l ∙ lines_now;
    count_is = omega (arith, c, r.count_is, ap length tokens_now, length-append (tokens_behind [] r.pieces) new_tokens);
    kept_are = k ∙ ap (take MOST_TOKENS) (sym tokens_now);
    few = omega (arith, c, m, r.few, next-within.1);
  }

no_feed : (p : ℕ → Bool) → ((b : ℕ) → p b ≡ true → is_line_feed b ≡ false) → (bs : List ℕ) → list_all p bs ≡ true → count_by is_line_feed bs ≡ 0
no_feed p h [] a = refl
no_feed p h (b ∷ bs) a =
    let g = and_parts (p b) (list_all p bs) a in
    rw (h b g.0) (no_feed p h bs g.1)

word_no_feed : (b : ℕ) → is_word_byte b ≡ true → is_line_feed b ≡ false
word_no_feed b e = grind (arith, nat_tests)

letter_no_feed : (b : ℕ) → is_letter b ≡ true → is_line_feed b ≡ false
letter_no_feed b e = grind (arith, nat_tests)

digit_no_feed : (b : ℕ) → is_digit b ≡ true → is_line_feed b ≡ false
digit_no_feed b e = grind (arith, nat_tests)

mark_no_feed : (b : ℕ) → is_mark_byte b ≡ true → is_line_feed b ≡ false
mark_no_feed b e = grind (arith, nat_tests)

comment_no_feed : (b : ℕ) → is_comment_byte b ≡ true → is_line_feed b ≡ false
comment_no_feed b e = grind (arith, nat_tests)

hash_no_feed : (b : ℕ) → (b == 35) ≡ true → is_line_feed b ≡ false
hash_no_feed b e = grind (arith, nat_tests)

double_no_feed : (b c : ℕ) → ((b == 58 && c == 61) || (b == 45 && c == 62)) ≡ true → (is_line_feed b ≡ false) × (is_line_feed c ≡ false)
double_no_feed b c e = (grind (arith, nat_tests), grind (arith, nat_tests))

first_no_feed : (b : ℕ) (bs : List ℕ) → is_line_feed b ≡ false → count_by is_line_feed bs ≡ 0 → count_by is_line_feed (b ∷ bs) ≡ 0
first_no_feed b bs f e = rw f e

-- only a blank has a line feed
pub comment_feeds : (text : List ℕ) → is_piece Comment text ≡ true → count_by is_line_feed text ≡ 0
comment_feeds [] p = refl
comment_feeds (b ∷ bs) p =
    let h = and_parts (b == 35) (list_all is_comment_byte bs) p in
    first_no_feed b bs (hash_no_feed b h.0) (no_feed is_comment_byte comment_no_feed bs h.1)

pub spelling_feeds : (k : TokenKind) (text : List ℕ) → is_piece (Spelling k) text ≡ true → count_by is_line_feed text ≡ 0
spelling_feeds k [] p = refl
spelling_feeds Word (b ∷ bs) p =
    let h = and_parts (is_letter b && list_all is_word_byte bs) (nat_le (length bs) 63) p in
    let g = and_parts (is_letter b) (list_all is_word_byte bs) h.0 in
    first_no_feed b bs (letter_no_feed b g.0) (no_feed is_word_byte word_no_feed bs g.1)
spelling_feeds Number (b ∷ bs) p =
    let h = and_parts (is_digit b && list_all is_digit bs) (nat_le (length bs) 8) p in
    let g = and_parts (is_digit b) (list_all is_digit bs) h.0 in
    first_no_feed b bs (digit_no_feed b g.0) (no_feed is_digit digit_no_feed bs g.1)
spelling_feeds Mark (b ∷ []) p = first_no_feed b [] (mark_no_feed b p) refl
spelling_feeds Mark (b ∷ c ∷ []) p = let h = double_no_feed b c p in first_no_feed b (c ∷ []) h.0 (first_no_feed c [] h.1 refl)
spelling_feeds Mark (b ∷ c ∷ d ∷ bs) p = absurd (false≢true p)

-- the first byte of a blank, which is the whole of it
blank_feeds : (text rest bs : List ℕ) → bs ≡ text ++ rest → is_piece Blank text ≡ true → count_by is_line_feed text ≡ cond (is_line_feed (get_or bs 0 0)) 1 0
blank_feeds [] rest bs e p = absurd (false≢true p)
blank_feeds (b ∷ []) rest bs e p =
    let same : get_or bs 0 0 ≡ b = ap (λ z. get_or z 0 0) e in
    let feeds : cond (is_line_feed b) 1 0 ≡ cond (is_line_feed (get_or bs 0 0)) 1 0 = ap (λ z. cond {A = ℕ} (is_line_feed z) 1 0) (sym same) in
    omega (arith, feeds)
blank_feeds (b ∷ c ∷ cs) rest bs e p =
    let h = and_parts (is_blank b) (length (c ∷ cs) == 0) p in
    absurd (omega (arith, eqb-true (length (c ∷ cs)) 0 h.1))

-- The next piece is a blank, a comment or a spelling.
pub IsReadTo-blank : (bytes : List ℕ) (at line count len : ℕ) (kept : List Token) → IsReadTo bytes at line count kept → IsFront (drop at bytes) Blank len
    → IsReadTo bytes (at + len) (line + cond (is_line_feed (get_or bytes at 0)) 1 0) count kept
unfolding new_tokens
IsReadTo-blank bytes at line count len kept r n =
    let here : get_or (drop at bytes) 0 0 ≡ get_or bytes at 0 = get_or-drop at bytes 0 0 ∙ ap (λ z. get_or bytes z 0) (omega arith) in
    let feeds = blank_feeds n.text n.rest (drop at bytes) n.bytes_are n.piece ∙ ap (λ z. cond {A = ℕ} (is_line_feed z) 1 0) here in
    step bytes at line count kept r Blank len n (line + cond (is_line_feed (get_or bytes at 0)) 1 0) count kept
    (ap (λ z. line + z) (sym feeds)) (omega arith) (r.kept_are ∙ ap (take MOST_TOKENS) (sym (append-nil (tokens_behind [] r.pieces)))) (omega arith)

pub IsReadTo-comment : (bytes : List ℕ) (at line count len : ℕ) (kept : List Token) → IsReadTo bytes at line count kept → IsFront (drop at bytes) Comment len
    → IsReadTo bytes (at + len) line count kept
unfolding new_tokens
IsReadTo-comment bytes at line count len kept r n =
    step bytes at line count kept r Comment len n line count kept
    (omega (arith, comment_feeds n.text n.piece)) (omega arith) (r.kept_are ∙ ap (take MOST_TOKENS) (sym (append-nil (tokens_behind [] r.pieces)))) (omega arith)

-- what is kept of a list with one more item
kept_below : (most : ℕ) (ts : List Token) (t : Token) → length ts < most → take most ts ++ t ∷ [] ≡ take most (ts ++ t ∷ [])
kept_below most ts t l =
    let n : length (ts ++ t ∷ []) ≤ most = omega (arith, length-append ts (t ∷ [])) in
    ap (λ z. z ++ t ∷ []) (take_all most ts (omega arith)) ∙ sym (take_all most (ts ++ t ∷ []) n)

module _ (bytes : List ℕ) (at line count len : ℕ) (kept : List Token) (r : IsReadTo bytes at line count kept) (kind : TokenKind)
    (n : IsFront (drop at bytes) (Spelling kind) len) where
  token : Token
  token = record { kind = kind; start = at; len = len; line = line }

  token_is : token_behind (joined r.pieces) (Spelling kind) n.text ≡ token ∷ []
  unfolding token
  token_is =
      ap (λ z. record { kind = kind; start = z; len = length n.text; line = line_behind (joined r.pieces) } ∷ []) (length_before bytes at line count kept r (Spelling kind) len n)
      ∙ ap (λ z. record { kind = kind; start = at; len = z; line = line_behind (joined r.pieces) } ∷ []) n.length_is
      ∙ ap (λ z. record { kind = kind; start = at; len = len; line = z } ∷ []) (ap line_behind r.joined_is ∙ sym r.line_is)

  kept_now : (b : Bool) → (b ≡ true → count < MOST_TOKENS) → (b ≡ false → MOST_TOKENS ≤ count)
      → cond b (kept ++ token ∷ []) kept ≡ take MOST_TOKENS (tokens_behind [] r.pieces ++ token_behind (joined r.pieces) (Spelling kind) n.text)
  kept_now true l g =
      ap (λ z. z ++ token ∷ []) r.kept_are ∙ kept_below MOST_TOKENS (tokens_behind [] r.pieces) token (omega (arith, l refl, r.count_is))
      ∙ ap (λ z. take MOST_TOKENS (tokens_behind [] r.pieces ++ z)) (sym token_is)
  kept_now false l g =
      r.kept_are ∙ sym (take-append-le MOST_TOKENS (tokens_behind [] r.pieces) (token_behind (joined r.pieces) (Spelling kind) n.text) (omega (arith, g refl, r.count_is)))

  pub IsReadTo-spelling : IsReadTo bytes (at + len) line (count + 1)
      (cond (nat_lt count MOST_TOKENS) (kept ++ record { kind = kind; start = at; len = len; line = line } ∷ []) kept)
  unfolding new_tokens token
  IsReadTo-spelling =
      step bytes at line count kept r (Spelling kind) len n line (count + 1) (cond (nat_lt count MOST_TOKENS) (kept ++ token ∷ []) kept)
      (omega (arith, spelling_feeds kind n.text n.piece)) (omega arith)
      (kept_now (nat_lt count MOST_TOKENS) (ltb-true count MOST_TOKENS) (ltb-false count MOST_TOKENS))
      (omega arith)

-- At the end of the text its tokens are found.
module _ (bytes : List ℕ) (at line count : ℕ) (kept : List Token) (r : IsReadTo bytes at line count kept) (ended : length bytes ≤ at) where
  nothing_left : drop at bytes ≡ []
  nothing_left = drop_of_length-le bytes ended

  all_taken : take at bytes ≡ bytes
  all_taken = take_all at bytes ended

  pub all_tokens : AreTokens bytes (tokens_behind [] r.pieces)
  all_tokens = record {
    pieces = r.pieces;
    split = subst (λ z. Split z r.pieces) (r.joined_is ∙ all_taken) (StandBefore-split r.pieces (subst (StandBefore r.pieces) nothing_left r.before));
    tokens_are = refl;
  }

  pub kept_all : count ≤ MOST_TOKENS → AreTokens bytes kept
  kept_all l = subst (AreTokens bytes) (sym (r.kept_are ∙ take_all MOST_TOKENS (tokens_behind [] r.pieces) (omega (arith, r.count_is)))) all_tokens

  pub line_of_end : line ≡ line_behind bytes
  line_of_end = r.line_is ∙ ap line_behind all_taken

-- What is stray in the rest is stray in the text.
pub stray_behind : (bytes : List ℕ) (at line count : ℕ) (kept : List Token) → IsReadTo bytes at line count kept → (k : ℕ) → IsStray (drop at bytes) k → IsStray bytes (at + k)
stray_behind bytes at line count kept r k s =
    let whole : joined r.pieces ++ drop at bytes ≡ bytes = ap (λ z. z ++ drop at bytes) r.joined_is ∙ take-append-drop at bytes in
    let n : length (joined r.pieces) ≡ at = ap length r.joined_is ∙ length-take-le at bytes r.within in
    subst (λ z. IsStray z (at + k)) whole (subst (λ z. IsStray (joined r.pieces ++ drop at bytes) (z + k)) n (StandBefore-stray r.pieces (drop at bytes) k r.before s))

-- What the scan at a place answers.
rest_whole : (bytes : List ℕ) (at : ℕ) → take (length bytes - at) (drop at bytes) ≡ drop at bytes
rest_whole bytes at = take_all (length bytes - at) (drop at bytes) (omega (arith, length-drop at bytes))

pub front_at : (bytes : List ℕ) (at : ℕ) (kind : PieceKind) (len : ℕ) → Ok (kind, len) ≡ lengths (scan (take (length bytes - at) (drop at bytes))) → IsFront (drop at bytes) kind len
front_at bytes at kind len e = front-scanned (drop at bytes) kind len (e ∙ ap (λ z. lengths (scan z)) (rest_whole bytes at))

pub stray_at : (bytes : List ℕ) (at line count : ℕ) (kept : List Token) → IsReadTo bytes at line count kept → at < length bytes → (k : ℕ)
    → Err k ≡ lengths (scan (take (length bytes - at) (drop at bytes))) → IsStray bytes (at + k)
stray_at bytes at line count kept r l k e =
    let s = stray-scanned (drop at bytes) k (omega (arith, length-drop at bytes)) (e ∙ ap (λ z. lengths (scan z)) (rest_whole bytes at)) in
    stray_behind bytes at line count kept r k s

pub piece_within : (bytes : List ℕ) (at line count : ℕ) (kept : List Token) → IsReadTo bytes at line count kept → (kind : PieceKind) (len : ℕ)
    → Ok (kind, len) ≡ lengths (scan (take (length bytes - at) (drop at bytes))) → (at + len ≤ length bytes) × (1 ≤ len)
piece_within bytes at line count kept r kind len e = next-within bytes at line count kept r kind len (front_at bytes at kind len e)

pub stray_within : (bytes : List ℕ) (at line count : ℕ) (kept : List Token) → IsReadTo bytes at line count kept → at < length bytes → (k : ℕ)
    → Err k ≡ lengths (scan (take (length bytes - at) (drop at bytes))) → at + k < length bytes
stray_within bytes at line count kept r l k e = let s = stray_at bytes at line count kept r l k e in s.within

pub kept_few : (bytes : List ℕ) (at line count : ℕ) (kept : List Token) → IsReadTo bytes at line count kept → length kept ≤ MOST_TOKENS
kept_few bytes at line count kept r = omega (arith, ap length r.kept_are, length-take MOST_TOKENS (tokens_behind [] r.pieces))

-- the tokens that are kept, with the line behind them
pub lexed : (bytes : List ℕ) (at line count : ℕ) (kept : List Token) → IsReadTo bytes at line count kept → length bytes ≤ at → count ≤ MOST_TOKENS
    → (found : Lexed) → found.tokens ≡ kept → found.end_line ≡ line → AreLexed bytes found
lexed bytes at line count kept r ended few found t l = record {
  tokens = subst (AreTokens bytes) (sym t) (kept_all bytes at line count kept r ended few);
  few = subst (λ ts. length ts ≤ MOST_TOKENS) (sym t) (kept_few bytes at line count kept r);
  end_line = l ∙ line_of_end bytes at line count kept r ended;
}

pub IsReadTo-along : (bytes : List ℕ) (at line count line' count' : ℕ) (kept kept' : List Token) → line' ≡ line → count' ≡ count → kept' ≡ kept
    → IsReadTo bytes at line count kept → IsReadTo bytes at line' count' kept'
IsReadTo-along bytes at line count line' count' kept kept' l c k r = record {
  pieces = r.pieces;
  before = r.before;
  joined_is = r.joined_is;
  within = r.within;
  line_is = l ∙ r.line_is;
  count_is = c ∙ r.count_is;
  kept_are = k ∙ r.kept_are;
  few = omega (arith, c, r.few);
}

-- more tokens are counted than may be kept
pub too_many : (bytes : List ℕ) (at line count : ℕ) (kept : List Token) → IsReadTo bytes at line count kept → length bytes ≤ at → MOST_TOKENS < count → HasTooManyTokens bytes
too_many bytes at line count kept r e l =
    (tokens_behind [] r.pieces, all_tokens bytes at line count kept r e, omega (arith, r.count_is))
