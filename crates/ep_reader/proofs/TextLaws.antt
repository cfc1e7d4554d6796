-- What bytes say as a text is one thing.
use Rattle.std.proofs.Common.{◌≡◌, ℕ, List, length, Result, Ok, Err, IfOk, IfErr, refl, sym, ap, ◌∙◌, subst, arith, ◌⊎◌, inl, inr}
use Rattle.std.specs.Prelude.{IsOkUnless}
use Rattle.ep_base.specs.Refusals.{OrWant}
use Rattle.ep_lex.specs.Pieces.{IsStray}
use Rattle.ep_lex.specs.Tokens.{AreLexed, HasTooManyTokens, Lexed, line_at, spellings}
use Rattle.ep_lex.proofs.CallerLemmas.{lexed-unique, stray-unique, stray-no_tokens, tokens-unique}
use Rattle.ep_tree.specs.Grammar.{Grammar, IsOnly, SyntaxAt, DeepAt}
use Rattle.ep_tree.specs.Grammar as grammar
use Rattle.ep_reader.specs.declared.text.TextError.{TextError}
use Rattle.ep_reader.specs.declared.text.TextError.TheVariants as error
use Rattle.ep_reader.specs.declared.text.ParsedText.{ParsedText}
use Rattle.ep_reader.specs.Reading.{Token, Reader, whole}
use Rattle.ep_reader.specs.Texts.{IsTextOf, IsSyntaxFault, IsDepthFault, IsTextFault, IsParsedBy, SaysText}
use Rattle.ep_reader.proofs.Laws.{Outcome}
use Rattle.ep_reader.proofs.Whole.{IsEmpty, read_not_deep, one_syntax, one_deep, whole_read, whole_only, whole_syntax, whole_deep}

module _ {A : Type 0} (g : Grammar A) (bytes : List ℕ) where
  few_tokens : (found : Lexed) → AreLexed bytes found → HasTooManyTokens bytes → ⊥
  few_tokens found h x = omega (arith, ap length (tokens-unique bytes found.tokens x.0 h.tokens x.1), h.few, x.2)

  -- a text that is read has no fault
  pub text_or_fault : (found : Lexed) (tree : A) (e : TextError) → IsTextOf g bytes found tree → IsTextFault g bytes e → ⊥
  text_or_fault found tree (error.Stray at) t f = stray-no_tokens bytes at found.tokens f t.lexed.tokens
  text_or_fault found tree error.TooManyTokens t f = few_tokens found t.lexed f
  text_or_fault found tree (error.Syntax n l) t f =
      f.fault.unread tree (subst (λ z. grammar.Reads g (spellings bytes z.tokens) tree) (lexed-unique bytes found f.found t.lexed f.lexed) t.reads)
  text_or_fault found tree (error.TooDeep n l) t f =
      read_not_deep g (spellings bytes f.found.tokens) tree n
      (subst (λ z. grammar.Reads g (spellings bytes z.tokens) tree) (lexed-unique bytes found f.found t.lexed f.lexed) t.reads) f.fault.deep
  text_or_fault found tree error.OutOfMemory t f = f

  -- ---- one fault

  with_stray : (at : ℕ) (f : TextError) → IsStray bytes at → IsTextFault g bytes f → error.Stray at ≡ f
  with_stray at (error.Stray k) x y = ap error.Stray (stray-unique bytes at k x y)
  with_stray at error.TooManyTokens x y = absurd (stray-no_tokens bytes at y.0 x y.1)
  with_stray at (error.Syntax n l) x y = absurd (stray-no_tokens bytes at y.found.tokens x y.lexed.tokens)
  with_stray at (error.TooDeep n l) x y = absurd (stray-no_tokens bytes at y.found.tokens x y.lexed.tokens)
  with_stray at error.OutOfMemory x y = absurd y

  with_too_many : (f : TextError) → HasTooManyTokens bytes → IsTextFault g bytes f → error.TooManyTokens ≡ f
  with_too_many (error.Stray k) x y = absurd (stray-no_tokens bytes k x.0 y x.1)
  with_too_many error.TooManyTokens x y = refl
  with_too_many (error.Syntax n l) x y = absurd (few_tokens y.found y.lexed x)
  with_too_many (error.TooDeep n l) x y = absurd (few_tokens y.found y.lexed x)
  with_too_many error.OutOfMemory x y = absurd y

  with_syntax : (n l : ℕ) (f : TextError) → IsSyntaxFault g bytes n l → IsTextFault g bytes f → error.Syntax n l ≡ f
  with_syntax n l (error.Stray k) x y = absurd (stray-no_tokens bytes k x.found.tokens y x.lexed.tokens)
  with_syntax n l error.TooManyTokens x y = absurd (few_tokens x.found x.lexed y)
  with_syntax n l (error.Syntax m k) x y =
      let same = lexed-unique bytes x.found y.found x.lexed y.lexed in
      let token : n ≡ m = one_syntax g (spellings bytes y.found.tokens) n m (subst (λ z. SyntaxAt g (spellings bytes z.tokens) n) same x.fault) y.fault in
      let line : l ≡ k = x.line_is ∙ (λ i. line_at (same i) (token i)) ∙ sym y.line_is in
      λ i. error.Syntax (token i) (line i)
  with_syntax n l (error.TooDeep t k) x y =
      let same = lexed-unique bytes x.found y.found x.lexed y.lexed in
      let at = subst (λ z. SyntaxAt g (spellings bytes z.tokens) n) same x.fault in
      absurd (at.none_deep t y.fault.deep)
  with_syntax n l error.OutOfMemory x y = absurd y

  with_deep : (t l : ℕ) (f : TextError) → IsDepthFault g bytes t l → IsTextFault g bytes f → error.TooDeep t l ≡ f
  with_deep t l (error.Stray k) x y = absurd (stray-no_tokens bytes k x.found.tokens y x.lexed.tokens)
  with_deep t l error.TooManyTokens x y = absurd (few_tokens x.found x.lexed y)
  with_deep t l (error.Syntax n k) x y = sym (with_syntax n k (error.TooDeep t l) y x)
  with_deep t l (error.TooDeep u k) x y =
      let same = lexed-unique bytes x.found y.found x.lexed y.lexed in
      let token : t ≡ u = one_deep g (spellings bytes y.found.tokens) t u (subst (λ z. DeepAt g (spellings bytes z.tokens) t) same x.fault) y.fault in
      let line : l ≡ k = x.line_is ∙ (λ i. line_at (same i) (token i)) ∙ sym y.line_is in
      λ i. error.TooDeep (token i) (line i)
  with_deep t l error.OutOfMemory x y = absurd y

  pub text_fault_one : (e f : TextError) → IsTextFault g bytes e → IsTextFault g bytes f → e ≡ f
  text_fault_one (error.Stray at) f x y = with_stray at f x y
  text_fault_one error.TooManyTokens f x y = with_too_many f x y
  text_fault_one (error.Syntax n l) f x y = with_syntax n l f x y
  text_fault_one (error.TooDeep t l) f x y = with_deep t l f x y
  text_fault_one error.OutOfMemory f x y = absurd x

  -- ---- of an answer of the code

  module _ (p : Reader A) (o : (ts : List Token) → Outcome g IsEmpty 0 ts (whole p 0 ts)) where
    text_read : (r : Result (ParsedText A) TextError) → SaysText p bytes r → IfOk r (λ text. IsTextOf g bytes text.tokens text.tree)
    text_read (Ok text) s =
        let ts = spellings bytes text.tokens.tokens in
        record { lexed = s.lexed; reads = whole_read g ts p (o ts) (text.tree, s.place, s.rest) s.reads }
    text_read (Err e) s = tt

    text_only : (r : Result (ParsedText A) TextError) → SaysText p bytes r → IfOk r (λ text. IsOnly g (spellings bytes text.tokens.tokens) text.tree)
    text_only (Ok text) s = let ts = spellings bytes text.tokens.tokens in whole_only g ts p (o ts) (text.tree, s.place, s.rest) s.reads
    text_only (Err e) s = tt

    text_fault : (r : Result (ParsedText A) TextError) → SaysText p bytes r → IfErr r (OrWant error.OutOfMemory (IsTextFault g bytes))
    text_fault (Ok text) s = tt
    text_fault (Err (error.Stray at)) s = inr s
    text_fault (Err error.TooManyTokens) s = inr s
    text_fault (Err (error.Syntax n l)) s =
        let ts = spellings bytes s.found.tokens in
        inr (record { found = s.found; lexed = s.lexed; fault = whole_syntax g ts p (o ts) n s.stops; line_is = s.line_is })
    text_fault (Err (error.TooDeep t l)) s =
        let ts = spellings bytes s.found.tokens in
        inr (record { found = s.found; lexed = s.lexed; fault = whole_deep g ts p (o ts) t s.stops; line_is = s.line_is })
    text_fault (Err error.OutOfMemory) s = inl refl

    all_texts : (r : Result (ParsedText A) TextError) → IfErr r (OrWant error.OutOfMemory (IsTextFault g bytes)) → (found : Lexed) (tree : A) → IsTextOf g bytes found tree
        → IsOkUnless r error.OutOfMemory
    all_texts (Ok text) f found tree t = tt
    all_texts (Err e) (inl none) found tree t = none
    all_texts (Err e) (inr f) found tree t = absurd (text_or_fault found tree e t f)

    all_text_faults : (r : Result (ParsedText A) TextError) → IfOk r (λ text. IsTextOf g bytes text.tokens text.tree) → IfErr r (OrWant error.OutOfMemory (IsTextFault g bytes))
        → (e : TextError) → IsTextFault g bytes e → (r ≡ Err e) ⊎ (r ≡ Err error.OutOfMemory)
    all_text_faults (Ok text) t f e x = absurd (text_or_fault text.tokens text.tree e t x)
    all_text_faults (Err d) t (inl none) e x = inr (ap Err none)
    all_text_faults (Err d) t (inr f) e x = inl (ap Err (text_fault_one d e f x))

    pub parsed_by : (r : Result (ParsedText A) TextError) → SaysText p bytes r → IsParsedBy g bytes r
    parsed_by r s =
        let read = text_read r s in
        let fault = text_fault r s in
        record { read = read; only = text_only r s; all_read = all_texts r fault; fault = fault; all_faults = all_text_faults r read fault }
