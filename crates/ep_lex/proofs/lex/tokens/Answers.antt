use Rattle.std.proofs.Common.{◌≡◌, ◌+◌, Ok, Err, inl, length, drop, sym, ap, ◌∙◌, subst, arith}
use Rattle.ep_lex.specs.declared.lex.LexError.TheVariants.{Stray}
use Rattle.ep_lex.specs.Pieces.{IsStray}
use Rattle.ep_lex.proofs.TokenLaws.{tokens-unique, lexed-unique}
use Rattle.ep_lex.proofs.Faults.{stray-unique, stray-no_tokens}
use Rattle.ep_lex.proofs.Splits.{IsFront}
use Rattle.ep_lex.proofs.Progress.{front_at, piece_within, stray_at, stray_within, IsReadTo-blank, IsReadTo-comment, IsReadTo-spelling, IsReadTo-along, kept_all, kept_few, lexed, too_many}
use Rattle.ep_lex.proofs.lex.tokens.Goals as goal
use Rattle.ep_lex.proofs.lex.tokens.Goals.{in-Blank, in-Comment, in-Spelling+in_ok-keep-in-Spelling}

pub overflow_add-result : goal.overflow_add-result
overflow_add-result c =
    let e = stray_within c.args.bytes.now c.loop-at.at c.loop-at.line c.loop-at.count c.loop-at.kept c.loop-at.invariant c.loop-at-test.true c.in-Err.before (sym c.in-Err.is ∙ c.front_piece.ensures) in
    omega (arith, c.requires)

pub overflow_cast-result : goal.overflow_cast-result
overflow_cast-result c =
    let e = stray_within c.args.bytes.now c.loop-at.at c.loop-at.line c.loop-at.count c.loop-at.kept c.loop-at.invariant c.loop-at-test.true c.in-Err.before (sym c.in-Err.is ∙ c.front_piece.ensures) in
    omega (arith, c.requires)

pub returns-in-Err-clause-stray : goal.returns-in-Err-clause-stray
returns-in-Err-clause-stray c = λ at e.
    let s = stray_at c.args.bytes.now c.loop-at.at c.loop-at.line c.loop-at.count c.loop-at.kept c.loop-at.invariant c.loop-at-test.true c.in-Err.before (sym c.in-Err.is ∙ c.front_piece.ensures) in
    let same : c.loop-at.at + c.in-Err.before ≡ at = cc e in
    subst (IsStray c.args.bytes.now) same s

pub returns-in-Err-clause-tokens_are_told : goal.returns-in-Err-clause-tokens_are_told
returns-in-Err-clause-tokens_are_told c = λ found h.
    let s = stray_at c.args.bytes.now c.loop-at.at c.loop-at.line c.loop-at.count c.loop-at.kept c.loop-at.invariant c.loop-at-test.true c.in-Err.before (sym c.in-Err.is ∙ c.front_piece.ensures) in
    absurd (stray-no_tokens c.args.bytes.now (c.loop-at.at + c.in-Err.before) found.tokens s h.tokens)

pub returns-in-Err-clause-stray_is_told : goal.returns-in-Err-clause-stray_is_told
returns-in-Err-clause-stray_is_told c = λ at t.
    let s = stray_at c.args.bytes.now c.loop-at.at c.loop-at.line c.loop-at.count c.loop-at.kept c.loop-at.invariant c.loop-at-test.true c.in-Err.before (sym c.in-Err.is ∙ c.front_piece.ensures) in
    inl (ap (λ z. Err (Stray z)) (stray-unique c.args.bytes.now (c.loop-at.at + c.in-Err.before) at s t))

pub returns-in-Err-clause-too_many_is_told : goal.returns-in-Err-clause-too_many_is_told
returns-in-Err-clause-too_many_is_told c = λ h.
    let s = stray_at c.args.bytes.now c.loop-at.at c.loop-at.line c.loop-at.count c.loop-at.kept c.loop-at.invariant c.loop-at-test.true c.in-Err.before (sym c.in-Err.is ∙ c.front_piece.ensures) in
    absurd (stray-no_tokens c.args.bytes.now (c.loop-at.at + c.in-Err.before) h.0 s h.1)

pub overflow_cast-token-in-Spelling : goal.overflow_cast-token-in-Spelling
overflow_cast-token-in-Spelling c =
    let w = piece_within c.args.bytes.now c.loop-at.at c.loop-at.line c.loop-at.count c.loop-at.kept c.loop-at.invariant c.in-Ok.piece.0 c.in-Ok.piece.1 (sym c.in-Ok.is ∙ c.front_piece.ensures) in
    omega (arith, w.0, c.requires)

pub overflow_add-at : goal.overflow_add-at
overflow_add-at c =
    let w = piece_within c.args.bytes.now c.loop-at.at c.loop-at.line c.loop-at.count c.loop-at.kept c.loop-at.invariant c.in-Ok.piece.0 c.in-Ok.piece.1 (sym c.in-Ok.is ∙ c.front_piece.ensures) in
    omega (arith, w.0, c.requires)

pub loop-at-smaller : goal.loop-at-smaller
loop-at-smaller c =
    let w = piece_within c.args.bytes.now c.loop-at.at c.loop-at.line c.loop-at.count c.loop-at.kept c.loop-at.invariant c.in-Ok.piece.0 c.in-Ok.piece.1 (sym c.in-Ok.is ∙ c.front_piece.ensures) in
    omega (arith, w.0, w.1)

pub loop-at-preserved : goal.loop-at-preserved
loop-at-preserved c =
    let f = front_at c.args.bytes.now c.loop-at.at c.in-Ok.piece.0 c.in-Ok.piece.1 (sym c.in-Ok.is ∙ c.front_piece.ensures) in
    elim c.match-kind.branch [
      | in-Blank w ↦
          let b = subst (λ z. IsFront (drop c.loop-at.at c.args.bytes.now) z c.in-Ok.piece.1) w.in-Blank.is f in
          let r = IsReadTo-blank c.args.bytes.now c.loop-at.at c.loop-at.line c.loop-at.count c.in-Ok.piece.1 c.loop-at.kept c.loop-at.invariant b in
          IsReadTo-along _ _ _ _ _ _ _ _ (w.line-is ∙ ap (λ z. c.loop-at.line + z) w.line_feeds-line.ensures) w.count-is w.kept-is r
      | in-Comment w ↦
          let b = subst (λ z. IsFront (drop c.loop-at.at c.args.bytes.now) z c.in-Ok.piece.1) w.in-Comment.is f in
          let r = IsReadTo-comment c.args.bytes.now c.loop-at.at c.loop-at.line c.loop-at.count c.in-Ok.piece.1 c.loop-at.kept c.loop-at.invariant b in
          IsReadTo-along _ _ _ _ _ _ _ _ w.line-is w.count-is w.kept-is r
      | in-Spelling+in_ok-keep-in-Spelling w ↦
          let b = subst (λ z. IsFront (drop c.loop-at.at c.args.bytes.now) z c.in-Ok.piece.1) w.in-Spelling.is f in
          let r = IsReadTo-spelling c.args.bytes.now c.loop-at.at c.loop-at.line c.loop-at.count c.in-Ok.piece.1 c.loop-at.kept c.loop-at.invariant w.in-Spelling.kind b in
          IsReadTo-along _ _ _ _ _ _ _ _ w.line-is w.count-is (w.kept-is ∙ w.in_ok-keep-in-Spelling.ensures) r
    ]

pub returns-then-count-gt-MOST_TOKENS-clause-too_many : goal.returns-then-count-gt-MOST_TOKENS-clause-too_many
returns-then-count-gt-MOST_TOKENS-clause-too_many c = λ e.
    too_many c.args.bytes.now c.loop-at.at c.loop-at.line c.loop-at.count c.loop-at.kept c.loop-at.invariant c.loop-at-test.false c.if-count-gt-MOST_TOKENS.true

pub returns-then-count-gt-MOST_TOKENS-clause-tokens_are_told : goal.returns-then-count-gt-MOST_TOKENS-clause-tokens_are_told
returns-then-count-gt-MOST_TOKENS-clause-tokens_are_told c = λ found h.
    let m = too_many c.args.bytes.now c.loop-at.at c.loop-at.line c.loop-at.count c.loop-at.kept c.loop-at.invariant c.loop-at-test.false c.if-count-gt-MOST_TOKENS.true in
    absurd (omega (arith, h.few, m.2, ap length (tokens-unique c.args.bytes.now found.tokens m.0 h.tokens m.1)))

pub returns-then-count-gt-MOST_TOKENS-clause-stray_is_told : goal.returns-then-count-gt-MOST_TOKENS-clause-stray_is_told
returns-then-count-gt-MOST_TOKENS-clause-stray_is_told c = λ at s.
    let m = too_many c.args.bytes.now c.loop-at.at c.loop-at.line c.loop-at.count c.loop-at.kept c.loop-at.invariant c.loop-at-test.false c.if-count-gt-MOST_TOKENS.true in
    absurd (stray-no_tokens c.args.bytes.now at m.0 s m.1)

pub from_parts-requires : goal.from_parts-requires
from_parts-requires c = kept_few c.args.bytes.now c.loop-at.at c.loop-at.line c.loop-at.count c.loop-at.kept c.loop-at.invariant

pub returns-clause-tokens : goal.returns-clause-tokens
returns-clause-tokens c =
    lexed c.args.bytes.now c.loop-at.at c.loop-at.line c.loop-at.count c.loop-at.kept c.loop-at.invariant c.loop-at-test.false c.if-count-gt-MOST_TOKENS.false
    c.from_parts.result c.from_parts.ensures.tokens c.from_parts.ensures.line

pub returns-clause-tokens_are_told : goal.returns-clause-tokens_are_told
returns-clause-tokens_are_told c = λ found h.
    let own = lexed c.args.bytes.now c.loop-at.at c.loop-at.line c.loop-at.count c.loop-at.kept c.loop-at.invariant c.loop-at-test.false c.if-count-gt-MOST_TOKENS.false
    c.from_parts.result c.from_parts.ensures.tokens c.from_parts.ensures.line in
    inl (ap Ok (lexed-unique c.args.bytes.now c.from_parts.result found own h))

pub returns-clause-stray_is_told : goal.returns-clause-stray_is_told
returns-clause-stray_is_told c = λ at s.
    absurd (stray-no_tokens c.args.bytes.now at c.loop-at.kept s
    (kept_all c.args.bytes.now c.loop-at.at c.loop-at.line c.loop-at.count c.loop-at.kept c.loop-at.invariant c.loop-at-test.false c.if-count-gt-MOST_TOKENS.false))

pub returns-clause-too_many_is_told : goal.returns-clause-too_many_is_told
returns-clause-too_many_is_told c = λ h.
    let t = kept_all c.args.bytes.now c.loop-at.at c.loop-at.line c.loop-at.count c.loop-at.kept c.loop-at.invariant c.loop-at-test.false c.if-count-gt-MOST_TOKENS.false in
    absurd (omega (
      arith,
      h.2,
      kept_few c.args.bytes.now c.loop-at.at c.loop-at.line c.loop-at.count c.loop-at.kept c.loop-at.invariant,
      ap length (tokens-unique c.args.bytes.now h.0 c.loop-at.kept h.1 t),
    ))
