-- Pieces of text: where they end, and what stands in them.
use Rattle.std.proofs.Common.{◌≡◌, ◌≢◌, ℕ, zero, suc, ◌+◌, ◌<◌, ◌≤◌, ◌^◌, List, [], ◌∷◌, ◌++◌, map, All, Option, Some, None, Ok, refl, sym, ap, ◌∙◌, subst, arith, decimal, codes, append_assoc}
use Rattle.std.specs.Prelude.{MatchOption}
use Rattle.std.proofs.lemmas.List.{append_cancel_left}
use Rattle.std.proofs.lemmas.List.Elements.{All-nil, All-cons, All-head, All-tail}
use Rattle.std.proofs.lemmas.Fmt.{decimal_digit, decimal-digits_of}
use Rattle.ep_theory.specs.Kripke.{Kripke}
use Rattle.ep_bytes.specs.Bytes.{bytes_of}
use Rattle.ep_audit.specs.Lines.{map_text, entry_head, entry_line, step_head, stuck_line, to_line}
use Rattle.hex.specs.Hex.{IsBytes, decode_of, encode_lower}
use Rattle.hex.proofs.HexLemmas.{decode_of-encode_lower}

-- a piece ends at the first c
pub cut_once : (c : ℕ) (x y a b : List ℕ) → All (λ n. n ≢ c) x → All (λ n. n ≢ c) y → x ++ c ∷ a ≡ y ++ c ∷ b → (x ≡ y) × (a ≡ b)
cut_once c [] [] a b h k e = (refl, cc)
cut_once c [] (n ∷ y) a b h k e = absurd (All-head (λ n. n ≢ c) n y k (cc))
cut_once c (n ∷ x) [] a b h k e = absurd (All-head (λ n. n ≢ c) n x h (cc))
cut_once c (n ∷ x) (m ∷ y) a b h k e =
    let rest = cut_once c x y a b (All-tail (λ n. n ≢ c) n x h) (All-tail (λ n. n ≢ c) m y k) (cc) in
    let one : n ≡ m = cc in
    (let first = rest.0 in cc, rest.1)

above : (c : ℕ) → c < 48 → (ds : List ℕ) → All (λ n. n ≢ c) (map (λ d. 48 + d) ds)
above c l [] = All-nil (λ n. n ≢ c)
above c l (d ∷ ds) = All-cons (λ n. n ≢ c) (48 + d) (map (λ d. 48 + d) ds) (λ e. absurd (omega (arith, e, l))) (above c l ds)

-- a space, a comma and a line feed are no digits
pub decimal_lacks : (c : ℕ) → c < 48 → (n : ℕ) → n < 2 ^ 64 → All (λ b. b ≢ c) (decimal n)
decimal_lacks c l zero h = subst (All (λ b. b ≢ c)) (sym (decimal_digit 0 (omega arith))) (All-cons (λ b. b ≢ c) 48 [] (λ e. absurd (omega (arith, e, l))) (All-nil (λ b. b ≢ c)))
decimal_lacks c l (suc n) h = subst (All (λ b. b ≢ c)) (sym (decimal-digits_of (suc n) (omega arith) h)) (above c l _)

-- bytes are told by their hexadecimal text
pub same_hex : (xs ys : List ℕ) → IsBytes xs → IsBytes ys → encode_lower xs ≡ encode_lower ys → xs ≡ ys
same_hex xs ys h k e =
    let one : Ok xs ≡ Ok ys = sym (decode_of-encode_lower xs h) ∙ ap decode_of e ∙ decode_of-encode_lower ys k in cc

-- ---- lines from their heads on

pub entry_parts : (i : ℕ) (e : Kripke × ℕ) → entry_line i e ≡ entry_head i ++ (decimal e.1 ++ 32 ∷ encode_lower (bytes_of e.0))
entry_parts i e = append_assoc (entry_head i ++ decimal e.1) (codes " ") (encode_lower (bytes_of e.0)) ∙ append_assoc (entry_head i) (decimal e.1) (32 ∷ encode_lower (bytes_of e.0))

pub stuck_parts : (i : ℕ) (name : List ℕ) (w : ℕ) → stuck_line i name w ≡ step_head i ++ (name ++ (codes " stuck " ++ decimal w))
stuck_parts i name w = append_assoc (step_head i ++ name) (codes " stuck ") (decimal w) ∙ append_assoc (step_head i) name (codes " stuck " ++ decimal w)

pub to_parts : (i : ℕ) (name : List ℕ) (j : ℕ) (m : List (Option ℕ)) → to_line i name j m ≡ step_head i ++ (name ++ (codes " to " ++ (decimal j ++ 32 ∷ (codes "map " ++ map_text m))))
to_parts i name j m =
    append_assoc (step_head i ++ name ++ codes " to " ++ decimal j) (codes " map ") (map_text m)
    ∙ append_assoc (step_head i ++ name ++ codes " to ") (decimal j) (32 ∷ (codes "map " ++ map_text m))
    ∙ append_assoc (step_head i ++ name) (codes " to ") (decimal j ++ 32 ∷ (codes "map " ++ map_text m))
    ∙ append_assoc (step_head i) name (codes " to " ++ (decimal j ++ 32 ∷ (codes "map " ++ map_text m)))

-- a number behind a head
pub number_after : (line head digits : List ℕ) (most : ℕ) (r : Option ℕ) → line ≡ head ++ digits
    → MatchOption r ((n : ℕ) → n ≤ most → digits ≢ decimal n) (λ n. (digits ≡ decimal n) × (n ≤ most))
    → MatchOption r ((n : ℕ) → n ≤ most → line ≢ head ++ decimal n) (λ n. (line ≡ head ++ decimal n) × (n ≤ most))
number_after line head digits most None e h = λ n le k. h n le (append_cancel_left head digits (decimal n) (sym e ∙ k))
number_after line head digits most (Some n) e h = (e ∙ ap (λ d. head ++ d) h.0, h.1)
