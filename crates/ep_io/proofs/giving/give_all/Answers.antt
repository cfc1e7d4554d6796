use Rattle.std.proofs.Common.{◌≡◌, List, ℕ, ◌++◌, ◌-◌, length, take, drop, [], ◌∷◌, Option, Result, Ok, Err, ap, ◌∙◌, sym, subst, append_assoc, append-nil, take_all, length-drop, arith}
use Rattle.std.proofs.Math.Seq.{take-append_seam}
use Rattle.std.proofs.lemmas.List.{take-append-drop}
use Rattle.std.specs.Io.KnownBytes.{Appends, WriteAppends}
use Rattle.std.specs.Result.{result_unwrap_or}
use Rattle.std.proofs.KnownBytes.{Appends-trans, Appends-nil, Appends-kept}
use Rattle.ep_io.proofs.giving.give_all.Goals as goal

-- a piece moves from the front of what is left to the end of what is written
move_piece : (bytes written rest : List ℕ) (n : ℕ) → bytes ≡ written ++ rest
    → bytes ≡ (written ++ take n rest) ++ take (length rest - n) (drop n rest)
move_piece bytes written rest n is =
    is ∙ ap (λ (r : List ℕ). written ++ r) (sym (take-append-drop n rest))
    ∙ sym (append_assoc written (take n rest) (drop n rest))
    ∙ ap (λ (r : List ℕ). (written ++ take n rest) ++ r) (sym (take_all (length rest - n) (drop n rest) (omega (arith, length-drop n rest))))

none_of : (xs : List ℕ) → take 0 xs ≡ []
none_of [] = λ _. []
none_of (x ∷ xs) = λ _. []

-- a write that fails writes nothing
wrote : {E : Type 0} (old new : Option (List ℕ)) (r : Result ℕ E) (buf : List ℕ) (n : ℕ) → WriteAppends old new r buf → n ≡ result_unwrap_or r 0 → Appends old new (take n buf)
wrote old new (Ok m) buf n h e = subst (λ k. Appends old new (take k buf)) (sym e) h
wrote old new (Err x) buf n h e =
    subst (λ k. Appends old new (take k buf)) (sym e) (subst (Appends old new) (sym (none_of buf)) (Appends-kept old old new [] (Appends-nil old) h))

-- what was written is a front of the bytes
front : (old mid new : Option (List ℕ)) (bytes written rest : List ℕ) → Appends old mid written → bytes ≡ written ++ rest → Appends mid new []
    → Appends old new (take (length written) bytes)
front old mid new bytes written rest h is none =
    subst (Appends old new) (append-nil written ∙ sym (ap (take (length written)) is ∙ take-append_seam written rest)) (Appends-trans old mid new written [] h none)

-- the piece that was written stands behind what was written before
pub loop-rest-preserved : goal.loop-rest-preserved
loop-rest-preserved g c =
    let w = c.loop-rest.invariant.0 in
    let n = c.unwrap_or-written.result in (
      (
        w.0 ++ take n c.loop-rest.rest.now,
        Appends-trans _ _ _ _ _ w.1 (wrote _ _ c.write.result c.loop-rest.rest.now n c.write.ensures.bytes c.unwrap_or-written.ensures),
        move_piece _ w.0 c.loop-rest.rest.now n w.2,
      ),
      c.loop-rest.invariant.1,
    )

pub returns-then-written-eq0-clause-prefix : goal.returns-then-written-eq0-clause-prefix
returns-then-written-eq0-clause-prefix g c =
    let w = c.loop-rest.invariant.0 in
    let rest = c.loop-rest.rest.now in
    let none = wrote _ _ c.write.result rest 0 c.write.ensures.bytes (sym c.if-written-eq0.true ∙ c.unwrap_or-written.ensures) in
    (length w.0, front _ _ _ _ w.0 rest w.1 w.2 (subst (Appends _ _) (none_of rest) none))
