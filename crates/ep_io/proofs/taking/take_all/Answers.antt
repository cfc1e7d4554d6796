-- What was appended is what stands past the old length.
use Rattle.std.proofs.Common.{ℕ, List, ◌≡◌, ◌++◌, sym, ◌∙◌, ap, refl, drop, vec_len, arith, length-drop}
use Rattle.std.proofs.KnownBytes.{Consumes-whole}
use Rattle.std.proofs.lemmas.List.{take-append-drop}
use Rattle.ep_io.proofs.taking.take_all.Goals as goal

pub returns-in-Ok-clause-ok : goal.returns-in-Ok-clause-ok
returns-in-Ok-clause-ok g c =
    let start : ℕ = vec_len c.args.into.now in
    let items : List ℕ = c.read_up_to.new.into.items in
    let whole = c.in-Ok.ensures.whole c.if-n-most.true in (
      drop start items,
      sym (take-append-drop start items) ∙ ap (λ (front : List ℕ). front ++ drop start items) c.in-Ok.ensures.front,
      omega (arith, length-drop start items, c.read_up_to.new.into.ok, c.in-Ok.ensures.ok, c.if-n-most.true),
      Consumes-whole _ _ (drop start items) (λ all. drop start items ≡ all) c.in-Ok.ensures.bytes whole refl,
    )
