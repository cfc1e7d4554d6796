-- How many fluents a tree has that is read.
use Rattle.std.proofs.Common.{◌≡◌, ℕ, ◌+◌, ◌≤◌, List, [], ◌∷◌, ◌++◌, length, map, arith}
use Rattle.std.specs.List.{flat_map}
use Rattle.std.proofs.lemmas.List.{length-append, length-map}
use Rattle.ep_lex.specs.declared.limits.TheConstants.{MOST_TOKENS}
use Rattle.ep_tree.specs.Grammar.{IsRead}
use Rattle.ep_tree.specs.Marks.{Mark, fixed}
use Rattle.ep_tree.specs.Spelling as spell
use Rattle.ep_tree.specs.declared.terminal.Terminal.TheVariants as the
use Rattle.ep_tree.specs.declared.tree.TaskTree.{TaskTree}
use Rattle.ep_universe.proofs.EndLemmas.{long-left, long-right}

-- where each item has a mark at least
pub many : {X : Type 0} (f : X → List Mark) → ((x : X) → 1 ≤ length (f x)) → (xs : List X) → length xs ≤ length (flat_map f xs)
many f h [] = omega arith
many f h (x ∷ xs) =
    let long = length-append (f x) (flat_map f xs) in
    let here = h x in
    let rest = many f h xs in
    omega (arith, long, here, rest)

pub braced : (ms : List Mark) → length (spell.braced ms) ≡ length ms + 2
braced ms = let long = length-append ms (fixed the.CloseBrace ∷ []) in omega (arith, long)

pub few_fluents : (t : TaskTree) → IsRead t → length t.fluents ≤ MOST_TOKENS
few_fluents t h =
    let few = h.few in
    let all = length-map (spell.task t) (λ (m : Mark). m.text) in
    let behind = spell.init t.init ++ (flat_map spell.schema t.schemas ++ (fixed the.Goal ∷ (spell.formula t.goal ++ fixed the.Semicolon ∷ []))) in
    let mine = long-left (spell.fluents t.fluents) behind MOST_TOKENS
    (long-right (spell.objects t.objects) (spell.fluents t.fluents ++ behind) MOST_TOKENS
    (long-right (spell.types t.types) (spell.objects t.objects ++ (spell.fluents t.fluents ++ behind)) MOST_TOKENS
    (long-right (spell.frames t.s5) (spell.types t.types ++ (spell.objects t.objects ++ (spell.fluents t.fluents ++ behind))) MOST_TOKENS (omega arith)))) in
    let each = many spell.fluent_entry (λ f. omega arith) t.fluents in
    let long = braced (flat_map spell.fluent_entry t.fluents) in
    omega (arith, mine, each, long)
