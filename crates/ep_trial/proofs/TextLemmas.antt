-- The parts of the text, as they are made piece by piece.
use Rattle.std.proofs.Common.{◌≡◌, ℕ, List, [], ◌∷◌, ◌++◌, map, codes, append_assoc, ap, sym, ◌∙◌}
use Rattle.std.proofs.lemmas.Grind.{flat_map-append}
use Rattle.std.specs.List.{flat_map}
use Rattle.ep_base.specs.Texts.{line}
use Rattle.ep_trial.specs.TrialText.{child, muddy, listed, sees_line, declaration_lines, initial_lines}

-- a list in the middle of a line
within : (xs closing feed more : List ℕ) → ((xs ++ closing) ++ feed) ++ more ≡ xs ++ (closing ++ (feed ++ more))
within xs closing feed more = append_assoc (xs ++ closing) feed more ∙ append_assoc xs closing (feed ++ more)

three : (a b c d : List ℕ) → ((a ++ b) ++ c) ++ d ≡ a ++ (b ++ (c ++ d))
three a b c d = simp append_assoc

five : (a b c d e f : List ℕ) → ((((a ++ b) ++ c) ++ d) ++ e) ++ f ≡ a ++ (b ++ (c ++ (d ++ (e ++ f))))
five a b c d e f = simp append_assoc

pub declared : (children start opened named done : List ℕ) →
    opened ≡ start ++ codes "task muddy ;\ntypes { child < agent ;\n}\nobjects {" →
    named ≡ opened ++ listed child children →
    done ≡ named ++ codes " : child ;\n}\nfluents { muddy ( child ) ;\n}\n" →
    done ≡ start ++ flat_map line (declaration_lines children)
unfolding declaration_lines
declared children start opened named done e f g =
    let head = codes "task muddy ;\ntypes { child < agent ;\n}\nobjects {" in
    let names = listed child children in
    let tail = codes "}\nfluents { muddy ( child ) ;\n}\n" in
    rw (g, f, e) (three start head names (codes " : child ;\n" ++ tail) ∙ ap (λ t. start ++ (head ++ t)) (sym (within names (codes " : child ;") (codes "\n") tail)))

pub begun : (children start opened varied lawful seen done : List ℕ) →
    opened ≡ start ++ codes "init {\nvary {" →
    varied ≡ opened ++ listed muddy children →
    lawful ≡ varied ++ codes " }\nlaw true ;\n" →
    seen ≡ lawful ++ flat_map line (map (sees_line children) children) →
    done ≡ seen ++ codes "designated forall ( c : child ) muddy ( c ) ;\n}\n" →
    done ≡ start ++ flat_map line (initial_lines children)
unfolding initial_lines
begun children start opened varied lawful seen done e f g h i =
    let head = codes "init {\nvary {" in
    let atoms = listed muddy children in
    let law = codes "law true ;\n" in
    let sees = map (sees_line children) children in
    let last = codes "designated forall ( c : child ) muddy ( c ) ;" ∷ codes "}" ∷ [] in
    rw (i, h, g, f, e) (
    five start head atoms (codes " }\n" ++ law) (flat_map line sees) (flat_map line last)
    ∙ ap (λ t. start ++ (head ++ (atoms ++ (codes " }\n" ++ (law ++ t))))) (sym (flat_map-append line sees last))
    ∙ ap (λ t. start ++ (head ++ t)) (sym (within atoms (codes " }") (codes "\n") (law ++ flat_map line (sees ++ last))))
    )
