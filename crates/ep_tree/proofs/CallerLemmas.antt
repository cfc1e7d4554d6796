-- What the crates above cite of the proofs of this one. All else is its own.
pub use Rattle.ep_tree.proofs.TreeEquations.{formula_at-True, formula_at-False, formula_at-Atom, formula_at-Not, formula_at-Knows, formula_at-Common, formula_at-Forall, formula_at-Exists, formula_at-Equal, formula_at-Paren, formula_at-And, formula_at-Or, formed-True, formed-False, formed-Atom, formed-Not, formed-Knows, formed-Common, formed-Forall, formed-Exists, formed-Equal, formed-Paren, formed-And, formed-Or, bare-True, bare-False, bare-Atom, bare-Not, bare-Knows, bare-Common, bare-Forall, bare-Exists, bare-Equal, bare-Paren, bare-And, bare-Or}
pub use Rattle.ep_tree.proofs.MarkTexts.{length-texts, texts-append}
pub use Rattle.ep_tree.proofs.NestingLemmas.{nested_formula, nesting-roll, shallow-left, shallow-right}
pub use Rattle.ep_tree.proofs.ReadLemmas.{is_read}
