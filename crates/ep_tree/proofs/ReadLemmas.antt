-- Trees that read the tokens of a text.
use Rattle.std.proofs.Common.{ℕ, ◌≤◌, List, length, sym, subst, arith}
use Rattle.std.proofs.lemmas.List.{length-map}
use Rattle.ep_lex.specs.declared.limits.TheConstants.{MOST_TOKENS}
use Rattle.ep_lex.specs.Tokens.{spelling, spellings}
use Rattle.ep_lex.specs.declared.token.Token.{Token}
use Rattle.ep_tree.specs.Grammar.{IsRead, Reads, tasks}
use Rattle.ep_tree.specs.declared.tree.TaskTree.{TaskTree}

pub is_read : (bytes : List ℕ) (tokens : List Token) (t : TaskTree) → length tokens ≤ MOST_TOKENS → Reads tasks (spellings bytes tokens) t → IsRead t
is_read bytes tokens t few reads = record {
  formed = reads.formed;
  shallow = reads.shallow;
  few = subst (λ (ts : List (List ℕ)). length ts ≤ MOST_TOKENS) (sym reads.spelled) (omega (arith, length-map tokens (spelling bytes)));
}
