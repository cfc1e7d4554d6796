-- The laws of the readers of what stands between two terminals.
use Rattle.std.proofs.Common.{ℕ, List, [], ◌∷◌, ◌++◌, refl}
use Rattle.ep_tree.specs.declared.terminal.Terminal.{Terminal}
use Rattle.ep_tree.specs.declared.terminal.Terminal.TheVariants as the
use Rattle.ep_tree.specs.Grammar.{Grammar}
use Rattle.ep_tree.specs.Marks.{fixed}
use Rattle.ep_tree.specs.Terminals.{is_name}
use Rattle.ep_reader.specs.Reading.{Token, Reader, within, each, braced}
use Rattle.ep_reader.proofs.Laws.{Follow}
use Rattle.ep_reader.proofs.Readers.{Reads, Part, Any, Next, pair, then, made_all, is-text_of, next_lacks, plain_reads, plain_part}
use Rattle.ep_reader.proofs.ListLaws.{StartsWith, each_of, each_part}

abbrev pub within_of : {A : Type 0} → Terminal → Grammar A → Terminal → Grammar A
within_of left g right = record { marks = λ a. fixed left ∷ (g.marks a ++ fixed right ∷ []); IsFormed = g.IsFormed; bare = g.bare }

pub within_reads : {A : Type 0} {g : Grammar A} {F : Follow} {item : Reader A} (left right : Terminal) → Part g (Next right) item → (n : ℕ) (ts : List Token)
    → Reads (within_of left g right) F n ts (within left item right n ts)
within_reads {A} {g} {F} {item} left right p n ts =
    made_all (record { marks = λ _ _. refl; formed = λ _ f. f.0.1; bare = λ _. refl }) (λ b f. record { from = ((0, b), 0); formed = ((tt, f), tt); is = refl })
    (pair (then (plain_reads left n ts) p) (plain_part right) (λ _ _ _ _. is-text_of right))

pub within_part : {A : Type 0} {g : Grammar A} {F : Follow} {item : Reader A} (left right : Terminal) → Part g (Next right) item → Part (within_of left g right) F (within left item right)
within_part left right p = record { reads = within_reads left right p; value = p.value; formed = p.formed }

-- ---- between braces

abbrev pub braced_of : {A : Type 0} → Grammar A → Grammar A
braced_of g = within_of the.OpenBrace g the.CloseBrace

pub braced_part : {A : Type 0} {g : Grammar A} {F : Follow} {item : Reader A} → Part g (Next the.CloseBrace) item → Part (braced_of g) F (braced item)
braced_part p = within_part the.OpenBrace the.CloseBrace p

-- '{' { item } '}', where an item begins with a name
pub named_entries_part : {A : Type 0} {g : Grammar A} {F : Follow} {item : Reader A} → Part g Any item → StartsWith is_name g → Part (braced_of (each_of g)) F (braced (each is_name item))
named_entries_part {A} {g} {F} {item} p starts =
    braced_part (each_part is_name g Any (Next the.CloseBrace) item p starts (λ _ _ _. tt) (λ _ _. tt) (next_lacks the.CloseBrace is_name refl))
