use Rattle.std.proofs.Common.{◌≡◌, ◌∷◌, ◌++◌, [], sym, ap, subst, ◌∙◌, nat_eq, ◌==◌, ◌&&◌}
use Rattle.std.specs.Cmp.Lexicographic.{pointwise}
use Rattle.std.specs.Map.{values_of}
use Rattle.indexmap.proofs.CallerLemmas.{insert_entry-new}
use Rattle.ep_theory.specs.Rising.{IsIn}
use Rattle.ep_logic.specs.Packed.{unpacked}
use Rattle.ep_kripke.specs.declared.row.Words.{Words}
use Rattle.ep_kripke.specs.RowTables.{IsTable, IsRow, IsKeyed}
use Rattle.ep_kripke.proofs.RowTableLemmas.{none_found, table_push, values-push}
use Rattle.ep_kripke.proofs.row_table.RowTable.put.Goals as goal

-- the key is the row's
keyed : (c : goal.Joined-branch-4) → IsKeyed (c.in_ok-key.key, c.in_ok-row.row)
keyed c = record {
  words = subst (λ (w : Words). IsRow w.items.items w.len) (sym c.in_ok-key.ensures.cases) c.row.invariant;
  row = c.in_ok-row.ensures ∙ sym c.row.view_is ∙ ap (λ (w : Words). unpacked w.items.items w.len) (sym c.in_ok-key.ensures.cases);
}

absent : (c : goal.Joined-branch-4) → IsIn c.in_ok-row.row (values_of c.self.inside.rows.entries) → ⊥
absent c i = c.requires (subst (λ rows. IsIn c.args.row.now rows) c.self.view_is (subst (λ r. IsIn r (values_of c.self.inside.rows.entries)) c.in_ok-row.ensures i))

entries : (c : goal.Joined-branch-4) → c.insert.new.self.entries ≡ c.self.inside.rows.entries ++ (c.in_ok-key.key, c.in_ok-row.row) ∷ []
entries c =
    let k = keyed c in
    c.in_ok-insert.ensures.entries
    ∙ insert_entry-new (λ x y. pointwise nat_eq x.value.items.items y.value.items.items && (x.value.len == y.value.len)) c.self.inside.rows c.in_ok-key.key c.in_ok-row.row
    (none_found c.in_ok-key.key.value.items.items c.in_ok-key.key.value.len c.in_ok-row.row k.words (sym k.row) c.self.inside.rows.entries c.self.invariant.keyed (absent c))

pub invariant_of-self-2 : goal.invariant_of-self-2
invariant_of-self-2 c = subst IsTable (sym (entries c)) (table_push c.self.inside.rows.entries (c.in_ok-key.key, c.in_ok-row.row) c.self.invariant (keyed c) (absent c))

pub returns-clause-ok : goal.returns-clause-ok
returns-clause-ok c =
    ap values_of (entries c)
    ∙ values-push c.self.inside.rows.entries (c.in_ok-key.key, c.in_ok-row.row)
    ∙ (λ i. c.self.view_is i ++ c.in_ok-row.ensures i ∷ [])
