use Rattle.std.proofs.Common.{◌≡◌, ◌++◌, ◌∷◌, [], None, ap, ◌∙◌}
use Rattle.std.specs.Prelude.{nat_eq}
use Rattle.std.specs.Cmp.Lexicographic.{pointwise}
use Rattle.std.specs.Map.{lookup}
use Rattle.ep_types.specs.Names.{seen, declared}
use Rattle.ep_types.proofs.NamesLemmas.{seen-append, lookup-seen, declared-absent}
use Rattle.indexmap.proofs.CallerLemmas.{insert_entry-new}
use Rattle.ep_types.proofs.table.Table.add.Goals as goal

pub returns-clause-ok : goal.returns-clause-ok
returns-clause-ok g c =
    let es = c.self.inside.map.entries in
    let name = c.in_ok-key.ensures.items in
    let none : lookup (λ k. pointwise nat_eq c.in_ok-key.key.items k.items) es ≡ None =
    lookup-seen c.in_ok-key.key.items es ∙ ap (λ q. declared q (seen es)) name ∙ ap (declared c.args.name.now) c.self.view_is ∙ declared-absent c.args.name.now c.args.self.now c.requires
    in
    ap seen c.in_ok-insert.ensures.entries
    ∙ ap seen (insert_entry-new (λ x y. pointwise nat_eq x.items y.items) c.self.inside.map c.in_ok-key.key c.args.value none)
    ∙ seen-append es ((c.in_ok-key.key, c.args.value) ∷ [])
    ∙ ap (λ z. seen es ++ (z, c.args.value) ∷ []) name
    ∙ ap (λ z. z ++ (c.args.name.now, c.args.value) ∷ []) c.self.view_is
