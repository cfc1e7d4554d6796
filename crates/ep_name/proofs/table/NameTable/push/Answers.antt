use Rattle.std.proofs.Common.{◌≡◌, ◌≢◌, ◌∷◌, [], ◌++◌, All, length, None, ap, subst, sym, ◌∙◌, arith}
use Rattle.std.specs.Prelude.{nat_eq}
use Rattle.std.specs.Cmp.Lexicographic.{pointwise}
use Rattle.std.proofs.lemmas.List.{length-map}
use Rattle.indexmap.proofs.CallerLemmas.{insert_entry-new}
use Rattle.ep_name.specs.Tables.{texts_of, IsTable}
use Rattle.ep_name.proofs.TableLemmas.{at, absent, texts-push, table-push}
use Rattle.ep_name.proofs.table.NameTable.push.Goals as goal

pub invariant_of-self-2 : goal.invariant_of-self-2
invariant_of-self-2 c =
    let es = c.self.inside.map.entries in
    let same : c.in_ok-key.key.items ≡ c.args.text = c.in_ok-key.ensures.items ∙ c.as_slice.ensures.value in
    let new : All (λ y. y ≢ c.args.text) (texts_of es) = subst (All (λ y. y ≢ c.args.text)) (sym c.self.view_is) c.requires.new in
    let none : at c.in_ok-key.key.items es ≡ None = ap (λ q. at q es) same ∙ absent c.args.text es c.self.invariant.0 new in
    let grown : c.insert.new.self.entries ≡ es ++ (c.in_ok-key.key, c.args.text) ∷ [] =
    c.in_ok-insert.ensures.entries ∙ insert_entry-new (λ x y. pointwise nat_eq x.items y.items) c.self.inside.map c.in_ok-key.key c.args.text none in
    let long : length es ≡ length c.args.self.now = sym (length-map es (λ e. e.1)) ∙ ap length c.self.view_is in
    subst IsTable (sym grown) (table-push es (c.in_ok-key.key, c.args.text) c.self.invariant same new (let r = c.requires.room in omega arith))

pub returns-clause-ok : goal.returns-clause-ok
returns-clause-ok c =
    let es = c.self.inside.map.entries in
    let same : c.in_ok-key.key.items ≡ c.args.text = c.in_ok-key.ensures.items ∙ c.as_slice.ensures.value in
    let new : All (λ y. y ≢ c.args.text) (texts_of es) = subst (All (λ y. y ≢ c.args.text)) (sym c.self.view_is) c.requires.new in
    let none : at c.in_ok-key.key.items es ≡ None = ap (λ q. at q es) same ∙ absent c.args.text es c.self.invariant.0 new in
    let grown : c.insert.new.self.entries ≡ es ++ (c.in_ok-key.key, c.args.text) ∷ [] =
    c.in_ok-insert.ensures.entries ∙ insert_entry-new (λ x y. pointwise nat_eq x.items y.items) c.self.inside.map c.in_ok-key.key c.args.text none in
    ap texts_of grown ∙ texts-push es (c.in_ok-key.key, c.args.text) ∙ ap (λ ts. ts ++ c.args.text ∷ []) c.self.view_is
