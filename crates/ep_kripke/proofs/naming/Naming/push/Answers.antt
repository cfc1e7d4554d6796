use Rattle.std.proofs.Common.{◌≡◌, ◌∙◌, ◌+◌, ◌<◌, ◌++◌, ◌∷◌, [], ℕ, ap, subst, sym, length, arith}
use Rattle.std.proofs.lemmas.List.{length-map}
use Rattle.ep_kripke.specs.declared.limits.TheConstants.{MOST_WORLDS}
use Rattle.ep_kripke.specs.Relations.{RowsSeen, named_rows}
use Rattle.ep_kripke.specs.Kept.{kept_rows, names_of, IsNaming}
use Rattle.ep_kripke.proofs.NameLemmas.{length-named}
use Rattle.ep_kripke.proofs.NamingLemmas.{short_row, rows_pushed, is_pushed}
use Rattle.ep_kripke.proofs.naming.Naming.push.Goals as goal

pub overflow_cast-row : goal.overflow_cast-row
overflow_cast-row c =
    let worlds : c.self.inside.worlds ≡ c.args.self.now.worlds = ap (λ (s : RowsSeen). s.worlds) c.self.view_is in
    omega (arith, short_row c.args.row.now c.args.self.now.worlds c.requires.rising c.requires.within, worlds, c.self.invariant.small)

pushed : (c : goal.After-self-1) → c.push.new.self.items ≡ c.self.inside.pushed.items ++ (c.in_ok-name.name, length c.args.row.now) ∷ []
pushed c = c.in_ok-push.ensures.items ∙ ap (λ l. l ++ (c.in_ok-name.name, length c.args.row.now) ∷ []) c.in_ok-reserve.ensures.items

room : (c : goal.After-self-1) → length c.self.inside.pushed.items < MOST_WORLDS
room c = omega (arith, c.requires.room, ap (λ (s : RowsSeen). length s.rows) c.self.view_is, length-named (names_of c.self.inside.pushed.items) (kept_rows c.self.inside.kept), length-map c.self.inside.pushed.items (λ (p : ℕ × ℕ). p.0))

pub invariant_of-self-2 : goal.invariant_of-self-2
invariant_of-self-2 c =
    let worlds : c.self.inside.worlds ≡ c.args.self.now.worlds = ap (λ (s : RowsSeen). s.worlds) c.self.view_is in
    let row = c.args.row.now in
    subst (λ ns. IsNaming c.self.inside.worlds c.name_of.new.kept c.name_of.new.blank ns (c.self.inside.links + length row)) (sym (pushed c))
    (is_pushed c.self.inside.worlds c.self.inside.kept c.name_of.new.kept c.self.inside.blank c.name_of.new.blank c.self.inside.pushed.items c.self.inside.links c.in_ok-name.name row c.self.invariant (room c)
    c.in_ok-name.ensures.more c.in_ok-name.ensures.wide c.in_ok-name.ensures.name c.in_ok-name.ensures.row (omega (arith, short_row c.args.row.now c.args.self.now.worlds c.requires.rising c.requires.within, worlds, c.self.invariant.small)))

pub returns : goal.returns
returns c =
    let worlds : c.self.inside.worlds ≡ c.args.self.now.worlds = ap (λ (s : RowsSeen). s.worlds) c.self.view_is in
    let row = c.args.row.now in
    ap (λ ns. record { worlds = c.self.inside.worlds; rows = named_rows (names_of ns) (kept_rows c.name_of.new.kept) }) (pushed c)
    ∙ ap (λ rs. record { worlds = c.self.inside.worlds; rows = rs })
    (rows_pushed c.self.inside.worlds c.self.inside.kept c.name_of.new.kept c.self.inside.blank c.name_of.new.blank c.self.inside.pushed.items c.self.inside.links c.in_ok-name.name row c.self.invariant (room c)
    c.in_ok-name.ensures.more c.in_ok-name.ensures.wide c.in_ok-name.ensures.name c.in_ok-name.ensures.row (omega (arith, short_row c.args.row.now c.args.self.now.worlds c.requires.rising c.requires.within, worlds, c.self.invariant.small)))
    ∙ ap (λ (s : RowsSeen). record { worlds = s.worlds; rows = s.rows ++ c.args.row.now ∷ [] }) c.self.view_is
