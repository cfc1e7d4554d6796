use Rattle.std.proofs.Common.{◌≡◌, ◌∙◌, ◌+◌, ◌<◌, ◌++◌, ◌∷◌, [], ℕ, ap, subst, sym, length, get_or, arith}
use Rattle.std.proofs.lemmas.List.{get_or_default, length-map}
use Rattle.ep_kripke.specs.Relations.{RowsSeen, named_rows}
use Rattle.ep_kripke.specs.Kept.{kept_rows, names_of, IsNaming}
use Rattle.ep_kripke.proofs.NameLemmas.{length-named}
use Rattle.ep_kripke.proofs.NamingLemmas.{again, IsAgain}
use Rattle.ep_kripke.proofs.naming.Naming.push_again.Goals as goal

many : (c : goal.After-self-1) → length c.self.inside.pushed.items ≡ length c.args.self.now.rows
many c = sym (length-map c.self.inside.pushed.items (λ (p : ℕ × ℕ). p.0)) ∙ sym (length-named (names_of c.self.inside.pushed.items) (kept_rows c.self.inside.kept)) ∙ ap (λ (s : RowsSeen). length s.rows) c.self.view_is

once_more : (c : goal.After-self-1) → IsAgain c.self.inside.worlds c.self.inside.kept c.self.inside.blank c.self.inside.pushed.items c.self.inside.links c.args.at c.index.result.now.0 c.index.result.now.1
once_more c =
    let l : c.args.at < length c.self.inside.pushed.items = omega (arith, many c, c.requires.place) in
    again c.self.inside.worlds c.self.inside.kept c.self.inside.blank c.self.inside.pushed.items c.self.inside.links c.args.at c.index.result.now.0 c.index.result.now.1 c.self.invariant
    l (omega (arith, many c, c.requires.room)) (c.index.ensures ∙ get_or_default c.self.inside.pushed.items c.args.at c.index.result.now (0, 0) l)

pub invariant_of-self-2 : goal.invariant_of-self-2
invariant_of-self-2 c =
    subst (λ ns. IsNaming c.self.inside.worlds c.self.inside.kept c.self.inside.blank ns (c.self.inside.links + c.from.result)) (sym c.in_ok-push.ensures.items)
    (subst (λ k. IsNaming c.self.inside.worlds c.self.inside.kept c.self.inside.blank (c.self.inside.pushed.items ++ c.index.result.now ∷ []) (c.self.inside.links + k)) (sym c.from.ensures) (once_more c).naming)

pub returns : goal.returns
returns c =
    ap (λ ns. record { worlds = c.self.inside.worlds; rows = named_rows (names_of ns) (kept_rows c.self.inside.kept) }) c.in_ok-push.ensures.items
    ∙ ap (λ rs. record { worlds = c.self.inside.worlds; rows = rs }) (once_more c).rows
    ∙ ap (λ (s : RowsSeen). record { worlds = s.worlds; rows = s.rows ++ get_or s.rows c.args.at [] ∷ [] }) c.self.view_is
