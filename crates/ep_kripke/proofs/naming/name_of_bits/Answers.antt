use Rattle.std.proofs.Common.{◌≡◌, ◌∙◌, ap, sym, subst, length, arith, [], get_or, false, replicate, List, Bool, ℕ}
use Rattle.std.proofs.lemmas.List.{length-replicate}
use Rattle.std.proofs.lemmas.Result.{IfOk-weaker}
use Rattle.ep_logic.specs.Numbers.{table, has_number}
use Rattle.ep_logic.specs.Packed.{unpacked}
use Rattle.ep_kripke.specs.Relations.{members}
use Rattle.ep_kripke.proofs.NamingLemmas.{marked, marked_row, blank_again}
use Rattle.ep_kripke.proofs.naming.name_of_bits.Goals as goal

row_is : (c : goal.After-write_all-2) → c.write_all.new.bits ≡ table (has_number c.args.row.now) c.args.table.now.width
row_is c = marked_row c.args.table.now.width c.args.blank.now c.write_all.new.bits c.args.row.now c.requires.blank c.write_all.ensures.long c.write_all.ensures.each

pub returns-clause-row : goal.returns-clause-row
returns-clause-row c =
    let width : length c.write_all.new.bits ≡ c.args.table.now.width = c.write_all.ensures.long ∙ ap length c.requires.blank ∙ length-replicate c.args.table.now.width false in
    let words : unpacked c.words.result.now c.args.table.now.width ≡ table (has_number c.args.row.now) c.args.table.now.width =
    ap (unpacked c.words.result.now) (sym width) ∙ c.words.ensures.value ∙ row_is c in
    IfOk-weaker c.name_of_words-named.result
    (λ name. get_or c.name_of_words-named.new.table.rows name [] ≡ unpacked c.words.result.now c.args.table.now.width)
    (λ name. members (get_or c.name_of_words-named.new.table.rows name []) ≡ c.args.row.now)
    (λ name e. ap members (e ∙ words) ∙ marked c.args.row.now c.args.table.now.width c.requires.rising c.requires.within)
    c.name_of_words-named.ensures.row

pub returns-clause-blank : goal.returns-clause-blank
returns-clause-blank c =
    blank_again c.args.table.now.width c.args.blank.now c.write_all.new.bits c.write_all-2.new.bits c.args.row.now c.requires.blank c.write_all.ensures.long c.write_all-2.ensures.long
    c.write_all.ensures.each c.write_all-2.ensures.each
