use Rattle.std.proofs.Common.{length, sym, ap, ◌∙◌}
use Rattle.ep_kripke.specs.declared.row.Words.{Words}
use Rattle.ep_kripke.proofs.WordLemmas.{length-unpacked}
use Rattle.ep_kripke.proofs.row.Row.len.Goals as goal

pub returns : goal.returns
returns c =
    let w = c.self.inside.words.value in
    ap (λ (x : Words). x.len) c.deref.ensures ∙ sym (length-unpacked w.items.items w.len) ∙ ap length c.self.view_is
