use Rattle.std.proofs.Common.{◌∷◌, ◌-◌, ◌∙◌, map, string_bytes, length, take, drop, ap, sym}
use Rattle.ep_words.proofs.ListLemmas.{map-one}
use Rattle.ep_words.proofs.WordLemmas.{only_if_command}
use Rattle.ep_words.proofs.words.read_words.Goals as goal

pub returns-clause-only : goal.returns-clause-only
returns-clause-only c =
    let words = c.args.words.now in
    let listed = map-one string_bytes words c.verb-item.result c.in-len1-up.len_at_least c.verb-item.is in
    let same = listed ∙ ap (λ v. v ∷ map string_bytes (take (length words - 1) (drop 1 words))) (sym c.as_str.ensures.value) in
    only_if_command (map string_bytes words) _ c.read_command.result c.ok_or.result _ same c.read_command.ensures c.ok_or.ensures.value
