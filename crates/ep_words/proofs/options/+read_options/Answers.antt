use Rattle.std.proofs.Common.{rules, ◌≡◌, [], ◌∷◌, map, string_bytes}
use Rattle.ep_words.specs.Options.{option_words}
use Rattle.ep_words.proofs.ListLemmas.{map-none, map-two}
use Rattle.ep_words.proofs.OptionLemmas.{read_on, read_none}
use Rattle.ep_words.proofs.options.+read_options.Goals as goal

pub returns-in-empty : goal.returns-in-empty
returns-in-empty t c = read_none (map string_bytes c.args.words.now) c.args.options (map-none string_bytes c.args.words.now c.in-empty.len_below)

pub returns-else-has : goal.returns-else-has
returns-else-has t c =
    let words = c.args.words.now in
    let option = c.in_ok-option-in-len2-up.option in
    let listed = map-two string_bytes words c.name-item.result c.value-item.result c.in-len2-up.len_at_least c.name-item.is c.value-item.is in
    let read = c.in_ok-option-in-len2-up.ensures in
    let written : option_words option ≡ string_bytes c.name-item.result ∷ string_bytes c.value-item.result ∷ [] = search (rules, read.1, c.as_str.ensures.value, c.as_str-in-len2-up.ensures.value) in
    read_on (map string_bytes words) _ _ _ c.args.options c.and.result option c.read_options.result listed written read.0 (c.has.ensures.0 (search (rules, c.if-has.false))) c.and.ensures c.read_options.ensures
