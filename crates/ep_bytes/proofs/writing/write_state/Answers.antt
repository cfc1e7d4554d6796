use Rattle.std.proofs.Common.{◌++◌, ap, ◌∙◌}
use Rattle.std.specs.List.{flat_map}
use Rattle.ep_bytes.specs.Bytes.{row_bytes, bytes_of}
use Rattle.ep_kripke.specs.Interning.{row_of, successor_rows}
use Rattle.ep_bytes.proofs.writing.write_state.Goals as goal

pub returns-clause-value : goal.returns-clause-value
unfolding bytes_of
returns-clause-value c =
    let S = c.args.s.now in
    let truths = c.in_ok-put_truths.ensures ∙ ap (λ l. l ++ flat_map row_bytes S.truth) c.in_ok-bytes.ensures.value in
    let links = c.in_ok-put_links.ensures ∙ ap (λ l. l ++ flat_map (λ pairs. flat_map row_bytes (successor_rows S.worlds pairs)) S.links) truths in
    c.from_vec.ensures
    ∙ c.in_ok-put_numbers.ensures
    ∙ (λ i. links i ++ row_bytes (row_of (c.worlds.ensures.value i) (c.designated.ensures.value i)))
