-- Each line may stand at its place.
use Rattle.std.proofs.Common.{◌<◌, length, subst, sym, ◌∙◌, arith}
use Rattle.std.proofs.lemmas.List.{get_or_default}
use Rattle.ep_apart.specs.declared.lines.Line.{Line}
use Rattle.ep_apart.specs.Lines.{IsLine}
use Rattle.ep_compare.proofs.LineLemmas.{line_at}
use Rattle.ep_compare.proofs.apart_text.push_lines.Goals as goal

pub push_line-requires : goal.push_line-requires
push_line-requires c =
    let t = c.args.task.now in
    let k = c.loop-place.place in
    let within : k < length c.args.parts.now = omega arith in
    let e = c.index-parts-place.is ∙ get_or_default c.args.parts.now k c.index-parts-place.result Line.True within in
    subst (λ l. IsLine (length t.agents) (length t.atoms) k l) (sym e) (line_at (length t.agents) (length t.atoms) k c.args.parts.now c.requires within)
