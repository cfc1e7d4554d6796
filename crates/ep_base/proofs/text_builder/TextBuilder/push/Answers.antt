use Rattle.std.proofs.Common.{◌<◌, All, sym, subst}
use Rattle.ep_base.proofs.AsciiLemmas.{all_below}
use Rattle.ep_base.proofs.text_builder.TextBuilder.push.Goals as goal

pub push_bytes-requires : goal.push_bytes-requires
push_bytes-requires c = subst (All (λ b. b < 128)) (sym c.as_bytes.ensures.value) (all_below c.args.piece.now c.requires)
