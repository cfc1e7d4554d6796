use Rattle.std.proofs.Common.{inr, refl, sym, ◌∙◌}
use Rattle.ep_apart.proofs.ApartLemmas.{not_among}
use Rattle.ep_apart.proofs.apart.nearer.Goals as goal

pub returns : goal.returns
returns c = inr (refl, not_among c.args.others.now c.args.x (sym c.contains.ensures.value ∙ c.if-contains.false))
