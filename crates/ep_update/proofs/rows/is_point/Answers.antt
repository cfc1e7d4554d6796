use Rattle.std.proofs.Common.{ap₂, ◌&&◌, sym, ◌∙◌}
use Rattle.ep_update.proofs.RowLemmas.{has_number_is}
use Rattle.ep_update.proofs.rows.is_point.Goals as goal

pub returns-then-world : goal.returns-then-world
returns-then-world c = sym (ap₂ (λ a b. a && b)
    (has_number_is c.args.s.now.designated c.args.at.0 c.is_designated-world.result c.is_designated-world.ensures.value ∙ c.if-world.true)
    (has_number_is c.args.a.now.designated c.args.at.1 c.is_designated-event.result c.is_designated-event.ensures.value))

pub returns-else-world : goal.returns-else-world
returns-else-world c = c.if-world.false ∙ sym (ap₂ (λ a b. a && b)
    (has_number_is c.args.s.now.designated c.args.at.0 c.is_designated-world.result c.is_designated-world.ensures.value ∙ c.if-world.false)
    (has_number_is c.args.a.now.designated c.args.at.1 c.is_designated-event.result c.is_designated-event.ensures.value))
