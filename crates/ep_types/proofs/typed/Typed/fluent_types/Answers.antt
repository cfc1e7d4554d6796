use Rattle.std.proofs.Common.{◌≡◌, ◌<◌, length, ap, sym, ◌∙◌, subst}
use Rattle.ep_types.specs.Tasks.{declarations}
use Rattle.ep_types.proofs.typed.Typed.fluent_types.Goals as goal

pub value-requires : goal.value-requires
value-requires c = subst (λ n. c.args.number < n) (ap (λ d. length d.fluents) (sym (c.self.invariant.0 ∙ ap declarations c.self.view_is))) c.requires
