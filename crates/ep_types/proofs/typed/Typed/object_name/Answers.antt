use Rattle.std.proofs.Common.{◌≡◌, ◌<◌, length, ap, sym, ◌∙◌, subst}
use Rattle.ep_types.specs.Tasks.{declarations}
use Rattle.ep_types.proofs.typed.Typed.object_name.Goals as goal

pub name-requires : goal.name-requires
name-requires c = subst (λ n. c.args.number < n) (ap (λ d. length d.objects) (sym (c.self.invariant.0 ∙ ap declarations c.self.view_is))) c.requires
