use Rattle.std.proofs.Common.{length, ap, ◌∙◌}
use Rattle.ep_types.specs.Tasks.{declarations}
use Rattle.ep_types.proofs.typed.Typed.object_count.Goals as goal

pub returns : goal.returns
returns c = c.len.ensures ∙ ap (λ d. length d.objects) (c.self.invariant.0 ∙ ap declarations c.self.view_is)
