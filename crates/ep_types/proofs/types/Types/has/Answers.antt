use Rattle.std.proofs.Common.{ap, sym, ◌∙◌}
use Rattle.ep_types.specs.Names.{is_among, names_of}
use Rattle.ep_types.proofs.Grown.{names_typed}
use Rattle.ep_types.proofs.types.Types.has.Goals as goal

pub returns : goal.returns
returns c =
    c.has.ensures ∙ ap (is_among c.args.name.now) (sym (names_typed c.self.inside.rows)) ∙ ap (λ types. is_among c.args.name.now (names_of types)) c.self.view_is
