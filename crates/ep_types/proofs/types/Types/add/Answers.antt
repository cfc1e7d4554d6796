use Rattle.std.proofs.Common.{◌≡◌, ℕ, ◌+◌, ◌<◌, true, sym, ap, subst, ◌∙◌, length, is_some}
use Rattle.ep_types.specs.Names.{is_among, names_of}
use Rattle.ep_types.specs.Links.{Rows, AreLinked, IsAbove, depth_at, name_at}
use Rattle.ep_types.proofs.Grown.{grown, found_at, names_typed}
use Rattle.ep_types.proofs.types.Types.add.Goals as goal

pub unwrap-up-requires : goal.unwrap-up-requires
unwrap-up-requires c =
    let rows = c.self.inside.rows in
    let known : is_some c.index.result ≡ true =
    c.index.ensures.found ∙ sym (ap (is_among c.args.parent.now) (names_typed rows)) ∙ ap (λ types. is_among c.args.parent.now (names_of types)) c.self.view_is ∙ c.requires.known
    in
    known

pub add-requires : goal.add-requires
add-requires c =
    let rows = c.self.inside.rows in
    sym (ap (is_among c.args.name.now) (names_typed rows)) ∙ ap (λ types. is_among c.args.name.now (names_of types)) c.self.view_is ∙ c.requires.new

pub invariant_of-self-2 : goal.invariant_of-self-2
invariant_of-self-2 c =
    let rows = c.self.inside.rows in
    let row = c.in_ok-row.row in
    let up = found_at c.args.parent.now rows c.unwrap-up.result (sym c.index.ensures.place ∙ c.unwrap-up.ensures) in
    let absent = sym (ap (is_among c.args.name.now) (names_typed rows)) ∙ ap (λ types. is_among c.args.name.now (names_of types)) c.self.view_is ∙ c.requires.new in
    let at = sym c.in_ok-row.ensures.up in
    let parent = c.in_ok-row.ensures.parent ∙ up.1 ∙ ap (name_at rows) at in
    let Far : ℕ → Type 0 = λ i. IsAbove rows i row.far in
    let All : Rows → Type 0 = λ all. AreLinked all in
    subst All (sym c.in_ok-add.ensures.ok)
    (grown rows c.self.invariant c.args.name.now row absent (subst (λ i. i < length rows) at up.0) parent (subst Far at c.in_ok-row.ensures.far)
    (c.in_ok-row.ensures.depth ∙ ap (λ i. depth_at rows i + 1) at))
