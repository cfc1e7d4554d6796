use Rattle.std.proofs.Common.{◌≢◌, All, slice_get, ap, subst, sym, ◌∙◌}
use Rattle.std.specs.Prelude.{IfNone}
use Rattle.ep_name.proofs.TableLemmas.{found, lacking}
use Rattle.ep_name.proofs.table.NameTable.place.Goals as goal

pub returns-clause-found : goal.returns-clause-found
returns-clause-found c =
    ap (λ ts. slice_get ts c.in_ok-place.place) (sym c.self.view_is)
    ∙ c.in_ok-place.ensures.value
    ∙ found c.args.name.now c.self.inside.map.entries c.self.invariant.0 (sym c.in_ok-place.ensures.found)

pub returns-in_err-place-clause-none : goal.returns-in_err-place-clause-none
returns-in_err-place-clause-none c =
    let name = c.args.name.now in
    let none : All (λ known. known ≢ name) c.args.self.now =
    subst (All (λ known. known ≢ name)) c.self.view_is
    (lacking name c.self.inside.map.entries c.self.invariant.0 (sym c.in_err-place.ensures.found)) in
    subst (λ r. IfNone r (All (λ known. known ≢ name) c.args.self.now)) (sym c.from_residual.ensures) none
