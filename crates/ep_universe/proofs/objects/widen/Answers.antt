use Rattle.std.proofs.Common.{◌++◌, ◌∷◌, [], take, ap, sym, ◌∙◌, append_assoc, arith}
use Rattle.ep_universe.specs.Objects.{bound}
use Rattle.ep_universe.proofs.ObjectLemmas.{bound-in, bound-out}
use Rattle.ep_universe.proofs.objects.widen.Goals as goal
use Rattle.ep_universe.proofs.objects.widen.Goals.{in-Some+in_ok-push-2, in_default}

pub loop-place-preserved : goal.loop-place-preserved
loop-place-preserved c =
    let ps = c.args.params.now in
    let os = c.args.objects.now in
    let i = c.loop-place.place in
    elim c.match-get.branch [
      | in-Some+in_ok-push-2 w ↦
          let found = w.in-Some.ensures.lookup in
          let name = w.as_slice.ensures.value ∙ ap (λ z. z.name.text) c.index-params-place.is in
          let more = bound-in ps os i w.in-Some.object.now c.index-params-place.result (omega arith) found.3.0 in
          w.wider-is ∙ w.in_ok-push-2.ensures.ok
          ∙ (λ j. c.loop-place.invariant j ++ (name j, found.1 j) ∷ [])
          ∙ append_assoc c.args.binding.now (bound (take i ps) os) _ ∙ ap (λ z. c.args.binding.now ++ z) (sym more)
      | in_default w ↦
          let found = w.in_default.ensures.lookup in
          w.wider-is ∙ c.loop-place.invariant ∙ ap (λ z. c.args.binding.now ++ z) (sym (bound-out ps os i found.3))
    ]
