use Rattle.std.proofs.Common.{sym, ap, ◌∙◌, arith}
use Rattle.ep_theory.specs.Kripke.{Kripke}
use Rattle.ep_bytes.proofs.ReadingLemmas.{other_bytes, one_state, bytes_agree, bytes_differ}
use Rattle.ep_bytes.proofs.ToldLemmas.{told_worlds}
use Rattle.ep_bytes.proofs.reading.read_state.Goals as goal

pub write_state-requires : goal.write_state-requires
write_state-requires c =
    let told = ap (λ (S : Kripke). S.worlds) c.in_ok-state.ensures.ok in
    let worlds = told_worlds c.args.bytes.now c.in_ok-sizes.sizes in
    let few = c.in_ok-sizes.ensures.ok.small.worlds in
    omega (arith, told, worlds, few)

pub returns-then-ne-clause-refused : goal.returns-then-ne-clause-refused
returns-then-ne-clause-refused c =
    let apart = bytes_differ c.as_slice-2.result.now c.args.bytes.now c.if-ne.ensures in
    let own = c.as_slice-2.ensures ∙ c.in_ok-write_state.ensures.value in
    other_bytes c.args.most_worlds c.args.bytes.now c.in_ok-sizes.sizes c.in_ok-state.state c.requires c.in_ok-sizes.ensures.ok c.in_ok-state.ensures.ok c.in_ok-state.ensures.valid (λ e. apart (own ∙ e))

pub returns-clause-ok : goal.returns-clause-ok
returns-clause-ok c =
    let told = ap (λ (S : Kripke). S.worlds) c.in_ok-state.ensures.ok in
    let worlds = told_worlds c.args.bytes.now c.in_ok-sizes.sizes in
    let few = c.in_ok-sizes.ensures.few in
    let bounded = c.in_ok-write_state.ensures.bounded in
    record {
      valid = c.in_ok-state.ensures.valid;
      small = record { worlds = omega (arith, told, worlds, few); agents = bounded.agents; atoms = bounded.atoms };
      own = sym (c.as_slice-2.ensures ∙ c.in_ok-write_state.ensures.value) ∙ bytes_agree c.as_slice-2.result.now c.args.bytes.now c.if-ne.ensures;
    }

pub returns-clause-only : goal.returns-clause-only
returns-clause-only c = λ D. one_state c.args.most_worlds c.args.bytes.now c.in_ok-state.state D c.in_ok-state.ensures.valid
    (sym (c.as_slice-2.ensures ∙ c.in_ok-write_state.ensures.value) ∙ bytes_agree c.as_slice-2.result.now c.args.bytes.now c.if-ne.ensures)
