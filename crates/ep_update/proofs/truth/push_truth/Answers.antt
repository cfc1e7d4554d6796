use Rattle.std.proofs.Common.{◌∙◌, ◌++◌, ◌∷◌, [], ℕ, List, Bool, ap, arith, get_or, set, take}
use Rattle.ep_logic.specs.declared.formula.Node.{Node}
use Rattle.ep_logic.specs.Numbers.{table}
use Rattle.ep_logic.specs.Packed.{unpacked}
use Rattle.ep_logic.specs.Tables.{Table}
use Rattle.ep_theory.specs.Events.{Event, AreDistinct, event_at, no_event}
use Rattle.ep_theory.proofs.CallerLemmas.{All-at}
use Rattle.ep_update.specs.Assigned.{atom_with}
use Rattle.ep_update.proofs.AssignedLemmas.{no_set, first_effect, next_effect, set_last}
use Rattle.ep_update.proofs.LabelLemmas.{assigned_at, label_long, label_tells}
use Rattle.ep_update.proofs.truth.push_truth.Goals as goal

pub loop-i-init : goal.loop-i-init
loop-i-init c = record {
  width = ap (λ (t : Table). t.width) c.in_ok-push.ensures.ok ∙ c.requires.width;
  rows = ap (λ (t : Table). t.rows) c.in_ok-push.ensures.ok
      ∙ ap (λ n. c.args.table.now.rows ++ unpacked c.truth_words.result.now n ∷ []) c.requires.width
      ∙ ap (λ r. c.args.table.now.rows ++ r ∷ []) (first_effect c.args.s.now c.args.at.0 (unpacked c.truth_words.result.now c.args.s.now.atoms) c.truth_words.ensures.valid c.requires.world c.truth_words.ensures.value);
}

pub get-requires : goal.get-requires
get-requires c =
    let r = assigned_at c.args.s.now c.args.a.now c.args.at.1 c.loop-i.i c.as_slice-sets.result.now c.sets.result.now c.index-sets-i.result c.args.values.now c.index-values-e.result c.as_slice-values.result.now c.index-values-i.result
    c.requires.fits c.requires.event c.as_slice-sets.ensures c.sets.ensures.value c.loop-i-test.true c.requires.values c.index-values-e.is c.as_slice-values.ensures c.index-values-i.is in
    omega (arith, label_long c.args.s.now (get_or (event_at c.args.a.now c.args.at.1).sets c.loop-i.i no_set).1 c.index-values-i.result r.tells, c.requires.world)

pub set-requires-clause-place : goal.set-requires-clause-place
set-requires-clause-place c =
    let r = assigned_at c.args.s.now c.args.a.now c.args.at.1 c.loop-i.i c.as_slice-sets.result.now c.sets.result.now c.index-sets-i.result c.args.values.now c.index-values-e.result c.as_slice-values.result.now c.index-values-i.result
    c.requires.fits c.requires.event c.as_slice-sets.ensures c.sets.ensures.value c.loop-i-test.true c.requires.values c.index-values-e.is c.as_slice-values.ensures c.index-values-i.is in
    omega (arith, ap (λ (x : ℕ × Node). x.0) r.set, r.fits, c.loop-i.invariant.width)

pub loop-i-preserved : goal.loop-i-preserved
loop-i-preserved c =
    let r = assigned_at c.args.s.now c.args.a.now c.args.at.1 c.loop-i.i c.as_slice-sets.result.now c.sets.result.now c.index-sets-i.result c.args.values.now c.index-values-e.result c.as_slice-values.result.now c.index-values-i.result
    c.requires.fits c.requires.event c.as_slice-sets.ensures c.sets.ensures.value c.loop-i-test.true c.requires.values c.index-values-e.is c.as_slice-values.ensures c.index-values-i.is in
    let distinct = All-at (λ (event : Event). AreDistinct event.sets) c.args.a.now.events c.args.at.1 no_event c.requires.event c.sets.ensures.valid.distinct in
    let old : List Bool = table (atom_with c.args.s.now c.args.at.0 (take c.loop-i.i (event_at c.args.a.now c.args.at.1).sets)) c.args.s.now.atoms in
    record {
      width = ap (λ (t : Table). t.width) c.set.ensures ∙ c.loop-i.invariant.width;
      rows = ap (λ (t : Table). t.rows) c.set.ensures
          ∙ set_last c.args.table.now.rows (table (atom_with c.args.s.now c.args.at.0 (take c.loop-i.i (event_at c.args.a.now c.args.at.1).sets)) c.args.s.now.atoms) c.loop-i.table.rows c.len-row.result
          (get_or c.as_slice-sets.result.now c.loop-i.i c.index-sets-i.result).atom.n c.get.result c.loop-i.invariant.rows c.len-row.ensures
          ∙ ap (λ r. c.args.table.now.rows ++ r ∷ [])
          (ap (λ (x : ℕ × Node). set (table (atom_with c.args.s.now c.args.at.0 (take c.loop-i.i (event_at c.args.a.now c.args.at.1).sets)) c.args.s.now.atoms) x.0 c.get.result) r.set
          ∙ ap (set (table (atom_with c.args.s.now c.args.at.0 (take c.loop-i.i (event_at c.args.a.now c.args.at.1).sets)) c.args.s.now.atoms) (get_or (event_at c.args.a.now c.args.at.1).sets c.loop-i.i no_set).0)
          (c.get.ensures ∙ label_tells c.args.s.now (get_or (event_at c.args.a.now c.args.at.1).sets c.loop-i.i no_set).1 c.index-values-i.result c.args.at.0 r.tells c.requires.world)
          ∙ next_effect c.args.s.now c.args.at.0 (event_at c.args.a.now c.args.at.1).sets c.loop-i.i distinct r.place r.fits);
    }
