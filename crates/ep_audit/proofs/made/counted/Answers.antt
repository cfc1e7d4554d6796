use Rattle.ep_base.proofs.CallerLemmas.{or_fault}
use Rattle.ep_update.specs.Updates.{IsFault}
use Rattle.ep_update.specs.declared.update.UpdateError.TheVariants.{OutOfMemory}
use Rattle.ep_theory.proofs.CallerLemmas.{stuck_none}
use Rattle.std.proofs.lemmas.Option.{none-some}
use Rattle.std.proofs.Common.{arith, sym, ◌∙◌}
use Rattle.ep_audit.proofs.SizeLemmas.{product_worlds, product_links}
use Rattle.ep_audit.proofs.made.counted.Goals as goal

pub prove-unreachable-requires : goal.prove-unreachable-requires
prove-unreachable-requires g c =
    let h = or_fault OutOfMemory (IsFault c.args.s.now c.args.a.now (record { worlds = 4096; links = 134217728 })) _ (λ e. cc) (rw c.in-Err-TooManyWorlds.field-0-is at c.in-Err-TooManyWorlds.ensures.err) in
    let worlds = product_worlds c.args.s.now c.args.a.now 256 16 c.requires.small c.known-2.ensures.valid.few_events in
    omega (arith, h.1, h.2, worlds)

pub prove-unreachable-requires-in-Err-TooManyLinks : goal.prove-unreachable-requires-in-Err-TooManyLinks
prove-unreachable-requires-in-Err-TooManyLinks g c =
    let h = or_fault OutOfMemory (IsFault c.args.s.now c.args.a.now (record { worlds = 4096; links = 134217728 })) _ (λ e. cc) (rw c.in-Err-TooManyLinks.field-0-is at c.in-Err-TooManyLinks.ensures.err) in
    let links = product_links c.args.s.now c.args.a.now 4096 8 h.1 c.known.ensures.bounded.agents in
    omega (arith, h.2, h.3, links)

pub returns-in-Err-Inapplicable : goal.returns-in-Err-Inapplicable
returns-in-Err-Inapplicable g c = λ f.
    let h = or_fault OutOfMemory (IsFault c.args.s.now c.args.a.now (record { worlds = 4096; links = 134217728 })) _ (λ e. cc) (rw c.in-Err-Inapplicable.field-0-is at c.in-Err-Inapplicable.ensures.err) in
    none-some _ (sym ((stuck_none c.args.s.now c.args.a.now c.known.ensures.valid).1 f) ∙ h)
