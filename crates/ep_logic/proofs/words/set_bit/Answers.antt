use Rattle.std.proofs.Common.{sym, ◌∙◌}
use Rattle.ep_logic.proofs.PackedLemmas.{set_bit_here, set_bit_others, clear_bit_here, clear_bit_others}
use Rattle.ep_logic.proofs.words.set_bit.Goals as goal

pub returns-then-v-clause-here : goal.returns-then-v-clause-here
returns-then-v-clause-here c = set_bit_here c.args.words.now c.args.i c.requires ∙ sym c.if-v.true

pub returns-then-v-clause-others : goal.returns-then-v-clause-others
returns-then-v-clause-others c = set_bit_others c.args.words.now c.args.i c.requires

pub returns-else-v-clause-here : goal.returns-else-v-clause-here
returns-else-v-clause-here c = clear_bit_here c.args.words.now c.args.i c.requires ∙ sym c.if-v.false

pub returns-else-v-clause-others : goal.returns-else-v-clause-others
returns-else-v-clause-others c = clear_bit_others c.args.words.now c.args.i c.requires
