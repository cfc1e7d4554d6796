use Rattle.ep_logic.proofs.PlaceLemmas.{words_step}
use Rattle.ep_logic.proofs.places.put_places.Goals as goal

pub loop-k-preserved : goal.loop-k-preserved
loop-k-preserved c = words_step c.args.words.now c.loop-k.k c.args.out.now.items c.loop-k.out.items c.put_word.new.out.items c.loop-k.invariant c.in_ok-put_word.ensures
