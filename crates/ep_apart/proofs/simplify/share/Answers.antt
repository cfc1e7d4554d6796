use Rattle.std.proofs.Common.{◌<◌, refl, length, subst}
use Rattle.ep_apart.specs.Pruning.{Names}
use Rattle.ep_apart.proofs.simplify.share.Goals as goal

pub share_negation-requires-clause-within : goal.share_negation-requires-clause-within
share_negation-requires-clause-within c = subst (λ l. (i : _) → Names l i → i < length c.args.shared.now) c.in-Not.is c.requires.names c.in-Not.i refl

pub share_conjunction-requires-clause-within : goal.share_conjunction-requires-clause-within
share_conjunction-requires-clause-within c = subst (λ l. (i : _) → Names l i → i < length c.args.shared.now) c.in-And.is c.requires.names

pub put-requires-in-Knows-clause-names : goal.put-requires-in-Knows-clause-names
put-requires-in-Knows-clause-names c = subst (λ l. (i : _) → Names l i → i < length c.args.shared.now) c.in-Knows.is c.requires.names
