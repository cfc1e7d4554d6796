use Rattle.std.proofs.Common.{◌≡◌, ◌∷◌, [], ◌++◌, ◌∙◌, rules}
use Rattle.ep_kripke.proofs.SourceLemmas.{added}
use Rattle.ep_kripke.proofs.sources.Sources.add.Goals as goal

pub invariant_of-self-2 : goal.invariant_of-self-2
invariant_of-self-2 c =
    let links = c.self.inside.links.items in
    let pushed : c.push.new.self.items ≡ links ++ record { from = c.args.from; before = c.index-before.result.now } ∷ [] = search rules in
    (added links c.push.new.self.items c.self.inside.last.items c.args.self.now c.args.from c.args.to c.index-before.result.now c.len.result
    c.self.invariant c.self.view_is c.requires.world c.index-before.ensures pushed (c.len.ensures ∙ c.push.new.self.ok.0)).0

pub returns-clause-ok : goal.returns-clause-ok
returns-clause-ok c =
    let links = c.self.inside.links.items in
    let pushed : c.push.new.self.items ≡ links ++ record { from = c.args.from; before = c.index-before.result.now } ∷ [] = search rules in
    (added links c.push.new.self.items c.self.inside.last.items c.args.self.now c.args.from c.args.to c.index-before.result.now c.len.result
    c.self.invariant c.self.view_is c.requires.world c.index-before.ensures pushed (c.len.ensures ∙ c.push.new.self.ok.0)).1
