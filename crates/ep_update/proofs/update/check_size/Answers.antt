use Rattle.std.proofs.Common.{◌≡◌, ◌∙◌, ◌*◌, ap, ap₂, arith, inr, length}
use Rattle.ep_theory.specs.Fits.{link_count}
use Rattle.ep_update.proofs.ProductLemmas.{links_counted}
use Rattle.ep_update.proofs.BoundLemmas.{links_few}
use Rattle.ep_update.proofs.update.check_size.Goals as goal

pub returns-then-links-size-clause-err : goal.returns-then-links-size-clause-err
returns-then-links-size-clause-err c = inr (
  c.requires.applicable,
  omega (arith, c.if-worlds-from.false, c.from.ensures, c.len-worlds.ensures, c.args.found.now.list.ok.0, ap length c.requires.places.list),
  c.in_ok-links.ensures ∙ links_counted c.args.s.now c.args.a.now,
  c.if-links-size.true,
)

pub returns-then-most_links-size-clause-ok : goal.returns-then-most_links-size-clause-ok
returns-then-most_links-size-clause-ok c =
    let most : c.most_links.result ≡ link_count c.args.s.now * (length c.args.a.now.events * length c.args.a.now.events) = c.most_links.ensures ∙ ap₂ (λ l n. l * (n * n)) c.links.ensures.value c.events.ensures.value in
    record {
      worlds = omega (arith, c.if-worlds-from.false, c.from.ensures, c.len-worlds.ensures, c.args.found.now.list.ok.0, ap length c.requires.places.list);
      links = omega (arith, c.if-most_links-size.true, most, links_few c.args.s.now c.args.a.now c.links.ensures.valid);
    }

pub returns-clause-ok : goal.returns-clause-ok
returns-clause-ok c = record {
  worlds = omega (arith, c.if-worlds-from.false, c.from.ensures, c.len-worlds.ensures, c.args.found.now.list.ok.0, ap length c.requires.places.list);
  links = omega (arith, c.if-links-size.false, c.in_ok-links.ensures ∙ links_counted c.args.s.now c.args.a.now);
}
