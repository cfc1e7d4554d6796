use Rattle.std.proofs.Common.{◌≡◌, length}
use Rattle.ep_logic.specs.Numbers.{table}
use Rattle.ep_theory.specs.Product.{places}
use Rattle.ep_update.specs.Places.{place_row}
use Rattle.ep_update.proofs.rows.relation_of.Given as goal

abbrev pub invariant-loop-i : goal.invariant-loop-i
invariant-loop-i l = record {
  worlds : l.naming.worlds ≡ length (places l.product.state.now l.product.action.now);
  rows : l.naming.rows ≡ table (place_row l.product.state.now l.product.action.now l.product.agent) l.i;
}
