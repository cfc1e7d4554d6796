use Rattle.ep_update.proofs.EqualProducts.{equal_products}
use Rattle.ep_update.proofs.laws.equal_labels_make_equal_products.Goals as goal

pub returns : goal.returns
returns c = equal_products
