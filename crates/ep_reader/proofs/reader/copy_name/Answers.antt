use Rattle.ep_reader.proofs.Sources.{name_ascii}
use Rattle.ep_reader.proofs.reader.copy_name.Goals as goal

pub from_vec-requires : goal.from_vec-requires
from_vec-requires c = rw c.in_ok-bytes.ensures.items (name_ascii _ c.requires)
