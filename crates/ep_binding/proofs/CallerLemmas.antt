-- What the crates above cite of the proofs of this one. All else is its own.
pub use Rattle.ep_binding.proofs.ApartLemmas.{different-tells, pairs-append, pairs-head, pairs-map, pairs-nil, pairs-tail}
pub use Rattle.ep_binding.proofs.LawsLemmas.{all-bindings, apart-bindings, apart-distinct}
