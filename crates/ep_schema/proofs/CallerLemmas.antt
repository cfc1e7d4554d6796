-- What the crates above cite of the proofs of this one. All else is its own.
pub use Rattle.ep_schema.proofs.BodyLemmas.{IsSmall, IsSound, schema_buildable}
pub use Rattle.ep_schema.proofs.CandidateLemmas.{HasFewParams, few_params, few_schemas, schema-below}
pub use Rattle.ep_schema.proofs.WordLemmas.{names_are, schemas_sound}
pub use Rattle.ep_schema.proofs.CostLemmas.{costs_counted, costs_least, costs_most}
