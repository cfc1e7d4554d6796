-- A file that is not there, or is not read, rests on no guide.
use Rattle.ep_answer.specs.declared.cause.Cause.TheVariants.{NoSuchFile, TooLong}
use Rattle.ep_reading.proofs.FetchLemmas.{fetches_one}
use Rattle.ep_reading.proofs.GuideLemmas.{refused_needs_none, unreadable_needs_none}
use Rattle.ep_reading.proofs.files.fetch_file.Goals as goal

pub returns-in-Err-Missing-clause-needs : goal.returns-in-Err-Missing-clause-needs
returns-in-Err-Missing-clause-needs g c = refused_needs_none c.args.subject NoSuchFile

pub returns-in-Err-TooLong-clause-needs : goal.returns-in-Err-TooLong-clause-needs
returns-in-Err-TooLong-clause-needs g c = refused_needs_none c.args.subject TooLong

pub returns-in-Err-Failed-clause-needs : goal.returns-in-Err-Failed-clause-needs
returns-in-Err-Failed-clause-needs g c = unreadable_needs_none c.args.subject

pub returns-in-Ok-clause-fetches : goal.returns-in-Ok-clause-fetches
returns-in-Ok-clause-fetches g c = fetches_one c.args.name.now _ _ (c.fetch.ensures.fetched (λ e. cc))

pub returns-in-Err-Missing-clause-fetches : goal.returns-in-Err-Missing-clause-fetches
returns-in-Err-Missing-clause-fetches g c = fetches_one c.args.name.now _ _ (c.fetch.ensures.fetched (λ e. cc))

pub returns-in-Err-TooLong-clause-fetches : goal.returns-in-Err-TooLong-clause-fetches
returns-in-Err-TooLong-clause-fetches g c = fetches_one c.args.name.now _ _ (c.fetch.ensures.fetched (λ e. cc))

pub returns-in-Err-Failed-clause-fetches : goal.returns-in-Err-Failed-clause-fetches
returns-in-Err-Failed-clause-fetches g c = fetches_one c.args.name.now _ _ (c.fetch.ensures.fetched (λ e. cc))
