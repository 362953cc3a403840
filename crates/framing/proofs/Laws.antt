-- What 02, Item 9, says of streams and of readers, all of it. Assumes nothing. (The writer's laws are in Writing.)
use Rattle.framing.specs.StreamClaims.{StreamClaims}
use Rattle.framing.specs.ReadingClaims.{ReadingClaims}
use Rattle.framing.proofs.StartsExactly.{layout, starts-exactly}
use Rattle.framing.proofs.Streams.{parsed_exactly}
use Rattle.framing.proofs.Steps.{steps}
use Rattle.framing.proofs.Reading.{chunks_read, fresh_exactly, valid_exactly, refused_for_good}

pub stream_claims : StreamClaims
stream_claims = record { layout = layout; starts = starts-exactly; parsed_exactly = parsed_exactly }

pub reading_claims : ReadingClaims
reading_claims =
    record { steps = steps; chunks_read = chunks_read; fresh_exactly = fresh_exactly; valid_exactly = valid_exactly; stays_refused = refused_for_good }
