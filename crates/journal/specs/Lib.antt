-- The journal (02, Item 8): the record of a call; when a record contradicts the rules; the replay, and the plain one; calls with their records and
-- the journal of a run; and, in Claims, what the laws say, as statements.
pub mod Records
pub mod Contradictions
pub mod ContradictionClaims
pub mod Replays
pub mod Plain
pub mod Steps
pub mod RecordClaims
pub mod RunClaims
pub mod PlainClaims
pub mod PlaceClaims
pub mod BoundClaims
