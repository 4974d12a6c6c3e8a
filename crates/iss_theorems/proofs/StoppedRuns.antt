pub mod BookIsComplete
pub mod BooksAreWritten
pub mod EvidenceIsValid
pub mod RunShowsEvidence
pub mod ReadersOfDeliveries
