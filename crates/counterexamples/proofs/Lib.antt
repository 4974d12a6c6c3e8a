pub mod Deciding
pub mod DigestsWithoutViews
pub mod HotstuffMessages
pub mod LowestCertificate
pub mod NoSafeTest
pub mod OlderTermsCounted
pub mod PbftStrings
pub mod VotesCountedTwice
