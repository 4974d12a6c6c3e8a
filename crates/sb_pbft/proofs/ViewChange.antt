pub mod CommitsAreShown
pub mod HighestCertificates
pub mod NewViewsHaveAQuorum
pub mod OneNewViewAView
