pub mod OnePlaceInCluster
pub mod OnePlaceInRun
