pub mod ByzantineRun
pub mod FourReplicas
pub mod PremisesAreMet
