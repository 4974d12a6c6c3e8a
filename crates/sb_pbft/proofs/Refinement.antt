pub mod CallsRefine
pub mod LoopsOverTables
pub mod ProposalRefines
pub mod RulesCompose
pub mod SettleRefines
pub mod TablesRefine
pub mod ViewChangeRefines
