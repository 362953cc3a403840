pub mod LeaseIds
pub mod LeaseDecisions
