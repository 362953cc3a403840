pub mod Forms
pub mod Cases
