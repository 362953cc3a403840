pub mod MessageChecks
