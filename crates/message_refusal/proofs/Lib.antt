pub mod MessageStops
