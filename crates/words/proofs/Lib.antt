pub mod WordKinds
