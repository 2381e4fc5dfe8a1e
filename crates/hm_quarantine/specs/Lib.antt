pub mod Delay
pub mod LookingBack
pub mod Quarantine
