-- Laws about what is added of receives.
pub mod Receiving
