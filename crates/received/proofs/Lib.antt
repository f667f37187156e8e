-- Laws about the definitions of specs/.
pub mod Gathering
pub mod Receiving
