-- Laws about the definitions of specs/.
pub mod Ends
pub mod Wording
