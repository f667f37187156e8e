-- Laws about the definitions of specs/.
pub mod Tests
pub mod Members
pub mod Bytewise
