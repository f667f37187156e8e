-- Laws about the definitions of specs/, and what the proofs of several functions share.
pub mod Laws
pub mod Document
pub mod Tables
pub mod Claims
