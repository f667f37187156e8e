-- Laws about the definitions of specs/.
pub mod Results
pub mod Asked
