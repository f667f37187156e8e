-- Theorems about the definitions of specs/.
pub mod Stands
pub mod Number
pub mod Lengths
pub mod Rows
pub mod Sets
pub mod Lines
pub mod Rising
pub mod Order
pub mod Files
pub mod Structure
pub mod First
pub mod Examples
