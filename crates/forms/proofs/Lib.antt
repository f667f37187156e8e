-- Laws about the rows of a store's program and their forms.
pub mod Forms
