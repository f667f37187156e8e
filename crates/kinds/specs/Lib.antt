-- The kinds of forms.
pub mod Kinds
