-- Thread records in a lent list.
pub mod Records
