-- Laws about meetings.
pub mod Both
