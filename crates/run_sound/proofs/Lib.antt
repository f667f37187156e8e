-- Laws of the tests.
pub mod Tests
