-- Sets that grow by what the rules ask.
pub mod Growing
