-- Examples by computation.
mod Called
mod Replaced
