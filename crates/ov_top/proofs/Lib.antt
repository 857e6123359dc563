mod Composed
mod Lined
mod Opened
mod Reading
