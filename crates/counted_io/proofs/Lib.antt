pub mod Writing
mod Reading
