pub mod Place
pub mod Writing
