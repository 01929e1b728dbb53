pub mod Answer
pub mod Received
pub mod Plain
pub mod Standing
pub mod StaysLegal
