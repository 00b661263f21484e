pub mod MatrixB
pub mod MatrixC
pub mod Names
