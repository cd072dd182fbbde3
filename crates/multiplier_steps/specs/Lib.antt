pub mod Improvement
