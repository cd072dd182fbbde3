pub mod Plan
pub mod Problem
pub mod Forms
pub mod Breaches
pub mod Ability
pub mod Validity
pub mod Laws
