pub mod Parts
pub mod Steps
pub mod Histories
pub mod Levels
pub mod Zeroes
pub mod Written
pub mod Lending
pub mod Calls
