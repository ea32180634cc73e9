pub mod Budgets
pub mod private
