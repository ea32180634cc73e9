pub mod Jobs
pub mod ServerSettings
pub mod private
