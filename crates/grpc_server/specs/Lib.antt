pub mod Answers
pub mod Messages
pub mod Replies
pub mod private
