pub mod Scripts
pub mod Reading
pub mod Replies
pub mod Texts
