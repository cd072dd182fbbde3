pub mod Requests
pub mod Journals
pub mod Replays
pub mod Conversations
pub mod Servers
pub mod Laws
