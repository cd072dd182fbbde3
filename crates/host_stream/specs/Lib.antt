pub mod HostJournal
pub mod HostFollower
