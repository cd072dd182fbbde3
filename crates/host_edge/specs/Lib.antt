pub mod Connection
pub mod FaultCount
pub mod FileWatch
pub mod HostDisk
pub mod HostDoor
pub mod HostFiles
pub mod HostLink
pub mod HostSink
