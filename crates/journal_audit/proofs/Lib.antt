pub mod BandReports
