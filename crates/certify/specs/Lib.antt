pub mod Standings
pub mod Certificates
pub mod inner
