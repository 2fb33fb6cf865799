pub mod Carried
pub mod Reasons
pub mod Filled
pub mod Taking
pub mod Accounts
pub mod Certificates
