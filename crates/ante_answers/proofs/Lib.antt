pub mod Rising
pub mod Between
pub mod Fronts
pub mod Paging
pub mod Listing
pub mod Permissions
pub mod Asked
pub mod Quotas
