-- what requests ask for
pub mod Routes
-- the bytes of replies
pub mod Rendered
