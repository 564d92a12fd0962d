-- To be read in this order.
-- how long the parts of a request may be
pub mod Limits
-- where a head ends
pub mod HeadEnds
-- what the field lines say of the body and of the connection
pub mod Fields
-- what bytes begin with: a request, less than one, or bytes that are Bad
pub mod Requests
-- what the steps of reading a head answer
pub mod Reading
-- the bytes of a reply
pub mod Replies
