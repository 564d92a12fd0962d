-- In the order of reading: how entries are packed, the lists and their digest, and what it is to feed bytes to the hash.
pub mod Entries
pub mod Digest
pub mod Feeds
