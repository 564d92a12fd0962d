-- Read Sequences first (what instructions make of what is known of the operands), then Accepting (modules and codes).
pub mod Sequences
pub mod Accepting
