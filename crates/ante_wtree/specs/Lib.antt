-- Modules as trees (section 2 of WebAssembly Core 1.0), and the functions that a host gives them. Read Trees first (a module) and
-- Expressions (a sequence of instructions), then Types and Accesses (kinds of values, and what loads and stores move), Limits (what
-- this profile allows), Intrinsics (the table of a host's functions) and Replies (the types of what they reply).
pub mod Accesses
pub mod Expressions
pub mod Intrinsics
pub mod Limits
pub mod Replies
pub mod Trees
pub mod Types
