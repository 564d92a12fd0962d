-- JSON values and their compact texts are those of `serde_json`'s specs; here is what the code's values stand for.
pub mod Values
