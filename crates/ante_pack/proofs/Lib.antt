pub mod Items
pub mod NameDigits
pub mod NameReading
pub mod NameTexts
pub mod Varuint
pub mod VaruintWriting
pub mod Consequences
pub mod Pieces
