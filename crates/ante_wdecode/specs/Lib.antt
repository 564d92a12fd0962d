-- The binary format (section 5 of WebAssembly Core 1.0). Read Rules first (what a rule of the format is), then Leb128 (integers),
-- Opcodes and Instructions (what instructions are spelled as), Modules (types and the items of sections), Sections (sections, and the
-- whole module: Encodes), and Decoding (what is read, and what a fault says) with Faults. InTurn has the rules' sequencing, and
-- NestedInstructions how instructions with bodies are read.
pub mod Decoding
pub mod Faults
pub mod InTurn
pub mod Instructions
pub mod Leb128
pub mod Modules
pub mod NestedInstructions
pub mod Opcodes
pub mod Rules
pub mod Sections
