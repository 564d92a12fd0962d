-- What the integer instructions give. Read Numerics first (the operations on integers, section 4.3 of WebAssembly Core 1.0), then
-- NumericInstructions (what each instruction gives, section 4.4.1).
pub mod NumericInstructions
pub mod Numerics
