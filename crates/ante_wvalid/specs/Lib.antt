-- Validation (section 3 of WebAssembly Core 1.0). Read Typing first (what instructions do to a stack of kinds), then Modules (the rules
-- for modules, and the first that a module breaks) and Refusals (what a refusal says). OperandStacks has what the code knows of a stack.
pub mod Modules
pub mod OperandStacks
pub mod Refusals
pub mod Typing
