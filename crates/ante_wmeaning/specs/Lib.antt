-- The execution chapter of WebAssembly Core 1.0. Read Configurations first (what a run has), then Execution (what each instruction
-- and each call does to it), with PlainInstructions for what stays within a frame's values, and Environment for what is decided from
-- outside while a run lasts. Instantiation and Invocation make a whole run of this.
pub mod Arities
pub mod PlainInstructions
pub mod Environment
pub mod Configurations
pub mod Execution
pub mod Instantiation
pub mod Invocation
-- How runs end (RunEnds), what they need of their host (HostConditions), and the laws: they never get stuck (Soundness), and are a
-- function of what their host shows (Likeness).
pub mod RunEnds
pub mod HostConditions
pub mod Soundness
pub mod Likeness
-- For proofs.
pub mod TypedPrograms
