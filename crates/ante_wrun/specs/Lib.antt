-- What a run means is in `ante_wmeaning`, and what plain instructions make of the values in `ante_wvalues`. Here is what the machine
-- does, and how that is the meaning: read Frames first, then ThreadStates.
pub mod Frames
pub mod ThreadStates
pub mod Control
pub mod InstructionCycle
pub mod Stretches
pub mod GrantedByValidity
pub mod InstanceAndCalls
