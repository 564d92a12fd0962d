-- What plain instructions mean is in `ante_wmeaning`. Here is where their operands lie, and how executing one is its meaning.
pub mod FrameValues
pub mod PlainSteps
