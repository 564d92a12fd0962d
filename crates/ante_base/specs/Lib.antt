-- In this order: counts of faults; what reads and writes do; reading in exact counts; the streams in memory; and the stops,
-- which have no bytes.
pub mod Faults
pub mod Source
pub mod Sink
pub mod Exact
pub mod Memory
pub mod Stops
pub mod LookCounts
pub mod Clocks
