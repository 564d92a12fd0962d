mod Typed
mod Twice
