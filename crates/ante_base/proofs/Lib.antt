pub mod Known
mod Ticking
