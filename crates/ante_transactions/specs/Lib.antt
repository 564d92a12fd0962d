pub mod Transacting
