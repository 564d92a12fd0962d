mod Scan
mod Holders
