mod Lengths
mod Overruns
