mod Looking
mod Running
mod Joining
mod Halving
mod Taking
mod Closing
mod Finishing
mod Serving
