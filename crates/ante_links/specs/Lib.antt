-- Read LinkStates, what contracts see of a link and of the door; then Links, what each call does; then Memory, the links in memory; and Tcp.
pub mod LinkStates
pub mod Links
pub mod Memory
pub mod Tcp
