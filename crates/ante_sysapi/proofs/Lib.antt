mod Cut
mod FirstByte
mod Numbered
mod Paid
