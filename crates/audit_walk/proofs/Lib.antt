mod Parts
mod Passed
mod Blocks
mod Row
mod Borders
mod Layers
