mod Parts
mod Stops
