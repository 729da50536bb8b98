mod Pushes
mod Lengths
mod Columns
mod Recounts
mod Fronts
