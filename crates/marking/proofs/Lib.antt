mod TagCounts
mod Looks
mod Lengths
mod Carrying
