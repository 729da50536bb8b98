mod Bounded
mod Matcher
mod Checks
mod Splitting
mod Rows
