pub mod Matches
mod Showing
