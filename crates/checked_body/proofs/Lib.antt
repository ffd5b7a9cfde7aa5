pub mod Mentions
