mod Coding
mod Stopping
