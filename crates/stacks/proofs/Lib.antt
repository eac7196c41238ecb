pub mod Decoding
mod Pushing
mod Popping
