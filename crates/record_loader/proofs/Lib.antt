mod Enough
mod FirstRecords
mod Fronts
pub mod Holds
mod Lists
mod Moves
pub mod OneReply
mod Replying
mod Room
mod Settling
mod Short
pub mod Statements
mod Words
