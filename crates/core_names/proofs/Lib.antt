mod Records
mod Repeats
mod Blank
