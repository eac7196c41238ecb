mod TreeRows
mod Resume
mod Readers
mod States
mod Steps
mod Loop
