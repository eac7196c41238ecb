mod Lines
mod Flat
mod Texts
