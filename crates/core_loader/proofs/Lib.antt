mod Tests
mod Stored
mod Cleared
mod OwnPrint
mod Judged
