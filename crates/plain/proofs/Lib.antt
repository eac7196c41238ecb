mod Forms
mod Answers
