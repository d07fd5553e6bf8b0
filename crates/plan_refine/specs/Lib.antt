-- What the program's contracts cite. A stranger may begin with Outcome, then read the file of one command.
pub mod Words
pub mod Outcome
pub mod Complete
pub mod Asked
