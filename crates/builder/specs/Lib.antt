-- Definitions to believe: Build (Build's answer, and what it leaves in the buffer). Rows has the words of the functions that write.
pub mod Rows
pub mod Build
