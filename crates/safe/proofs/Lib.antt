pub mod Tellers
