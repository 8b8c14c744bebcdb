pub mod Progressing
pub mod Firsts
pub mod Counting
pub mod Indexing
