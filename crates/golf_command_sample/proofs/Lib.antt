mod Joins
mod Counting
