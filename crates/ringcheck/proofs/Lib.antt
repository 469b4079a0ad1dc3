mod Filling
mod Judging
