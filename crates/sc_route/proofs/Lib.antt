mod Digits
mod Pushes
