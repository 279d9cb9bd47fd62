mod Goods
mod Reading
