mod FirstWord
mod Weaker
