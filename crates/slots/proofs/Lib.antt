mod Held
mod Histories
