mod Folds
mod Refusals
