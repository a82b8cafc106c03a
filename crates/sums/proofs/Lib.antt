mod Collisions
mod Folds
