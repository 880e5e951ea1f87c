mod Conditions
mod Means
