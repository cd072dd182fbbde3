mod Later
mod Resolving
