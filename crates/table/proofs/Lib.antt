mod Pairs
mod Grown
mod Laws
