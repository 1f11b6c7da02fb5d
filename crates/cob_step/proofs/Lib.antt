mod Entering
mod Onward
mod Kept
mod Whens
