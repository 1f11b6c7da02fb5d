mod Counts
mod Places
mod Readings
mod Taking
mod Saying
