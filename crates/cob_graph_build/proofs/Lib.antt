mod Counts
mod Cuts
mod Exact
mod FileLemmas
mod FlowLemmas
mod Growth
mod Heads
mod LayLemmas
mod LimitLemmas
mod ListLemmas
mod Loops
mod PlaceLemmas
mod SizeLemmas
mod SizeLoops
pub mod Totality
mod WayLemmas
mod WhenLemmas
