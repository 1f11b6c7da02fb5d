pub mod DigitLemmas
pub mod ZonedLemmas
pub mod PackedLemmas
pub mod EditLemmas
pub mod RoundTrip
