-- What the checker answers and what its answers mean, passed on to the commands.
pub use Rattle.cert_check.specs.Checking
pub use Rattle.cert_check.specs.Assignments
pub use Rattle.cert_check.specs.Claims
pub use Rattle.cert_check.specs.OpenPairs
pub use Rattle.cert_check.specs.declared.ends.CheckEnd
pub use Rattle.cert_check.specs.declared.ends.Leak
pub use Rattle.cert_check.specs.declared.ends.Shape
