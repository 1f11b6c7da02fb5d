-- Own ranges of cells, passed on.
pub use Rattle.cell_ranges.specs.Ranges.{IsShort, ends_of}
