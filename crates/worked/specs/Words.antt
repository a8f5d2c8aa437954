-- The definitions that the touchstones try, one a line: an edit puts a short cut in the place of one.
pub use Rattle.terms.specs.Swaps.{Step}
pub use Rattle.terms.specs.Swaps.{Reaches}
pub use Rattle.terms.specs.Order.{Before}
