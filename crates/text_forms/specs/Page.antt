-- What each part of the page keeps.
use Rattle.std.specs.Prelude.{◌≡◌, ℕ, ◌≤◌, List, length}

-- bytes put from a place of a buffer on: the buffer keeps its length, and the place behind them is in it or at its end
pub record Kept (out out' : List ℕ) (r : ℕ) : Type 0 where
  pub same : length out' ≡ length out
  pub inside : r ≤ length out
