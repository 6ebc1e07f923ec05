-- A buffer with octets written at a place: what stands before and behind them stays.
use Rattle.std.specs.Prelude.{ℕ, ◌+◌, List, ◌++◌, length, take, drop}

unfoldable pub splice : List ℕ → ℕ → List ℕ → List ℕ
splice buffer at written = take at buffer ++ written ++ drop (at + length written) buffer
