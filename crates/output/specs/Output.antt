-- Bytes at a place of an output. Assumes nothing.
use Rattle.std.specs.Prelude.{List, ◌++◌, ℕ, ◌+◌, length, take, drop}

-- bs over the places from `at` on
unfoldable pub put : List ℕ → ℕ → List ℕ → List ℕ
put out at bs = take at out ++ (bs ++ drop (at + length bs) out)
