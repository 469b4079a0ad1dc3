-- What a cursor has room for, and what it writes. Assumes nothing.
use Rattle.std.specs.Prelude.{◌≡◌, List, ℕ, ◌+◌, ◌≤◌, length}
use Rattle.output.specs.declared.Cursor.{Cursor}
use Rattle.output.specs.Output.{put}

-- n more bytes fit into the output
abbrev pub HasRoom : Cursor → ℕ → Type 0
HasRoom c n = c.at + n ≤ length c.out.now

-- The cursor `before`, once bs are written at its place, is `after`.
pub record Wrote (before : Cursor) (bs : List ℕ) (after : Cursor) : Type 0 where
  pub same_output : after.out.ghost_name ≡ before.out.ghost_name
  pub same_length : length after.out.now ≡ length before.out.now
  pub bytes : after.out.now ≡ put before.out.now before.at bs
  pub next : after.at ≡ before.at + length bs
  pub room : after.at ≤ length after.out.now
