-- The program's first line is the line that a reply displays as, and a line feed. Assumes nothing.
use mathlib.Core.Path.{◌≡◌, sym, ap, ◌∙◌}
use mathlib.Core.List.{List, [], ◌∷◌, ◌++◌, append_assoc}
use Prim.Native.Nat.{ℕ}
use Rattle.std.specs.Fmt.{decimal}
use Rattle.reply.specs.declared.Numbers.{Numbers}
use Rattle.reply.specs.Line.{line}
use Rattle.lines.specs.Lines.{reply_line, space, feed}

pub displayed : (x : Numbers) → reply_line x ≡ line x ++ (feed ∷ [])
displayed x = simp (append_assoc)
