-- What the program makes of an input whose bytes are known. Assumes nothing.
use Rattle.std.specs.Prelude.{List, ℕ, take}
use Rattle.std.specs.declared.option.Option.{Option}
use Rattle.std.specs.Io.KnownBytes.{Appends}
use Rattle.lines.specs.Lines.{Prints}

-- The lines for the first 65,536 bytes of a file, or for all of a shorter one, behind what the output held.
pub record Judged (file : List ℕ) (before after : Option (List ℕ)) : Type 0 where
  pub text : List ℕ
  pub prints : Prints (take 65536 file) text
  pub appended : Appends before after text
