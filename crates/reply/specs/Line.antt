-- How a reply's numbers are printed. Assumes nothing.
use Rattle.std.specs.Prelude.{List, ◌∷◌, ◌++◌, ℕ}
use Rattle.std.specs.Fmt.{decimal}
use Rattle.reply.specs.declared.Numbers.{Numbers}

-- number, place and job in decimal, with a space between them
abbrev pub line : Numbers → List ℕ
line x = decimal x.number ++ (32 ∷ (decimal x.place ++ (32 ∷ decimal x.job)))
