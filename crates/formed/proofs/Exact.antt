-- A well-formed graph is one that some file reads as, and just that. Assumes nothing.
use mathlib.Core.Path.{ap, sym, subst}
use mathlib.Core.List.{List}
use Prim.Native.Nat.{ℕ}
use Rattle.graph.specs.Model.{Graph}
use Rattle.graph.specs.Memory.{Memory, view, laid}
use Rattle.graph.proofs.Laid.{view_laid}
use Rattle.format.specs.Writer.{bytes, Formed}
use Rattle.format.proofs.Build.{formed_reads}
use Rattle.format.proofs.Formed.{reads_formed}
use Rattle.formed.specs.Formed.{WellFormed, ReadsAs}

-- lists that are formed, laid into memory
pub laid_well : (m : Graph) → Formed m → WellFormed (laid m)
laid_well m f = record { padded = ap laid (sym (view_laid m)); formed = subst Formed (sym (view_laid m)) f }

-- a well-formed graph is one that some file reads as
pub reads_well : (file : List ℕ) (g : Memory) → ReadsAs file g → WellFormed g
reads_well file g r = subst WellFormed (sym r.same) (laid_well r.model (reads_formed file r.model r.reads))

pub well_reads : (g : Memory) → WellFormed g → ReadsAs (bytes (view g)) g
well_reads g w = record { model = view g; reads = formed_reads (view g) w.formed; same = w.padded }
