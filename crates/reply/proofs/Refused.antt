-- A refusal's number is never 0. Assumes nothing.
use Prim.Native.Nat.{◌≤◌}
use native.Mathlib.Omega.{arith}
use Rattle.std.specs.Prelude.{Err}
use Rattle.reply.specs.declared.Refusal.{Refusal}
use Rattle.reply.specs.declared.Refusal.TheVariants.{UnknownKind, CutShort, OutOfOrder, OutOfRange, TooMany, NoTask, EmptyCycle, SamePriority, ShortReport, FalseRelation, Late, Overloaded, InitialAboveSize, Unbalanced, WindowTooLong, Underflow, Overflow, NoFile, ShortOutput}
use Rattle.reply.specs.Reply.{number}

pub refused_number : (r : Refusal) → 1 ≤ number (Err r)
refused_number (UnknownKind a) = omega arith
refused_number (CutShort a) = omega arith
refused_number (OutOfOrder a) = omega arith
refused_number (OutOfRange a) = omega arith
refused_number (TooMany a) = omega arith
refused_number NoTask = omega arith
refused_number (EmptyCycle a) = omega arith
refused_number (SamePriority a) = omega arith
refused_number (ShortReport a) = omega arith
refused_number (FalseRelation a) = omega arith
refused_number (Late a) = omega arith
refused_number Overloaded = omega arith
refused_number (InitialAboveSize a) = omega arith
refused_number (Unbalanced a) = omega arith
refused_number (WindowTooLong a) = omega arith
refused_number (Underflow a j) = omega arith
refused_number (Overflow a j) = omega arith
refused_number NoFile = omega arith
refused_number (ShortOutput a) = omega arith
