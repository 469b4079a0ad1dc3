-- The numbers of the reply: number, place and job of each case. Assumes nothing.
use Rattle.std.specs.Prelude.{ℕ, Result, Ok, Err}
use Rattle.reply.specs.declared.Numbers.{Numbers}
use Rattle.reply.specs.declared.Refusal.{Refusal}
use Rattle.reply.specs.declared.Refusal.TheVariants.{UnknownKind, CutShort, OutOfOrder, OutOfRange, TooMany, NoTask, EmptyCycle, SamePriority, ShortReport, FalseRelation, Late, Overloaded, InitialAboveSize, Unbalanced, WindowTooLong, Underflow, Overflow, NoFile, ShortOutput}

-- accepted with the number of tasks, or refused
abbrev pub Reply : Type 0
Reply = Result ℕ Refusal

-- number, place and job together
abbrev pub three : ℕ → ℕ → ℕ → Numbers
three number place job = record { number = number; place = place; job = job }

-- number, place and job of each reply
abbrev pub numbered : Reply → Numbers
numbered (Ok tasks) = three 0 tasks 0
numbered (Err (UnknownKind at)) = three 1 at 0
numbered (Err (CutShort at)) = three 2 at 0
numbered (Err (OutOfOrder at)) = three 3 at 0
numbered (Err (OutOfRange at)) = three 4 at 0
numbered (Err (TooMany at)) = three 5 at 0
numbered (Err NoTask) = three 6 0 0
numbered (Err (EmptyCycle place)) = three 7 place 0
numbered (Err (SamePriority task)) = three 8 task 0
numbered (Err (ShortReport tasks)) = three 9 tasks 0
numbered (Err (FalseRelation relation)) = three 10 relation 0
numbered (Err (Late task)) = three 11 task 0
numbered (Err Overloaded) = three 12 0 0
numbered (Err (InitialAboveSize channel)) = three 13 channel 0
numbered (Err (Unbalanced channel)) = three 14 channel 0
numbered (Err (WindowTooLong channel)) = three 15 channel 0
numbered (Err (Underflow channel job)) = three 16 channel job
numbered (Err (Overflow channel job)) = three 17 channel job
numbered (Err NoFile) = three 18 0 0
numbered (Err (ShortOutput needed)) = three 19 needed 0

-- a reply's number
abbrev pub number : Reply → ℕ
number r = (numbered r).number

-- a reply's place
abbrev pub place : Reply → ℕ
place r = (numbered r).place

-- a reply's job
abbrev pub job : Reply → ℕ
job r = (numbered r).job
