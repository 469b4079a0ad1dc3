-- What a task's number finds in a list of tasks. Assumes nothing.
use Rattle.std.specs.Prelude.{cond, List, ℕ, ltb, length, Option, Some, None}
use Rattle.graph.specs.declared.Task.{Task}
use Rattle.graph.specs.Model.{task_of}
use Rattle.relations.specs.declared.Times.{Times}

-- a task's period and offset
abbrev pub times : Task → Times
times t = record { period = t.period; offset = t.offset }

-- the period and offset of the task that the number names; a number past the list names none
abbrev pub found : List Task → ℕ → Option Times
found l i = cond (ltb i (length l)) (Some (times (task_of l i))) None
