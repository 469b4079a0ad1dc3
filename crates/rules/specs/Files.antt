-- What is answered to a file: the reader's refusal, or the answer to the graph that the file reads as. Assumes nothing.
use Rattle.std.specs.Prelude.{◌≡◌, List, [], ℕ}
use Rattle.reply.specs.Reply.{Reply}
use Rattle.format.specs.Reader as files
use Rattle.rules.specs.Rules.{Answers}
use Rattle.rules.specs.Check as check

-- By what the reader answers: the reply, and the figures that go into a report with that room.
abbrev pub Judged : files.Answer → ℕ → Reply → List ℕ → Type 0
Judged (files.taken g) room r l = Answers g room r l
Judged (files.stopped t place) room r l = (r ≡ files.reply (files.stopped t place)) × (l ≡ [])
Judged files.no_task room r l = (r ≡ files.reply files.no_task) × (l ≡ [])
Judged (files.no_entry place) room r l = (r ≡ files.reply (files.no_entry place)) × (l ≡ [])

-- the answer to a file, with room for so many figures
pub record FileAnswers (file : List ℕ) (room : ℕ) (r : Reply) (l : List ℕ) : Type 0 where
  pub read : files.Answer
  pub reads : files.Answers file read
  pub judged : Judged read room r l

-- the reply computed, by what the reader answers
abbrev pub judged_reply : files.Answer → ℕ → Reply
judged_reply (files.taken g) room = check.reply g room
judged_reply (files.stopped t place) room = files.reply (files.stopped t place)
judged_reply files.no_task room = files.reply files.no_task
judged_reply (files.no_entry place) room = files.reply (files.no_entry place)

-- the figures computed, by what the reader answers
abbrev pub judged_report : files.Answer → ℕ → List ℕ
judged_report (files.taken g) room = check.report g room
judged_report (files.stopped t place) room = []
judged_report files.no_task room = []
judged_report (files.no_entry place) room = []
