-- The answer to a file is the computed one, and there is no other. Assumes nothing.
use mathlib.Core.Path.{◌≡◌, sym, subst, ◌∙◌}
use mathlib.Core.List.{List}
use Prim.Native.Nat.{ℕ}
use Rattle.reply.specs.Reply.{Reply}
use Rattle.format.specs.Reader as files
use Rattle.format.proofs.Reading.{read_answers, one_answer}
use Rattle.format.proofs.Formed.{reads_formed}
use Rattle.rules.specs.Files.{Judged, FileAnswers, judged_reply, judged_report}
use Rattle.rules.proofs.Report.{answers, answer_determined}
use Rattle.rules.proofs.Usable.{usable}

judged_so : (file : List ℕ) (room : ℕ) (a : files.Answer) → files.Answers file a → Judged a room (judged_reply a room) (judged_report a room)
judged_so file room (files.taken g) m = answers g room (usable g (reads_formed file g m))
judged_so file room (files.stopped t place) m = (λ _. files.reply (files.stopped t place), λ _. judged_report (files.stopped t place) room)
judged_so file room files.no_task m = (λ _. files.reply files.no_task, λ _. judged_report files.no_task room)
judged_so file room (files.no_entry place) m = (λ _. files.reply (files.no_entry place), λ _. judged_report (files.no_entry place) room)

pub file_answers : (file : List ℕ) → files.Bytes file → (room : ℕ) → FileAnswers file room (judged_reply (files.read file) room) (judged_report (files.read file) room)
file_answers file h room =
    let m = read_answers file h in
    record { read = files.read file; reads = m; judged = judged_so file room (files.read file) m }

judged_one : (room : ℕ) (a : files.Answer) (r s : Reply) (l m : List ℕ) → Judged a room r l → Judged a room s m → (r ≡ s) × (l ≡ m)
judged_one room (files.taken g) r s l m x y = answer_determined g room r s l m x y
judged_one room (files.stopped t place) r s l m x y = (x.0 ∙ sym y.0, x.1 ∙ sym y.1)
judged_one room files.no_task r s l m x y = (x.0 ∙ sym y.0, x.1 ∙ sym y.1)
judged_one room (files.no_entry place) r s l m x y = (x.0 ∙ sym y.0, x.1 ∙ sym y.1)

-- one answer to one file and room
pub file_determined : (file : List ℕ) (room : ℕ) (r s : Reply) (l m : List ℕ) → FileAnswers file room r l → FileAnswers file room s m → (r ≡ s) × (l ≡ m)
file_determined file room r s l m x y =
    judged_one room x.read r s l m x.judged
    (subst (λ a. Judged a room s m) (one_answer file y.read x.read y.reads x.reads) y.judged)
