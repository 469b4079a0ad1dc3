-- From what is read and written to what is judged. Assumes nothing.
use mathlib.Core.Path.{◌≡◌, subst, ap, ◌∙◌}
use Rattle.std.specs.Prelude.{Result, Ok, Err, None, Some, OnOk, IfSome, List, ℕ, take}
use Rattle.std.specs.declared.option.Option.{Option}
use Rattle.std.specs.Io.KnownBytes.{Appends}
use Rattle.lines.specs.Lines.{Prints}
use Rattle.ringcheck.specs.Judging.{Judged}

-- the bytes that were read are the file's first ones, and their lines were written
pub judged : {A E : Type 0} (r : Result A E) (left : Option (List ℕ)) (bytes text : List ℕ) (most : ℕ) (before after : Option (List ℕ))
    → most ≡ 65536 → IfSome left (λ file. bytes ≡ take most file) → Prints bytes text → OnOk r (Appends before after text)
    → OnOk r (IfSome left (λ file. Judged file before after))
judged (Ok x) (Some file) bytes text most before after m e p a =
    record { text = text; prints = subst (λ l. Prints l text) (e ∙ ap (λ n. take n file) m) p; appended = a }
judged (Ok x) None bytes text most before after m e p a = _
judged (Err x) left bytes text most before after m e p a = _
