-- `lines::put_word` meets its contract: the digits, and one byte more. Assumes nothing.
use mathlib.Core.Path.{◌∙◌}
use Rattle.output.proofs.Parts.{wrote_then, wrote_same}
use Rattle.lines.proofs.put_word.Goals as goal

pub returns-clause-word : goal.returns-clause-word
returns-clause-word c = wrote_then (wrote_same (c.as_bytes.ensures.value ∙ c.format.ensures.text) c.put.ensures) c.put-2.ensures
