-- What a file gives is determined: reply and every place of the graph. Assumes nothing.
use mathlib.Core.Path.{◌≡◌, sym, ap, ◌∙◌}
use mathlib.Core.List.{List}
use Prim.Native.Nat.{ℕ}
use Rattle.std.specs.Prelude.{Result, Ok, Err}
use Rattle.reply.specs.declared.Refusal.{Refusal}
use Rattle.graph.specs.Memory.{Memory, laid}
use Rattle.format.specs.Reader.{taken, reply, graph_of}
use Rattle.format.proofs.Reading.{one_answer}
use Rattle.reader.specs.declared.Reading.{Reading}
use Rattle.reader.specs.Reading.{Parses, Gives}

pub determined : (file : List ℕ) (q r : Reading) → Gives file q → Gives file r → q ≡ r
determined file q r a b =
    let e : a.answer ≡ b.answer = one_answer file a.answer b.answer a.means b.means in
    let f = a.reply ∙ ap reply e ∙ sym b.reply in
    let g = a.graph ∙ ap (λ x. laid (graph_of x)) e ∙ sym b.graph in
    λ i. record { reply = f i; graph = g i }

-- the same of the graph or the refusal alone
pub parsed_once : (file : List ℕ) (q r : Result Memory Refusal) → Parses file q → Parses file r → q ≡ r
parsed_once file (Ok m) (Ok n) (g, a, e) (h, b, f) =
    let same = one_answer file (taken g) (taken h) a b in
    ap Ok (e ∙ ap (λ x. laid (graph_of x)) same ∙ sym f)
parsed_once file (Ok m) (Err s) (g, a, e) (x, b, f) = let same = ap reply (one_answer file (taken g) x a b) ∙ f in cc
parsed_once file (Err r) (Ok n) (x, a, e) (h, b, f) = let same = ap reply (one_answer file (taken h) x b a) ∙ e in cc
parsed_once file (Err r) (Err s) (x, a, e) (y, b, f) = let same = sym e ∙ ap reply (one_answer file x y a b) ∙ f in cc
