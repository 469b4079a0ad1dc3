-- The end of the records: the tests of the whole graph, and what the reading gives. Assumes nothing.
use mathlib.Core.Path.{◌≡◌, refl, sym, ap, ◌∙◌}
use mathlib.Core.List.{List, map}
use Prim.Native.Nat.{ℕ, ◌≤◌, ◌<◌}
use native.Mathlib.Omega.{arith}
use lib.ListN.{length, take, length-map}
use Rattle.std.specs.Prelude.{None, Some, Ok, Err}
use Rattle.reply.specs.declared.Refusal.{Refusal}
use Rattle.reply.specs.declared.Refusal.TheVariants.{NoTask, EmptyCycle}
use Rattle.graph.specs.Model.{Graph, empty}
use Rattle.graph.specs.Memory.{Memory, laid_link, zero_link, laid}
use Rattle.graph.proofs.Laid.{pad_take}
use Rattle.format.specs.Reader.{Answer, stopped, no_task, no_entry, taken, reply, graph_of}
use Rattle.reader.specs.Records.{AllRead, Refused}
use Rattle.reader.specs.Reading.{FirstHollow, Parses, Gives}
use Rattle.reader.proofs.Stored.{pad_places}

module _ (file : List ℕ) (m : Memory) (E : AllRead file m) where
  abbrev g : Graph
  g = E.state.graph

  tasks_is : m.ntasks ≡ length g.tasks
  unfolding laid
  tasks_is = ap (λ (n : Memory). n.ntasks) E.laid_out

  pub few_channels : length m.channels ≡ 64 → m.nchannels ≤ 64
  unfolding laid
  few_channels h =
      omega (arith, ap (λ (n : Memory). n.nchannels) E.laid_out, ap (λ (n : Memory). length n.channels) E.laid_out, pad_places 64 zero_link (map laid_link g.channels), length-map g.channels laid_link)

  -- the channels in use are those of the graph
  pub links : take m.nchannels m.channels ≡ map laid_link g.channels
  unfolding laid
  links =
      ap (λ (n : Memory). take n.nchannels n.channels) E.laid_out
      ∙ ap (λ n. take n (laid g).channels) (sym (length-map g.channels laid_link))
      ∙ pad_take 64 zero_link (map laid_link g.channels)

  pub refuses_none : m.ntasks ≡ 0 → Refused file NoTask
  refuses_none z = (no_task, E.so no_task (refl, sym tasks_is ∙ z), refl)

  module _ (some : ¬ (m.ntasks ≡ 0)) where
    has_task : 0 < length g.tasks
    has_task = omega (arith, tasks_is, some)

    pub refuses_hollow : (i : ℕ) → FirstHollow g (Some i) → Refused file (EmptyCycle i)
    refuses_hollow i f = (no_entry i, E.so (no_entry i) (refl, has_task, f), refl)

    pub takes : FirstHollow g None → Parses file (Ok m)
    takes f = (g, E.so (taken g) (refl, record { some_task = has_task; some_entry = f }, refl), E.laid_out)

-- ---- the reply

pub gives_graph : (file : List ℕ) (m : Memory) → Parses file (Ok m) → Gives file (record { reply = Ok m.ntasks; graph = m })
unfolding laid
gives_graph file m (g, reads, is) = record { answer = taken g; means = reads; reply = ap (λ (n : Memory). Ok n.ntasks) is; graph = is }

pub gives_refusal : (file : List ℕ) (r : Refusal) → Parses file (Err r) → Gives file (record { reply = Err r; graph = laid empty })
gives_refusal file r (a, means, e) = record { answer = a; means = means; reply = sym e; graph = ap laid (sym (nothing a e)) }
  where
    nothing : (a : Answer) → reply a ≡ Err r → graph_of a ≡ empty
    nothing (stopped t at) e = refl
    nothing no_task e = refl
    nothing (no_entry i) e = refl
    nothing (taken g) e = cc
