-- From bytes to running tasks: what the checker accepts keeps its times and its queues, with the figures that stand in the report. Assumes nothing.
use mathlib.Core.Path.{◌≡◌, refl, ap, subst, ◌∙◌}
use mathlib.Core.List.{List}
use Prim.Native.Nat.{ℕ, ◌≤◌, ◌<◌}
use native.Mathlib.Omega.{arith}
use lib.ListN.{length, get_or, drop, get_or-append}
use Rattle.std.specs.Prelude.{Ok}
use Rattle.graph.specs.Model.{Graph, count}
use Rattle.graph.specs.Memory.{Memory, view}
use Rattle.format.specs.Reader as files
use Rattle.format.proofs.Reading.{one_answer}
use Rattle.format.proofs.Formed.{reads_formed}
use Rattle.rules.specs.Terms.{cost}
use Rattle.rules.specs.Rules.{Answers, Replies, passes}
use Rattle.rules.specs.Files.{Judged}
use Rattle.rules.specs.Execution.{Execution, Kept}
use Rattle.rules.proofs.Kept.{kept}
use Rattle.rules.proofs.Runs.{execution}
use Rattle.rules.proofs.Usable.{usable}
use Rattle.formed.specs.Formed.{ReadsAs}
use Rattle.formed.proofs.Exact.{reads_well}
use Rattle.checker.specs.Check.{Written, ChecksFile, MemoryAnswers, judged, ChecksGraph}
use Rattle.acceptance.specs.Worth.{ReadsOnly, Worth}

-- the figures in the first places of the report
in_report : (g : Graph) (l before after : List ℕ) (e : Execution g) → length l ≡ count g → Written l before after → Kept g l e → Kept g after e
in_report g l before after e n w k =
    let same : (i : ℕ) → i < count g → get_or after i 0 ≡ get_or l i 0 = λ i h.
    ap (λ r. get_or r i 0) w ∙ get_or-append l (drop (length l) before) 0 i (omega arith) in
    record { in_time = λ i j h. rw (same i h) (k.in_time i j h); in_bounds = k.in_bounds }

-- Every execution of a file that `check_file` accepts keeps what the report says.
pub file_kept : (file before after : List ℕ) (n : ℕ) → ChecksFile file before (Ok n) after → (g : Graph) → files.Reads file g → (e : Execution g) → Kept g after e
file_kept file before after n c g r e =
    let a : Answers g (length before) (Ok n) c.figures =
    subst (λ x. Judged x (length before) (Ok n) c.figures) (one_answer file c.answers.read (files.taken g) c.answers.reads r) c.answers.judged in
    in_report g c.figures before after e a.reports.size c.report
    (kept g (usable g (reads_formed file g r)) (length before) n c.figures a e)

-- Every execution of a graph that `check_graph` accepts keeps what the report says.
pub graph_kept : (m : Memory) (before after : List ℕ) (n : ℕ) → ChecksGraph m before (Ok n) after → (e : Execution (view m)) → Kept (view m) after e
graph_kept m before after n c e = go c.answers
  where
    go : MemoryAnswers m (length before) (Ok n) c.figures → Kept (view m) after e
    go (judged file w a) =
        in_report (view m) c.figures before after e a.reports.size c.report
        (kept (view m) (usable (view m) (reads_well file m w).formed) (length before) n c.figures a e)

-- It is not empty: a file that is read has an execution for every choice of running times from 1 to each task's cost.
pub file_runs : (file : List ℕ) (g : Graph) → files.Reads file g → (needs : ℕ → ℕ → ℕ) → ((i k : ℕ) → i < count g → (1 ≤ needs i k) × (needs i k ≤ cost g i)) → (e : Execution g) × (e.needs ≡ needs)
file_runs file g r needs h = execution g (usable g (reads_formed file g r)) needs h

pub graph_runs : (file : List ℕ) (m : Memory) → ReadsAs file m → (needs : ℕ → ℕ → ℕ) → ((i k : ℕ) → i < count (view m) → (1 ≤ needs i k) × (needs i k ≤ cost (view m) i)) → (e : Execution (view m)) × (e.needs ≡ needs)
graph_runs file m r needs h = execution (view m) (usable (view m) (reads_well file m r).formed) needs h

-- ---- nothing but the checker's word

-- an accepted reply counts the graph's tasks
counted : (g : Graph) (room n : ℕ) → Replies g room (Ok n) → count g ≡ n
counted g room n (passes a) = refl

-- A file that `check_file` accepts reads as one graph, and the reply has the number of its tasks.
pub accepted_reads : (file before after : List ℕ) (n : ℕ) → ChecksFile file before (Ok n) after → (g : Graph) × ReadsOnly file g × (count g ≡ n)
accepted_reads file before after n c = go c.answers.read c.answers.reads c.answers.judged
  where
    go : (a : files.Answer) → files.Answers file a → Judged a (length before) (Ok n) c.figures → (g : Graph) × ReadsOnly file g × (count g ≡ n)
    go (files.taken g) m j = (g, record { reads = m; only = λ h r. ap files.graph_of (one_answer file (files.taken h) (files.taken g) r m) }, counted g (length before) n j.replies)
    go (files.stopped t p) m j = absurd (cc (j.0))
    go files.no_task m j = absurd (cc (j.0))
    go (files.no_entry p) m j = absurd (cc (j.0))

-- What a yes to a file is worth, from the checker's word alone.
pub file_worth : (file before after : List ℕ) (n : ℕ) → ChecksFile file before (Ok n) after → (g : Graph) × ReadsOnly file g × Worth g n after
file_worth file before after n c =
    let (g, r, e) = accepted_reads file before after n c in
    (g, r, record { tasks = e; kept = file_kept file before after n c g r.reads; runs = file_runs file g r.reads })

-- What a yes to a graph in memory is worth, from the checker's word alone.
pub graph_worth : (m : Memory) (before after : List ℕ) (n : ℕ) → ChecksGraph m before (Ok n) after → Worth (view m) n after
graph_worth m before after n c = go c.answers
  where
    go : MemoryAnswers m (length before) (Ok n) c.figures → Worth (view m) n after
    go (judged file w a) =
        record {
          tasks = counted (view m) (length before) n a.replies;
          kept = graph_kept m before after n c;
          runs = graph_runs file m w;
        }
