-- The tick machine of a processor and what it is judged by: tasks, executions, and the response rule. The machine is defined without the
-- rule. Assumes nothing.
use Rattle.std.specs.Prelude.{◌≡◌, Bool, cond, ◌&&◌, ℕ, ◌+◌, ◌*◌, ◌≤◌, ◌<◌, ltb, eqb}
use Rattle.numbers.specs.Numbers.{sum, ceil}

-- ---- tasks

-- The tasks 0 … count - 1, each bound to a processor. There the smallest priority number goes first.
pub record Tasks : Type 0 where
  pub count : ℕ
  pub processor : ℕ → ℕ
  pub period : ℕ → ℕ
  pub offset : ℕ → ℕ
  pub deadline : ℕ → ℕ
  pub worst : ℕ → ℕ
  pub priority : ℕ → ℕ

-- i is a task of processor q
pub record Mine (ts : Tasks) (q i : ℕ) : Type 0 where
  pub counted : i < ts.count
  pub bound : ts.processor i ≡ q

-- the tick in which job k of task i is released
abbrev pub release : Tasks → ℕ → ℕ → ℕ
release ts i k = ts.offset i + k * ts.period i

-- ---- executions

-- what one tick is spent on: nothing, or job k of task i
pub data Slot : Type 0 where
  idle : Slot
  job : ℕ → ℕ → Slot

-- 1 if the slot is job k of task i, otherwise 0
unfoldable pub tick : ℕ → ℕ → Slot → ℕ
tick i k idle = 0
tick i k (job j l) = cond (eqb j i && eqb l k) 1 0

-- the number of ticks before t that job k of task i has run, where tick s is spent on `runs s`
unfoldable pub ran : (ℕ → Slot) → ℕ → ℕ → ℕ → ℕ
ran runs i k t = sum (λ s. tick i k (runs s)) t

-- Below, q is the processor, and `needs i k` is the number of ticks that job k of task i runs in all.
module _ (ts : Tasks) (q : ℕ) (needs : ℕ → ℕ → ℕ) (runs : ℕ → Slot) where
  -- at tick t, job k of task i is released and has ticks left to run
  pub record Unfinished (t i k : ℕ) : Type 0 where
    pub mine : Mine ts q i
    pub released : release ts i k ≤ t
    pub left : ran runs i k t < needs i k

  -- job k of task i may run at tick t: it is unfinished, and no unfinished job has a smaller priority number
  pub record First (t i k : ℕ) : Type 0 where
    pub ready : Unfinished t i k
    pub least : (j l : ℕ) → Unfinished t j l → ts.priority i ≤ ts.priority j

  -- tick t may be spent so: on a job that may run, or on nothing where no job is unfinished
  abbrev pub May : ℕ → Slot → Type 0
  May t idle = (i k : ℕ) → ¬ Unfinished t i k
  May t (job i k) = First t i k

  -- an execution in which each job runs any number of ticks from 1 to its worst
  pub record Legal : Type 0 where
    pub length : (i k : ℕ) → Mine ts q i → (1 ≤ needs i k) × (needs i k ≤ ts.worst i)
    pub choice : (t : ℕ) → May t (runs t)

-- ---- the response rule

-- j interferes with i: it is a task of i's processor, with a smaller priority number
abbrev pub above : Tasks → ℕ → ℕ → Bool
above ts i j = eqb (ts.processor j) (ts.processor i) && ltb (ts.priority j) (ts.priority i)

-- C_i plus, over every j above i, C_j × ⌈ w / T_j ⌉
unfoldable pub demand : Tasks → ℕ → ℕ → ℕ
demand ts i w = ts.worst i + sum (λ j. cond (above ts i j) (ts.worst j * ceil w (ts.period j)) 0) ts.count

-- r is the least w from 1 to the deadline whose demand is at most w
pub record IsResponse (ts : Tasks) (i r : ℕ) : Type 0 where
  pub from_one : 1 ≤ r
  pub to_deadline : r ≤ ts.deadline i
  pub enough : demand ts i r ≤ r
  pub least : (w : ℕ) → 1 ≤ w → demand ts i w ≤ w → r ≤ w

-- what the checker has tested of the tasks, r i being the response time that it reports for task i
pub record Tested (ts : Tasks) (r : ℕ → ℕ) : Type 0 where
  pub constrained : (i : ℕ) → i < ts.count → ts.deadline i ≤ ts.period i
  pub distinct : (i j : ℕ) → i < ts.count → j < ts.count → ts.priority i ≡ ts.priority j → i ≡ j
  pub response : (i : ℕ) → i < ts.count → IsResponse ts i (r i)

-- ---- the promise

-- Job k of task i has run in full at its release + r, and runs only from its release up to then, which is no later than its deadline.
pub record Served (ts : Tasks) (needs : ℕ → ℕ → ℕ) (runs : ℕ → Slot) (r i k : ℕ) : Type 0 where
  pub finished : ran runs i k (release ts i k + r) ≡ needs i k
  pub inside : (t : ℕ) → runs t ≡ job i k → (release ts i k ≤ t) × (t < release ts i k + r)
  pub in_time : release ts i k + r ≤ release ts i k + ts.deadline i
