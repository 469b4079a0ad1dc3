-- What a reader of graph files answers: the tests of a record, what each answer means, and how it is computed. Assumes nothing.
use Rattle.std.specs.Prelude.{◌≡◌, Bool, cond, ◌&&◌, Option, Some, None, option_map, Ok, Err, List, [], ◌∷◌, ◌++◌, ℕ, zero, suc, ◌+◌, ◌≤◌, ◌<◌, eqb, ltb, leb, ℤ, pos, negsuc, length, get_or, take, drop}
use Rattle.reply.specs.declared.Refusal.{Refusal}
use Rattle.reply.specs.Reply.{Reply}
use Rattle.reply.specs.declared.Refusal.TheVariants.{UnknownKind, CutShort, OutOfOrder, OutOfRange, TooMany, NoTask, EmptyCycle}
use Rattle.graph.specs.Model.{Link, Graph, empty, max_tasks, max_channels, max_relations, max_prefix, max_cycle, million, bare}
use Rattle.format.specs.Growth.{with_tasks, with_channels, with_relations, entries, push, change}
use Rattle.numbers.specs.Lists.{All, all, First}
use Rattle.format.specs.Record.{Kind, kind_of, size, Record, kind, task, channel, rate, relation, decode, encodes, rank, after}

-- ---- a graph grows by a record

-- the graph with what the record says
unfoldable pub add : Graph → Record → Graph
add g (task t) = with_tasks g (g.tasks ++ (t ∷ []))
add g (channel p c i s) = with_channels g (g.channels ++ (bare p c i s ∷ []))
add g (rate c s p x) = with_channels g (change (push s p x) c g.channels)
add g (relation r) = with_relations g (g.relations ++ (r ∷ []))

-- ---- ranges

-- x is from low to high; x, which one byte holds, is the number of one of n records; the signed z is from -high to high
pub data Range : Type 0 where
  within : (low x high : ℕ) → Range
  names : (x n : ℕ) → Range
  signed : (z : ℤ) (high : ℕ) → Range

-- what a range asks
abbrev pub Holds : Range → Type 0
Holds (within low x high) = (low ≤ x) × (x ≤ high)
Holds (names x n) = (x < n) × (x < 256)
Holds (signed (pos n) high) = n ≤ high
Holds (signed (negsuc n) high) = n < high

-- `Holds` as a test
abbrev pub holds : Range → Bool
holds (within low x high) = leb low x && leb x high
holds (names x n) = ltb x n && ltb x 256
holds (signed (pos n) high) = leb n high
holds (signed (negsuc n) high) = ltb n high

-- a list of bytes, which a file is
abbrev pub Bytes : List ℕ → Type 0
Bytes bs = All (λ b. b < 256) bs

-- the ranges of a record's fields, behind the graph so far; tokens are any that two bytes hold
unfoldable pub ranges : Graph → Record → List Range
ranges g (task t) =
    within 1 t.period million
    ∷ within 0 t.offset million
    ∷ within 1 t.deadline t.period
    ∷ within 1 t.worst t.deadline
    ∷ within 1 t.priority 255
    ∷ []
ranges g (channel p c i s) =
    names p (length g.tasks)
    ∷ names c (length g.tasks)
    ∷ within 0 i million
    ∷ within 0 s million
    ∷ []
ranges g (rate c s p x) =
    names c (length g.channels)
    ∷ within 0 s 1
    ∷ within 0 p 1
    ∷ within 0 x 65535
    ∷ []
ranges g (relation r) =
    names r.p (length g.tasks)
    ∷ names r.q (length g.tasks)
    ∷ within 1 r.n million
    ∷ signed r.phi million
    ∷ within 1 r.d million
    ∷ []

-- all fields of the record are in range
abbrev pub InRange : Graph → Record → Type 0
InRange g r = All Holds (ranges g r)

-- ---- counts: how many records of its sort the graph has, and how many it may have

-- how many records of its sort there are, of a rate how many entries of its list
unfoldable pub count : Graph → Record → ℕ
count g (task t) = length g.tasks
count g (channel p c i s) = length g.channels
count g (rate c s p x) = length (entries g c s p)
count g (relation r) = length g.relations

-- how many there may be
unfoldable pub limit : Record → ℕ
limit (task t) = max_tasks
limit (channel p c i s) = max_channels
limit (rate c s p x) = cond (eqb p 0) max_prefix max_cycle
limit (relation r) = max_relations

-- ---- the tests of one record

-- The graph so far, and the least rank that the next record may have.
pub record State : Type 0 where
  pub graph : Graph
  pub floor : ℕ

-- the state before the first record
abbrev pub start : State
start = record { graph = empty; floor = 0 }

-- the state behind one record more
abbrev pub step : State → Record → State
step s r = record { graph = add s.graph r; floor = after r }

-- the tests 1 to 5
pub data Test : Type 0 where
  unknown cut down range full : Test

-- their numbers, which are their order
abbrev pub test_number : Test → ℕ
test_number unknown = 1
test_number cut = 2
test_number down = 3
test_number range = 4
test_number full = 5

-- What each test says of a record, given by its kind and the bytes behind that. Of an unknown kind there is nothing to say but that, and the first test says it.
abbrev pub Fires : State → Option Kind → List ℕ → Test → Type 0
Fires s None bs t = Unit {0}
Fires s (Some k) bs unknown = ⊥
Fires s (Some k) bs cut = length bs < size k
Fires s (Some k) bs down = rank (decode k (take (size k) bs)) < s.floor
Fires s (Some k) bs range = ¬ InRange s.graph (decode k (take (size k) bs))
Fires s (Some k) bs full = limit (decode k (take (size k) bs)) ≤ count s.graph (decode k (take (size k) bs))

-- t is the first test that fires.
abbrev pub FirstTest : (Test → Type 0) → Test → Type 0
FirstTest F t = F t × ((u : Test) → test_number u < test_number t → ¬ F u)

-- t is the first test that fires at the record in front of these bytes; where no byte is left, none fires
abbrev pub Stops : State → List ℕ → Test → Type 0
Stops s [] t = ⊥
Stops s (k ∷ bs) t = FirstTest (Fires s (kind_of k) bs) t

-- ---- good records

-- a record that no test refuses
pub record Good (s : State) (r : Record) : Type 0 where
  pub in_order : s.floor ≤ rank r
  pub in_range : InRange s.graph r
  pub room : count s.graph r < limit r

-- records each good behind those before it
abbrev pub AllGood : State → List Record → Type 0
AllGood s [] = Unit {0}
AllGood s (r ∷ rs) = Good s r × AllGood (step s r) rs

-- the state behind all these records
abbrev pub steps : State → List Record → State
steps s [] = s
steps s (r ∷ rs) = steps (step s r) rs

-- The bytes are those of good records and the rest.
pub record Run (s : State) (bytes : List ℕ) (rs : List Record) (rest : List ℕ) : Type 0 where
  pub good : AllGood s rs
  pub parts : bytes ≡ encodes rs ++ rest

-- ---- the whole graph

-- the lengths of the cycles, at the places 2 × channel + side
unfoldable pub cycles : List Link → List ℕ
cycles [] = []
cycles (c ∷ cs) = length c.production.cycle ∷ length c.consumption.cycle ∷ cycles cs

-- at place i there is a cycle without entries
abbrev pub Hollow : Graph → ℕ → Type 0
Hollow g i = get_or (cycles g.channels) i 1 ≡ 0

-- some task, and an entry in every cycle
pub record Whole (g : Graph) : Type 0 where
  pub some_task : 0 < length g.tasks
  pub some_entry : (i : ℕ) → ¬ Hollow g i

-- ---- answers

-- what the reader answers: a test at a place, no task, an empty cycle, or the graph
pub data Answer : Type 0 where
  stopped : Test → ℕ → Answer
  no_task : Answer
  no_entry : ℕ → Answer
  taken : Graph → Answer

-- the refusal of a test that fires at a place
abbrev pub stop_reply : Test → ℕ → Refusal
stop_reply unknown place = UnknownKind place
stop_reply cut place = CutShort place
stop_reply down place = OutOfOrder place
stop_reply range place = OutOfRange place
stop_reply full place = TooMany place

-- the reply of each answer
abbrev pub reply : Answer → Reply
reply (stopped t place) = Err (stop_reply t place)
reply no_task = Err NoTask
reply (no_entry place) = Err (EmptyCycle place)
reply (taken g) = Ok (length g.tasks)

-- the graph that the reader hands back
abbrev pub graph_of : Answer → Graph
graph_of (stopped t place) = empty
graph_of no_task = empty
graph_of (no_entry place) = empty
graph_of (taken g) = g

-- The answer where good records have led to a state and the bytes `rest` are left, the first of them byte `at` of the file.
abbrev pub Ends : State → ℕ → List ℕ → Answer → Type 0
Ends s at rest (stopped t place) = Stops s rest t × (place ≡ at)
Ends s at rest no_task = (rest ≡ []) × (length s.graph.tasks ≡ 0)
Ends s at rest (no_entry place) = (rest ≡ []) × (0 < length s.graph.tasks) × First (Hollow s.graph) place
Ends s at rest (taken g) = (rest ≡ []) × Whole s.graph × (s.graph ≡ g)

-- The answer to bytes that stand behind good records, `at` bytes in all, that have led to state s.
pub record Means (s : State) (at : ℕ) (bytes : List ℕ) (a : Answer) : Type 0 where
  pub records : List Record
  pub rest : List ℕ
  pub run : Run s bytes records rest
  pub ends : Ends (steps s records) (at + length (encodes records)) rest a

-- a is the answer to the file.
abbrev pub Answers : List ℕ → Answer → Type 0
Answers file a = Means start 0 file a

-- The first `at` bytes of the file have led to state s: any answer to what is left is the answer to the file.
pub record Leads (file : List ℕ) (s : State) (at : ℕ) : Type 0 where
  pub inside : at ≤ length file
  pub so : (a : Answer) → Means s at (drop at file) a → Answers file a

-- the file reads as the graph
abbrev pub Reads : List ℕ → Graph → Type 0
Reads file g = Answers file (taken g)

-- ---- the answer computed

-- the first test of a record that fires, or the record
pub data Front : Type 0 where
  stops : Test → Front
  passes : Record → Front

-- the tests in their order
unfoldable pub front : State → Option Kind → List ℕ → Front
front s None bs = stops unknown
front s (Some k) bs =
    let r : Record = decode k (take (size k) bs) in
    cond (ltb (length bs) (size k)) (stops cut)
    (cond (ltb (rank r) s.floor) (stops down)
    (cond (all holds (ranges s.graph r))
    (cond (leb (limit r) (count s.graph r)) (stops full) (passes r))
    (stops range)))

-- the first place of a list where there stands 0
unfoldable pub first_zero : List ℕ → Option ℕ
first_zero [] = None
first_zero (zero ∷ xs) = Some 0
first_zero (suc x ∷ xs) = option_map suc (first_zero xs)

-- the tests of the whole graph in their order
unfoldable pub finish : Graph → Answer
finish g =
    cond (eqb (length g.tasks) 0) no_task
    (elim (first_zero (cycles g.channels)) [ None ↦ taken g | Some i ↦ no_entry i ])

-- record by record, at byte `at`; each record has at least one byte, so as many rounds as there are bytes are enough
unfoldable pub loop : ℕ → State → ℕ → List ℕ → Answer
loop zero s at bs = finish s.graph
loop (suc n) s at [] = finish s.graph
loop (suc n) s at (k ∷ bs) = elim (front s (kind_of k) bs) [
  | stops t ↦ stopped t at
  | passes r ↦ loop n (step s r) (at + suc (size (kind r))) (drop (size (kind r)) bs)
]

-- the reader's answer computed
unfoldable pub read : List ℕ → Answer
read file = loop (length file) start 0 file
