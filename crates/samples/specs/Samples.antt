-- Files, the room in the report, and the answer to each: number, place, job, and the figures of an accepted one. Assumes nothing.
use Rattle.std.specs.Prelude.{◌≡◌, List, [], ◌∷◌, ◌++◌, ℕ, zero, suc, take}
use Rattle.reply.specs.declared.Numbers.{Numbers}
use Rattle.reply.specs.Reply.{Reply, numbered, three}
use Rattle.rules.specs.Files.{FileAnswers}

-- a file, the room in the report, and the answer
pub record Sample : Type 0 where
  pub file : List ℕ
  pub room : ℕ
  pub numbers : Numbers
  pub figures : List ℕ

-- ---- records, byte by byte; numbers that differ between samples are below 256

-- a task
abbrev task : ℕ → ℕ → ℕ → ℕ → ℕ → List ℕ
task period offset deadline worst priority =
    0x01 ∷ 0 ∷ 0 ∷ 0 ∷ period ∷ 0 ∷ 0 ∷ 0 ∷ offset ∷ 0 ∷ 0 ∷ 0 ∷ deadline ∷ 0 ∷ 0 ∷ 0 ∷ worst ∷ priority ∷ []

-- a channel
abbrev channel : ℕ → ℕ → ℕ → ℕ → List ℕ
channel producer consumer initial size =
    0x02 ∷ producer ∷ consumer ∷ 0 ∷ 0 ∷ 0 ∷ initial ∷ 0 ∷ 0 ∷ 0 ∷ size ∷ []

-- a rate
abbrev rate : ℕ → ℕ → ℕ → ℕ → List ℕ
rate channel side part tokens = 0x03 ∷ channel ∷ side ∷ part ∷ 0 ∷ tokens ∷ []

-- the rates of channel 0 in cycles of one entry
abbrev rates : ℕ → ℕ → List ℕ
rates put taken = rate 0 0 1 put ++ rate 0 1 1 taken

-- a relation of tasks p and q, with the bytes of φ
abbrev related : ℕ → ℕ → ℕ → List ℕ → ℕ → List ℕ
related p q n phase d = 0x04 ∷ p ∷ q ∷ 0 ∷ 0 ∷ 0 ∷ n ∷ (phase ++ (0 ∷ 0 ∷ 0 ∷ d ∷ []))

-- A's relation with the last byte of φ
abbrev relation : ℕ → List ℕ
relation phase = related 0 1 2 (0 ∷ 0 ∷ 0 ∷ phase ∷ []) 3

-- ---- graph A, whole

-- graph A
abbrev pub A : List ℕ
A =
    0x01 ∷ 0x00 ∷ 0x00 ∷ 0x00 ∷ 0x04 ∷ 0x00 ∷ 0x00 ∷ 0x00 ∷ 0x00 ∷ 0x00 ∷ 0x00 ∷ 0x00 ∷ 0x04 ∷ 0x00 ∷ 0x00 ∷ 0x00 ∷ 0x01 ∷ 0x01
    ∷ 0x01 ∷ 0x00 ∷ 0x00 ∷ 0x00 ∷ 0x06 ∷ 0x00 ∷ 0x00 ∷ 0x00 ∷ 0x08 ∷ 0x00 ∷ 0x00 ∷ 0x00 ∷ 0x06 ∷ 0x00 ∷ 0x00 ∷ 0x00 ∷ 0x02 ∷ 0x02
    ∷ 0x02 ∷ 0x00 ∷ 0x01 ∷ 0x00 ∷ 0x00 ∷ 0x00 ∷ 0x00 ∷ 0x00 ∷ 0x00 ∷ 0x00 ∷ 0x08
    ∷ 0x03 ∷ 0x00 ∷ 0x00 ∷ 0x01 ∷ 0x00 ∷ 0x02
    ∷ 0x03 ∷ 0x00 ∷ 0x01 ∷ 0x01 ∷ 0x00 ∷ 0x03
    ∷ 0x04 ∷ 0x00 ∷ 0x01 ∷ 0x00 ∷ 0x00 ∷ 0x00 ∷ 0x02 ∷ 0x00 ∷ 0x00 ∷ 0x00 ∷ 0x04 ∷ 0x00 ∷ 0x00 ∷ 0x00 ∷ 0x03
    ∷ []

-- A with q's offset and deadline, what stands behind the tasks
abbrev with_q : ℕ → ℕ → List ℕ → List ℕ
with_q offset deadline rest = task 4 0 4 1 1 ++ (task 6 offset deadline 2 2 ++ rest)

-- A with its channel's initial fill and size, the production prefix, the tokens consumed, and the relation
abbrev a_with : ℕ → ℕ → List ℕ → ℕ → List ℕ → List ℕ
a_with initial size before taken last = channel 0 1 initial size ++ (before ++ (rates 2 taken ++ last))

-- A with 4 tokens consumed
abbrev pub a_taking_4 : List ℕ
a_taking_4 = with_q 8 6 (a_with 0 8 [] 4 (relation 4))

-- one task with a channel to itself, with its initial fill and size
abbrev loop : ℕ → ℕ → List ℕ
loop initial size = task 5 0 5 1 1 ++ (channel 0 0 initial size ++ rates 1 1)

-- ---- the table

-- a file that is refused, by number, place and job
abbrev refused : List ℕ → ℕ → ℕ → ℕ → Sample
refused file number place job = record { file = file; room = 32; numbers = three number place job; figures = [] }

-- a file that is accepted, with the number of its tasks and R of each
abbrev accepted : List ℕ → ℕ → List ℕ → Sample
accepted file count figures = record { file = file; room = 32; numbers = three 0 count 0; figures = figures }

-- The samples that the specification asks to be proved: graph A and a few small graphs, by what they show.
unfoldable pub starred : List Sample
starred =
    refused [] 6 0 0
    ∷ refused (0x01 ∷ []) 2 0 0
    ∷ refused (0x09 ∷ []) 1 0 0
    ∷ accepted A 2 (1 ∷ 3 ∷ [])
    ∷ refused (with_q 8 6 (a_with 0 8 [] 3 (relation 3))) 10 0 0
    ∷ refused (with_q 8 6 (a_with 0 7 [] 3 (relation 4))) 17 0 3
    ∷ refused (with_q 7 6 (a_with 0 8 [] 3 [])) 16 0 0
    ∷ refused a_taking_4 14 0 0
    ∷ refused (with_q 8 2 (a_with 0 8 [] 3 (relation 4))) 11 1 0
    ∷ accepted (with_q 8 3 (a_with 0 8 [] 3 (relation 4))) 2 (1 ∷ 3 ∷ [])
    ∷ refused (with_q 8 6 (a_with 0 8 (rate 0 0 0 0) 3 (relation 4))) 16 0 0
    ∷ accepted (with_q 8 6 (a_with 2 8 (rate 0 0 0 0) 3 (relation 4))) 2 (1 ∷ 3 ∷ [])
    ∷ refused (loop 0 2) 16 0 0
    ∷ accepted (loop 1 2) 1 (1 ∷ [])
    ∷ refused (loop 1 1) 17 0 0
    ∷ accepted (task 2 0 2 1 1 ++ task 4 0 4 2 2) 2 (1 ∷ 4 ∷ [])
    ∷ []

-- a negative φ, by its last byte
abbrev minus : ℕ → List ℕ
minus last = 0xff ∷ 0xff ∷ 0xff ∷ last ∷ []

-- the tasks of A
abbrev both : List ℕ
both = with_q 8 6 []

-- n times the bytes
abbrev times : ℕ → List ℕ → List ℕ
times zero bs = []
times (suc n) bs = bs ++ times n bs

-- A's tasks and channel, and a second channel with prefixes on both sides
abbrev two_channels : List ℕ
two_channels =
    both ++ (channel 0 1 0 8 ++ (channel 0 1 3 3 ++ (rates 2 3
    ++ (rate 1 0 0 1 ++ (rate 1 0 0 0 ++ (rate 1 0 1 2 ++ (rate 1 1 0 4 ++ rate 1 1 1 3)))))))

-- One row for each field, side, place or bound that a definition could take for another.
unfoldable pub further : List Sample
further =
    -- 1 and 2: behind good records, the place is the kind byte's
    refused (A ++ (0 ∷ [])) 1 74 0
    ∷ refused (take 46 A) 2 36 0
    -- 3: a kind, a side, a part that goes down
    ∷ refused (both ++ (channel 0 1 0 8 ++ both)) 3 47 0
    ∷ refused (both ++ (channel 0 1 0 8 ++ (rate 0 1 1 3 ++ rate 0 0 1 2))) 3 53 0
    ∷ refused (both ++ (channel 0 1 0 8 ++ (rate 0 0 1 2 ++ rate 0 0 0 2))) 3 53 0
    -- 4: deadline above period, worst above deadline, priority 0, a channel that names no task, a rate that names no channel
    ∷ refused (task 4 0 5 1 1) 4 0 0
    ∷ refused (task 4 0 3 4 1) 4 0 0
    ∷ refused (task 4 0 4 1 0) 4 0 0
    ∷ refused (task 4 0 4 1 1 ++ channel 0 1 0 8) 4 18 0
    ∷ refused (both ++ rate 0 0 1 2) 4 36 0
    -- 5: a 33rd task
    ∷ refused (times 33 (task 4 0 4 1 1)) 5 576 0
    -- 7: no consumption cycle in channel 1
    ∷ refused (both ++ (channel 0 1 0 8 ++ (channel 0 1 9 8 ++ (rates 2 3 ++ rate 1 0 1 2)))) 7 3 0
    -- 8 and 9
    ∷ refused (task 4 0 4 1 1 ++ task 6 8 6 2 1) 8 1 0
    ∷ record { file = A; room = 1; numbers = three 9 2 0; figures = [] }
    -- 10: φ below zero, and each equation by itself; a relation need not be reduced
    ∷ accepted (both ++ related 1 0 3 (minus 0xfc) 2) 2 (1 ∷ 3 ∷ [])
    ∷ refused (both ++ related 1 0 3 (minus 0xfd) 2) 10 0 0
    ∷ refused (both ++ (relation 4 ++ related 0 1 2 (0 ∷ 0 ∷ 0 ∷ 4 ∷ []) 4)) 10 1 0
    ∷ accepted (both ++ related 0 1 4 (0 ∷ 0 ∷ 0 ∷ 8 ∷ []) 6) 2 (1 ∷ 3 ∷ [])
    -- 11: worst times unlike priorities, deadlines unlike periods; the second R waits for two others, the first just meets its deadline
    ∷ accepted (task 7 3 6 2 9 ++ (task 20 1 15 3 200 ++ task 50 0 40 4 5)) 3 (6 ∷ 11 ∷ 4 ∷ [])
    ∷ refused (task 7 3 5 2 9 ++ (task 20 1 15 3 200 ++ task 50 0 40 4 5)) 11 0 0
    -- 13: the second channel
    ∷ refused (both ++ (channel 0 1 0 8 ++ (channel 0 1 9 8 ++ (rates 2 3 ++ (rate 1 0 1 2 ++ rate 1 1 1 3))))) 13 1 0
    -- 15: 131,074 ticks over 2 are 65,537
    ∷ refused
    ((0x01 ∷ 0 ∷ 2 ∷ 0 ∷ 2 ∷ 0 ∷ 0 ∷ 0 ∷ 0 ∷ 0 ∷ 2 ∷ 0 ∷ 2 ∷ 0 ∷ 0 ∷ 0 ∷ 1 ∷ 2 ∷ []) ++ (task 2 0 2 1 1 ++ (channel 0 1 0 0 ++ rates 0 0)))
    15 0 0
    -- 16: the producer's window ends at its deadline and not at the next release; job 1 of channel 1, though that channel overflows too
    ∷ accepted (task 4 0 3 1 1 ++ (task 6 7 6 2 2 ++ (channel 0 1 0 8 ++ rates 2 3))) 2 (1 ∷ 3 ∷ [])
    ∷ refused two_channels 16 1 1
    -- 10: φ × T_p over n has a remainder, 6 over 4 and −6 over 4
    ∷ refused (task 6 0 6 1 1 ++ (task 3 1 3 1 2 ++ related 0 1 4 (0 ∷ 0 ∷ 0 ∷ 1 ∷ []) 2)) 10 0 0
    ∷ refused (task 6 1 6 1 1 ++ (task 3 0 3 1 2 ++ related 0 1 4 (minus 0xff) 2)) 10 0 0
    ∷ []

-- the one table
unfoldable pub samples : List Sample
samples = starred ++ further

-- the sample's answer is the one that the rules give
pub record Right (s : Sample) : Type 0 where
  pub reply : Reply
  pub numbers : numbered reply ≡ s.numbers
  pub answers : FileAnswers s.file s.room reply s.figures
