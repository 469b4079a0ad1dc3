-- Records and their bytes. Assumes nothing.
use Rattle.std.specs.Prelude.{cond, Option, Some, None, List, [], ◌∷◌, ◌++◌, ℕ, zero, suc, ◌+◌, ◌*◌, ◌-◌, ◌/◌, ◌%◌, ◌^◌, eqb, ltb, ℤ, pos, negsuc, length, get_or, take, drop}
use Rattle.graph.specs.declared.Task.{Task}
use Rattle.graph.specs.declared.Relation.{Relation}

-- ---- numbers

-- v in w bytes, big-endian
unfoldable pub be : ℕ → ℕ → List ℕ
be zero v = []
be (suc w) v = v / 256 ^ w ∷ be w (v % 256 ^ w)

-- the number that bytes write, the highest byte first
unfoldable pub number : List ℕ → ℕ
number [] = 0
number (b ∷ bs) = b * 256 ^ length bs + number bs

-- a signed number as four bytes hold it, in two's complement
abbrev pub wrap : ℤ → ℕ
wrap (pos n) = n
wrap (negsuc n) = 4294967295 - n

-- the signed number that four bytes hold
abbrev pub unwrap : ℕ → ℤ
unwrap w = cond (ltb w 2147483648) (pos w) (negsuc (4294967295 - w))

-- numbers in bytes of these widths, one behind the other
unfoldable pub join : List ℕ → List ℕ → List ℕ
join [] vs = []
join (w ∷ ws) [] = []
join (w ∷ ws) (v ∷ vs) = be w v ++ join ws vs

-- the numbers that bytes of these widths write
unfoldable pub split : List ℕ → List ℕ → List ℕ
split [] bs = []
split (w ∷ ws) bs = number (take w bs) ∷ split ws (drop w bs)

-- the widths together
abbrev pub total : List ℕ → ℕ
total [] = 0
total (w ∷ ws) = w + total ws

-- ---- kinds

-- the four kinds
pub data Kind : Type 0 where
  a_task a_channel a_rate a_relation : Kind

-- the byte of each kind
abbrev pub code : Kind → ℕ
code a_task = 1
code a_channel = 2
code a_rate = 3
code a_relation = 4

-- the kind of a byte, if it has one
unfoldable pub kind_of : ℕ → Option Kind
kind_of k =
    cond (eqb k 1) (Some a_task)
    (cond (eqb k 2) (Some a_channel)
    (cond (eqb k 3) (Some a_rate)
    (cond (eqb k 4) (Some a_relation) None)))

-- the widths of the fields in order
abbrev pub widths : Kind → List ℕ
widths a_task = 4 ∷ 4 ∷ 4 ∷ 4 ∷ 1 ∷ []
widths a_channel = 1 ∷ 1 ∷ 4 ∷ 4 ∷ []
widths a_rate = 1 ∷ 1 ∷ 1 ∷ 2 ∷ []
widths a_relation = 1 ∷ 1 ∷ 4 ∷ 4 ∷ 4 ∷ []

-- the length of a body
abbrev pub size : Kind → ℕ
size k = total (widths k)

-- ---- records

-- a record by its fields
pub data Record : Type 0 where
  task : Task → Record
  channel : (producer consumer initial size : ℕ) → Record
  rate : (channel side part tokens : ℕ) → Record
  relation : Relation → Record

-- a record's kind
abbrev pub kind : Record → Kind
kind (task t) = a_task
kind (channel p c i s) = a_channel
kind (rate c s p x) = a_rate
kind (relation r) = a_relation

-- a record's fields in order
abbrev pub values : Record → List ℕ
values (task t) = t.period ∷ t.offset ∷ t.deadline ∷ t.worst ∷ t.priority ∷ []
values (channel p c i s) = p ∷ c ∷ i ∷ s ∷ []
values (rate c s p x) = c ∷ s ∷ p ∷ x ∷ []
values (relation r) = r.p ∷ r.q ∷ r.n ∷ wrap r.phi ∷ r.d ∷ []

-- field i of the fields in order
abbrev pub field : ℕ → List ℕ → ℕ
field i vs = get_or vs i 0

-- the record of a kind and its fields
abbrev pub record_of : Kind → List ℕ → Record
record_of a_task vs =
    task (record { period = field 0 vs; offset = field 1 vs; deadline = field 2 vs; worst = field 3 vs; priority = field 4 vs })
record_of a_channel vs = channel (field 0 vs) (field 1 vs) (field 2 vs) (field 3 vs)
record_of a_rate vs = rate (field 0 vs) (field 1 vs) (field 2 vs) (field 3 vs)
record_of a_relation vs =
    relation (record { p = field 0 vs; q = field 1 vs; n = field 2 vs; phi = unwrap (field 3 vs); d = field 4 vs })

-- a record's bytes behind its kind
abbrev pub body : Record → List ℕ
body r = join (widths (kind r)) (values r)

-- a record's bytes: the kind, then the body
abbrev pub encode : Record → List ℕ
encode r = code (kind r) ∷ body r

-- the record that a body holds
abbrev pub decode : Kind → List ℕ → Record
decode k bs = record_of k (split (widths k) bs)

-- records one behind the other
unfoldable pub encodes : List Record → List ℕ
encodes [] = []
encodes (r ∷ rs) = encode r ++ encodes rs

-- four bytes as the digits of one number, which compares them from left to right
abbrev pub digits : ℕ → ℕ → ℕ → ℕ → ℕ
digits k a b c = k * 16777216 + a * 65536 + b * 256 + c

-- what never goes down through a file: the kind and, among rates, channel, side and part
unfoldable pub rank : Record → ℕ
rank (task t) = digits 1 0 0 0
rank (channel p c i s) = digits 2 0 0 0
rank (rate c s p x) = digits 3 c s p
rank (relation r) = digits 4 0 0 0

-- the least rank that the next record may have
abbrev pub after : Record → ℕ
after r = rank r
