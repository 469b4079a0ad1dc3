-- The verdicts on a channel: what each means, and how it is computed. Assumes nothing.
use Rattle.std.specs.Prelude.{Bool, cond, Result, Ok, Err, ℕ, suc, ◌+◌, ◌*◌, ◌-◌, ◌/◌, ◌%◌, min, ◌≤◌, ◌<◌, ltb, eqb, length}
use Rattle.std.specs.Int.{◌∣◌}
use Rattle.numbers.specs.Numbers.{least}
use Rattle.numbers.specs.Lists.{First}
use Rattle.channel.specs.declared.Fault.{Fault}
use Rattle.channel.specs.declared.Fault.TheVariants.{InitialAboveSize, Unbalanced, WindowTooLong, Underflow, Overflow}
use Rattle.channel.specs.Side.{Side, release, total, turn, span, ended, jobs}
use Rattle.channel.specs.Channel.{Channel, Balanced, Underflows, Overflows}

-- L is the least common multiple of a and b.
pub record IsLcm (a b L : ℕ) : Type 0 where
  pub positive : 0 < L
  pub left : a ∣ L
  pub right : b ∣ L
  pub at_most : (m : ℕ) → 0 < m → a ∣ m → b ∣ m → L ≤ m

-- the least common multiple computed: the first multiple of a that b divides
unfoldable pub lcm : ℕ → ℕ → ℕ
lcm a b = suc (least (λ i. eqb (suc i * a % b) 0) (b - 1)) * a

-- L, the window's length: the least common multiple of (T_producer × production cycle length) and (T_consumer × consumption cycle length)
abbrev pub length_of : Channel → ℕ
length_of ch = lcm (span ch.producer) (span ch.consumer)

-- the limit of L divided by the smaller of the two periods
abbrev pub longest : ℕ
longest = 65536

-- L divided by the smaller of the two periods is above 65,536
abbrev pub TooLong : Channel → Type 0
TooLong ch = longest < length_of ch / min ch.producer.period ch.consumer.period

-- a channel is fine, or has a fault
abbrev pub Verdict : Type 0
Verdict = Result Unit Fault

-- What each verdict says, over every job without end: its own test fires, if it has one, and those of 13 to 17 before it do not.
abbrev pub Means : Channel → Verdict → Type 0
Means ch (Ok tt) =
    (ch.initial ≤ ch.size)
    × Balanced ch.producer ch.consumer
    × ¬ TooLong ch
    × ((k : ℕ) → ¬ Underflows ch k)
    × ((j : ℕ) → ¬ Overflows ch j)
Means ch (Err InitialAboveSize) = ch.size < ch.initial
Means ch (Err Unbalanced) = (ch.initial ≤ ch.size) × ¬ Balanced ch.producer ch.consumer
Means ch (Err WindowTooLong) = (ch.initial ≤ ch.size) × Balanced ch.producer ch.consumer × TooLong ch
Means ch (Err (Underflow k)) =
    (ch.initial ≤ ch.size) × Balanced ch.producer ch.consumer × ¬ TooLong ch × First (Underflows ch) k
Means ch (Err (Overflow j)) =
    (ch.initial ≤ ch.size)
    × Balanced ch.producer ch.consumer
    × ¬ TooLong ch
    × ((k : ℕ) → ¬ Underflows ch k)
    × First (Overflows ch) j

-- `Short` as a test
abbrev pub short : Side → Side → ℕ → ℕ → Bool
short taker giver stock k = ltb (stock + total giver (ended giver (release taker k))) (total taker (suc k))

-- the first short job of those that decide, or their number if none is short
abbrev pub first_short : ℕ → Side → Side → ℕ → ℕ
first_short L taker giver stock = least (short taker giver stock) (jobs L taker giver)

-- the verdict computed, test by test
unfoldable pub judge : Channel → Verdict
judge ch =
    let p : Side = ch.producer in
    let c : Side = ch.consumer in
    let L : ℕ = length_of ch in
    let k : ℕ = first_short L c p ch.initial in
    let j : ℕ = first_short L p c (ch.size - ch.initial) in
    cond (ltb ch.size ch.initial) (Err InitialAboveSize)
    (cond (eqb (turn p * length c.cycle * c.period) (turn c * length p.cycle * p.period))
    (cond (ltb longest (L / min p.period c.period)) (Err WindowTooLong)
    (cond (ltb k (jobs L c p)) (Err (Underflow k))
    (cond (ltb j (jobs L p c)) (Err (Overflow j)) (Ok tt))))
    (Err Unbalanced))
