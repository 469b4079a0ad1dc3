-- A quicker way to find the first short job, no part of the rules: the taker's jobs between two ends of the giver are tested together. `says_fast` (proofs/Fast) says that it finds what is true of all jobs. Assumes nothing.
use Rattle.std.specs.Prelude.{Bool, Option, Some, None, cond, ◌&&◌, ℕ, zero, suc, ◌+◌, ◌*◌, ◌-◌, ◌/◌, ◌%◌, min, max, leb, ltb, length}
use Rattle.numbers.specs.Numbers.{ceil, least}
use Rattle.numbers.specs.Lists.{First}
use Rattle.channel.specs.Side.{Side, release, end, total, turn, span, ended, Short, first, jobs}
use Rattle.channel.specs.Cases.{step}

-- the number of jobs of a side that are released before tick x
abbrev pub released : Side → ℕ → ℕ
released s x = ceil (x - s.offset) s.period

-- Job k's stretch: the taker's jobs from k up to, not including, this one, all of which are released before the next end of the giver's.
abbrev pub beyond : Side → Side → ℕ → ℕ
beyond taker giver k = released taker (end giver (ended giver (release taker k)))

-- What the jobs of k's stretch can count on: the stock, and what the giver's ended jobs have moved.
abbrev pub supply : Side → Side → ℕ → ℕ → ℕ
supply taker giver stock k = stock + total giver (ended giver (release taker k))

-- What is said of all jobs without end: the first that is short, or that none is.
abbrev pub Says : Side → Side → ℕ → Option ℕ → Type 0
Says taker giver stock (Some k) = First (Short taker giver stock) k
Says taker giver stock None = (k : ℕ) → ¬ Short taker giver stock k

-- The search: stretch by stretch from job k on, until it comes to job n, in so many steps. Of a stretch whose last job is short the first short one is looked for.
unfoldable pub hunt : Side → Side → ℕ → ℕ → ℕ → ℕ → Option ℕ
hunt taker giver stock n zero k = None
hunt taker giver stock n (suc steps) k =
    let next : ℕ = beyond taker giver k in
    cond (leb n k) None
    (cond (ltb (supply taker giver stock k) (total taker next))
    (Some (k + least (λ i. ltb (supply taker giver stock k) (total taker (suc (k + i)))) (next - k)))
    (hunt taker giver stock n steps next))

-- the test of a case, by the tick in which the taker's job is released and what the taker's jobs up to it move
unfoldable pub short_at : ℕ → Side → ℕ → ℕ → ℕ → ℕ → Bool
short_at h giver stock tick wants b =
    let m : ℕ = length giver.prefix + b in
    let before : ℕ = suc ((end giver m + (h - 1 - tick % h)) % h) in
    leb before giver.period
    && ltb ((stock + total giver m) * span giver + turn giver * (tick + before)) (wants * span giver + turn giver * end giver m)

-- `ShortCase` as a test
abbrev pub short_case : ℕ → Side → Side → ℕ → ℕ → ℕ → Bool
short_case h taker giver stock a b =
    short_at h giver stock (release taker (length taker.prefix + a)) (total taker (suc (length taker.prefix + a))) b

-- some number below n passes the test
abbrev pub some_below : (ℕ → Bool) → ℕ → Bool
some_below p n = ltb (least p n) n

-- one of the cases is short
unfoldable pub some_case : ℕ → Side → Side → ℕ → Bool
some_case h taker giver stock =
    some_below (λ a. some_below (short_case h taker giver stock a) (length giver.cycle)) (length taker.cycle)

-- so many stretches go past the jobs before `first`
abbrev pub early_steps : Side → Side → ℕ
early_steps taker giver = max (length taker.prefix) (length giver.prefix + 2)

-- and so many more past those that decide all: no more than the slower side has jobs in L, and one
abbrev pub late_steps : ℕ → Side → Side → ℕ
late_steps L taker giver = early_steps taker giver + min (L / taker.period) (L / giver.period + 1)

-- The first short job of all jobs without end. If no case is short, only a job before `first` can be, and these are searched; otherwise all that decide are.
unfoldable pub decide_fast : ℕ → Side → Side → ℕ → Option ℕ
decide_fast L taker giver stock =
    cond (some_case (step L taker giver) taker giver stock)
    (hunt taker giver stock (jobs L taker giver) (late_steps L taker giver) 0)
    (hunt taker giver stock (first taker giver) (early_steps taker giver) 0)
