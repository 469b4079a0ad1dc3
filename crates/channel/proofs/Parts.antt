-- Where no job is short, a machine that moves tokens in parts keeps a channel's fill between 0 and its size. Assumes nothing.
use Prim.Native.Nat.{ℕ, zero, suc, ◌+◌, ◌-◌, ◌≤◌, ◌<◌}
use native.Mathlib.Omega.{arith}
use Rattle.numbers.specs.Numbers.{sum}
use Rattle.channel.specs.Side.{Side, Sound, release, rate, total, ended, Short}
use Rattle.channel.specs.Channel.{Channel, Overflows, Passes, Part}
use Rattle.numbers.proofs.Sums.{cases, sum_zero, sum_suc, sum_mono, sum_above}
use Rattle.channel.proofs.Jobs.{ended_iff, ended_mono}
use Rattle.channel.proofs.Totals.{total_mono}

-- what ended jobs move is there, and is counted by any n past the released jobs
given_at_least :
    (g : Side) → Sound g → (tick : ℕ) (given : ℕ → ℕ) → Part g tick given → (n : ℕ) → tick < release g n
    → total g (ended g tick) ≤ sum given n
given_at_least g ok tick given part n h =
    sum_above given (rate g) (ended g tick) n
    (cases (ended g tick) n (λ l. l) (λ l. omega (arith, (ended_iff g ok n tick).0 l)))
    (λ j l. omega (arith, part.all j ((ended_iff g ok j tick).0 l)))

-- said once for either side
module _ (t g : Side) (ok : Sound g) (stock : ℕ) (fine : (k : ℕ) → ¬ Short t g stock k) (tick : ℕ) (taken given : ℕ → ℕ)
    (pt : Part t tick taken) (pg : Part g tick given) (n : ℕ) (h : tick < release g n) where
  pub stays : (m : ℕ) → sum taken m ≤ stock + sum given n
  stays zero = omega (arith, sum_zero taken)
  stays (suc k) =
      cases (release t k) tick
      (λ r.
      omega (
        arith,
        fine k,
        sum_mono taken (rate t) (suc k) (λ j _. pt.at_most j),
        total_mono g (ended g (release t k)) (ended g tick) (ended_mono g ok (release t k) tick r),
        given_at_least g ok tick given pg n h,
      ))
      (λ r. omega (arith, sum_suc taken k, pt.none k r, stays k))

-- overflow is the producer's shortage of room
pub short_over : (ch : Channel) (j : ℕ) → Short ch.producer ch.consumer (ch.size - ch.initial) j → Overflows ch j
short_over ch j h = omega arith

pub over_short : (ch : Channel) → ch.initial ≤ ch.size → (j : ℕ) → Overflows ch j → Short ch.producer ch.consumer (ch.size - ch.initial) j
over_short ch l j h = omega arith

pub parts_stay :
    (ch : Channel) → Sound ch.producer → Sound ch.consumer → Passes ch
    → (tick : ℕ) (put taken : ℕ → ℕ) → Part ch.producer tick put → Part ch.consumer tick taken
    → (n m : ℕ) → tick < release ch.producer n → tick < release ch.consumer m
    → (sum taken m ≤ ch.initial + sum put n) × (ch.initial + sum put n ≤ ch.size + sum taken m)
parts_stay ch okp okc ok tick put taken pp pc n m hn hm = (
  stays ch.consumer ch.producer okp ch.initial ok.no_underflow tick taken put pc pp n hn m,
  omega (
    arith,
    stays ch.producer ch.consumer okc (ch.size - ch.initial) (λ j s. ok.no_overflow j (short_over ch j s)) tick put taken pp pc m hm n,
    ok.fits,
  ),
)
