-- Demand 2 on channels: the tests pass exactly where no choice of moments breaks the channel. Assumes nothing.
use mathlib.Core.Logic.{◌↔◌}
use Prim.Native.Nat.{ℕ, ◌<◌}
use native.Mathlib.Omega.{arith}
use lib.ListN.{length}
use Rattle.numbers.proofs.Sums.{cases}
use Rattle.channel.specs.Channel.{Passes, Choice, Breaks}
use Rattle.channel.proofs.Exact.{exact, passes_balanced}
use Rattle.graph.specs.Model.{Graph, link}
use Rattle.rules.specs.Terms.{channel, Usable}
use Rattle.rules.specs.Rules.{Passing}
use Rattle.rules.proofs.Tests.{sound_producer, sound_consumer}

module _ (g : Graph) (room c : ℕ) (l : c < length g.channels) where
  -- as the channel's own definitions say it
  pub to_passes : Passing g room c → Passes (channel g c)
  to_passes p =
      record {
        fits = cases (link g c).initial (link g c).size (λ h. h) (λ h. absurd (p.initial (l, h)));
        no_underflow = λ k u. p.no_underflow k (l, u);
        no_overflow = λ j o. p.no_overflow j (l, o);
      }

  pub passes_exactly : Usable g → Passing g room c ↔ ((x : Choice (channel g c)) → ¬ Breaks (channel g c) x)
  passes_exactly ok =
      let p = sound_producer g room ok c l in
      let q = sound_consumer g room ok c l in
      let e = exact (channel g c) p q in (
        λ h. e.0 (to_passes h),
        λ h.
            let s = e.1 h in
            record {
              initial = λ x. omega (arith, s.fits, x.1);
              balance = λ x. x.1 (passes_balanced (channel g c) p q s);
              no_underflow = λ k x. s.no_underflow k x.1;
              no_overflow = λ j x. s.no_overflow j x.1;
            },
      )
