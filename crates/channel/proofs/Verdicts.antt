-- What a verdict says of the choices of ticks. Assumes nothing.
use mathlib.Core.Path.{◌≡◌, refl, sym, subst, ◌∙◌}
use mathlib.Core.Logic.{◌↔◌, ◌⊎◌, inl, inr}
use Prim.Native.Nat.{◌≤◌}
use Rattle.std.specs.Prelude.{Ok, Err}
use Rattle.channel.specs.declared.Fault.TheVariants.{InitialAboveSize, Unbalanced, WindowTooLong, Underflow, Overflow}
use Rattle.channel.specs.Side.{Sound}
use Rattle.channel.specs.Channel.{Channel, Balanced, Choice, Breaks}
use Rattle.channel.specs.Judge.{TooLong, Verdict, Means}
use Rattle.channel.proofs.Exact.{exact, passes_balanced, hungry, full, too_full, underflow_breaks, overflow_breaks, unbalanced}
use Rattle.channel.proofs.Judged.{means_judge}

module _ (ch : Channel) (okp : Sound ch.producer) (okc : Sound ch.consumer) where
  -- one verdict is true of a channel
  pub means_one : (v w : Verdict) → Means ch v → Means ch w → v ≡ w
  means_one v w a b = sym (means_judge ch okp okc v a) ∙ means_judge ch okp okc w b

  -- where the window is not too long, the verdict is `Ok` exactly where no choice breaks the channel
  pub fine_exact : (v : Verdict) → Means ch v → ¬ TooLong ch → (v ≡ Ok tt) ↔ ((c : Choice ch) → ¬ Breaks ch c)
  fine_exact v m short = (
    λ e. let f = subst (Means ch) e m in
        (exact ch okp okc).0 (record { fits = f.0; no_underflow = f.3; no_overflow = f.4 }),
    λ none. let p = (exact ch okp okc).1 none in
        means_one v (Ok tt) m (p.fits, passes_balanced ch okp okc p, short, p.no_underflow, p.no_overflow),
  )

  -- a balanced channel whose window is too long gives 15
  pub long_refused :
      (v : Verdict) → Means ch v → ch.initial ≤ ch.size → Balanced ch.producer ch.consumer → TooLong ch → v ≡ Err WindowTooLong
  long_refused v m fits bal long = means_one v (Err WindowTooLong) m (fits, bal, long)

  -- any verdict but these two has a choice that breaks the channel
  pub refused_broken : (v : Verdict) → Means ch v → (v ≡ Ok tt) ⊎ ((v ≡ Err WindowTooLong) ⊎ ((c : Choice ch) × Breaks ch c))
  refused_broken (Ok tt) m = inl refl
  refused_broken (Err InitialAboveSize) m = inr (inr (full ch okp okc, too_full ch okp okc m))
  refused_broken (Err Unbalanced) m = inr (inr (unbalanced ch okp okc m.1))
  refused_broken (Err WindowTooLong) m = inr (inl refl)
  refused_broken (Err (Underflow k)) m = inr (inr (hungry ch okp okc, underflow_breaks ch okp okc k m.3.0))
  refused_broken (Err (Overflow j)) m = inr (inr (full ch okp okc, overflow_breaks ch okp okc j m.4.0))
