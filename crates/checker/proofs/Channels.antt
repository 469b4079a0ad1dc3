-- The tests of the channels, channel by channel. Assumes nothing.
use mathlib.Core.Path.{◌≡◌, sym, ap, ap₂, subst, ◌∙◌}
use mathlib.Core.List.{List}
use Prim.Native.Nat.{ℕ, ◌<◌}
use native.Mathlib.Omega.{arith}
use lib.ListN.{length, get_or, length-map, get_or-map}
use Rattle.std.specs.Prelude.{Result, Some, None, Ok, Err}
use Rattle.numbers.specs.Lists.{All}
use Rattle.reply.specs.declared.Refusal.{Refusal}
use Rattle.graph.specs.declared.Task.{Task}
use Rattle.graph.specs.Model.{Graph, bare, task, link, task_of}
use Rattle.graph.specs.Memory.{MemoryLink, view_link}
use Rattle.channel.specs.Judge.{Means}
use Rattle.rules.specs.Terms.{window_of, joined, channel}
use Rattle.rules.specs.Stages.{Earliest, At, Upto}
use Rattle.rules.proofs.Find.{known, next_finds, place_finds, places_find}
use Rattle.rules.proofs.Tests.{channel_finds}
use Rattle.formed.specs.Formed.{ChannelFormed}
use Rattle.formed.proofs.Parts.{no_link}
use Rattle.channels.specs.Sides.{side}
use Rattle.checker.specs.Outcome.{refusal, Behind}
use Rattle.checker.specs.Channels.{between, Tells, Made}

-- ---- a channel of the graph

module _ (ts : List Task) (cs : List MemoryLink) (formed : All (ChannelFormed (length ts)) cs) where
  -- channel c in memory
  abbrev pub stored : ℕ → MemoryLink
  stored c = get_or cs c no_link

  module _ (room : ℕ) (g : Graph) (M : Made ts cs g) where
    link_is : (c : ℕ) → link g c ≡ view_link (stored c)
    unfolding link
    link_is c = ap (λ (x : List _). get_or x c (bare 0 0 0 0)) M.channels ∙ get_or-map view_link cs c no_link

    task_is : (i : ℕ) → task g i ≡ task_of ts i
    unfolding task
    task_is i = ap (λ l. task_of l i) M.tasks

    -- as the rules see it
    channel_is : (c : ℕ) → channel g c ≡ between ts (stored c)
    channel_is c =
        let k = stored c in
        ap (joined g) (link_is c)
        ∙ ap₂
        (λ (p q : Task). record {
          producer = side p (window_of p) (view_link k).production;
          consumer = side q (window_of q) (view_link k).consumption;
          initial = k.initial;
          size = k.size;
        })
        (task_is k.producer)
        (task_is k.consumer)

    many : length g.channels ≡ length cs
    many = ap length M.channels ∙ length-map cs view_link

    at : (c : ℕ) → c < length cs → (r : Result (Unit {0}) Refusal) → Tells ts c (stored c) r → Earliest g room (At 13 c) (refusal r)
    at c l r t =
        subst (Earliest g room (At 13 c)) (sym t.told)
        (channel_finds g room M.usable c (omega (arith, many)) t.verdict (subst (λ x. Means x t.verdict) (sym (channel_is c)) t.means))

    spoilt_here : (c : ℕ) (r : Refusal) → c < length cs → ((k : ℕ) → k < c → Tells ts k (stored k) (Ok (tt {0}))) → Tells ts c (stored c) (Err r)
        → Earliest g room (Upto 13) None → Earliest g room (Upto 14) (Some r)
    spoilt_here c r l before t z =
        next_finds g room 13 None (Some r) z (place_finds g room 13 c r (λ k h. at k (omega arith) (Ok (tt {0})) (before k h)) (at c l (Err r) t))

    all_pass : ((k : ℕ) → k < length cs → Tells ts k (stored k) (Ok (tt {0}))) → Earliest g room (Upto 13) None → Earliest g room (Upto 14) None
    all_pass every z =
        next_finds g room 13 None None z
        (places_find g room 13 (length cs) (λ s e h. omega (arith, many, (known g room s h).2 (omega arith))) (λ k h. at k h (Ok (tt {0})) (every k h)))

  module _ (room : ℕ) where
    pub spoilt : (c : ℕ) (r : Refusal) → c < length cs → ((k : ℕ) → k < c → Tells ts k (stored k) (Ok (tt {0}))) → Tells ts c (stored c) (Err r)
        → Behind {A = Unit {0}} 13 14 room (Made ts cs) (Err r)
    spoilt c r l before t = record { so = λ g M. spoilt_here room g M c r l before t }

    pub fine : ((k : ℕ) → k < length cs → Tells ts k (stored k) (Ok (tt {0}))) → Behind {A = Unit {0}} 13 14 room (Made ts cs) (Ok (tt {0}))
    fine every = record { so = λ g M. all_pass room g M every }
