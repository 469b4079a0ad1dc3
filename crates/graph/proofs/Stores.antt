-- A store into memory, and the lists that it stands for then. Assumes nothing.
use mathlib.Core.Path.{◌≡◌, sym, ap, subst, ◌∙◌}
use mathlib.Core.List.{List, [], ◌∷◌, ◌++◌, map}
use Prim.Native.Nat.{ℕ, ◌+◌, ◌-◌, ◌<◌}
use native.Mathlib.Omega.{arith}
use lib.ListN.{length, get_or, set, replicate, length-append, length-map, length-set}
use lib.Seq.{set-append_left}
use Rattle.std.proofs.lemmas.List.{map-append, map-set, get_or-map}
use Rattle.graph.specs.declared.Task.{Task}
use Rattle.graph.specs.declared.Relation.{Relation}
use Rattle.graph.specs.Model.{Rates, Link, Graph, no_task, no_relation, bare}
use Rattle.graph.specs.Memory.{Memory, MemoryLink, MemoryRates, pad, laid_rates, laid_link, zero_link, laid}
use Rattle.graph.proofs.Laid.{pad_push, pad_at}

-- ---- padded lists

module _ {A : Type 0} where
  pub length_snoc : (xs : List A) (x : A) → length xs + 1 ≡ length (xs ++ (x ∷ []))
  length_snoc xs x = omega (arith, length-append xs (x ∷ []))

  -- a store within the list
  pub pad_set : (n : ℕ) (z : A) (xs : List A) (i : ℕ) (x : A) → i < length xs → set (pad n z xs) i x ≡ pad n z (set xs i x)
  unfolding pad
  pad_set n z xs i x h =
      set-append_left xs (replicate (n - length xs) z) i x h
      ∙ ap (λ m. set xs i x ++ replicate (n - m) z) (sym (length-set xs i x))

-- ---- rates

module _ (m : MemoryRates) (r : Rates) (e : m ≡ laid_rates r) (x : ℕ) where
  pub store_prefix : m.plen < 16
      → record { prefix = set m.prefix m.plen x; plen = m.plen + 1; cycle = m.cycle; clen = m.clen }
      ≡ laid_rates (record { prefix = r.prefix ++ (x ∷ []); cycle = r.cycle })
  store_prefix = subst (λ (s : MemoryRates). s.plen < 16
      → record { prefix = set s.prefix s.plen x; plen = s.plen + 1; cycle = s.cycle; clen = s.clen }
      ≡ laid_rates (record { prefix = r.prefix ++ (x ∷ []); cycle = r.cycle }))
      (sym e)
      (λ h i. record {
        prefix = pad_push 16 0 r.prefix x h i;
        plen = length_snoc r.prefix x i;
        cycle = pad 32 0 r.cycle;
        clen = length r.cycle;
      })

  pub store_cycle : m.clen < 32
      → record { prefix = m.prefix; plen = m.plen; cycle = set m.cycle m.clen x; clen = m.clen + 1 }
      ≡ laid_rates (record { prefix = r.prefix; cycle = r.cycle ++ (x ∷ []) })
  store_cycle = subst (λ (s : MemoryRates). s.clen < 32
      → record { prefix = s.prefix; plen = s.plen; cycle = set s.cycle s.clen x; clen = s.clen + 1 }
      ≡ laid_rates (record { prefix = r.prefix; cycle = r.cycle ++ (x ∷ []) }))
      (sym e)
      (λ h i. record {
        prefix = pad 16 0 r.prefix;
        plen = length r.prefix;
        cycle = pad_push 32 0 r.cycle x h i;
        clen = length_snoc r.cycle x i;
      })

-- ---- the graph

module _ (m : Memory) (g : Graph) (e : m ≡ laid g) where
  pub store_task : (t : Task) → length g.tasks < 32
      → record {
        tasks = set m.tasks m.ntasks t;
        ntasks = m.ntasks + 1;
        channels = m.channels;
        nchannels = m.nchannels;
        relations = m.relations;
        nrelations = m.nrelations;
      }
      ≡ laid (record { tasks = g.tasks ++ (t ∷ []); channels = g.channels; relations = g.relations })
  unfolding laid
  store_task t h = rw e (λ i. record {
    tasks = pad_push 32 no_task g.tasks t h i;
    ntasks = length_snoc g.tasks t i;
    channels = pad 64 zero_link (map laid_link g.channels);
    nchannels = length g.channels;
    relations = pad 64 no_relation g.relations;
    nrelations = length g.relations;
  })

  pub store_channel : (c : Link) → length g.channels < 64
      → record {
        tasks = m.tasks;
        ntasks = m.ntasks;
        channels = set m.channels m.nchannels (laid_link c);
        nchannels = m.nchannels + 1;
        relations = m.relations;
        nrelations = m.nrelations;
      }
      ≡ laid (record { tasks = g.tasks; channels = g.channels ++ (c ∷ []); relations = g.relations })
  unfolding laid
  store_channel c h =
      let cs : List MemoryLink = map laid_link g.channels in
      let n : length g.channels ≡ length cs = sym (length-map g.channels laid_link) in
      let q : set (pad 64 zero_link cs) (length g.channels) (laid_link c) ≡ pad 64 zero_link (map laid_link (g.channels ++ (c ∷ []))) =
      ap (λ k. set (pad 64 zero_link cs) k (laid_link c)) n
      ∙ pad_push 64 zero_link cs (laid_link c) (omega arith)
      ∙ ap (pad 64 zero_link) (sym (map-append laid_link g.channels (c ∷ []))) in
      rw e (λ i. record {
        tasks = pad 32 no_task g.tasks;
        ntasks = length g.tasks;
        channels = q i;
        nchannels = length_snoc g.channels c i;
        relations = pad 64 no_relation g.relations;
        nrelations = length g.relations;
      })

  pub store_relation : (r : Relation) → length g.relations < 64
      → record {
        tasks = m.tasks;
        ntasks = m.ntasks;
        channels = m.channels;
        nchannels = m.nchannels;
        relations = set m.relations m.nrelations r;
        nrelations = m.nrelations + 1;
      }
      ≡ laid (record { tasks = g.tasks; channels = g.channels; relations = g.relations ++ (r ∷ []) })
  unfolding laid
  store_relation r h = rw e (λ i. record {
    tasks = pad 32 no_task g.tasks;
    ntasks = length g.tasks;
    channels = pad 64 zero_link (map laid_link g.channels);
    nchannels = length g.channels;
    relations = pad_push 64 no_relation g.relations r h i;
    nrelations = length_snoc g.relations r i;
  })

  module _ (j : ℕ) (inside : j < length g.channels) where
    -- the channel that stands at a place, and another put there
    pub load_link : (d : MemoryLink) → get_or m.channels j d ≡ laid_link (get_or g.channels j (bare 0 0 0 0))
    unfolding laid
    load_link d =
        rw e
        (pad_at 64 zero_link (map laid_link g.channels) j d (omega (arith, length-map g.channels laid_link))
        ∙ get_or-map laid_link g.channels j (bare 0 0 0 0) d inside)

    pub store_link : (c : Link)
        → record {
          tasks = m.tasks;
          ntasks = m.ntasks;
          channels = set m.channels j (laid_link c);
          nchannels = m.nchannels;
          relations = m.relations;
          nrelations = m.nrelations;
        }
        ≡ laid (record { tasks = g.tasks; channels = set g.channels j c; relations = g.relations })
    unfolding laid
    store_link c =
        let cs : List MemoryLink = map laid_link g.channels in
        let q : set (pad 64 zero_link cs) j (laid_link c) ≡ pad 64 zero_link (map laid_link (set g.channels j c)) =
        pad_set 64 zero_link cs j (laid_link c) (omega (arith, length-map g.channels laid_link))
        ∙ ap (pad 64 zero_link) (sym (map-set laid_link g.channels j c)) in
        rw e (λ i. record {
          tasks = pad 32 no_task g.tasks;
          ntasks = length g.tasks;
          channels = q i;
          nchannels = sym (length-set g.channels j c) i;
          relations = pad 64 no_relation g.relations;
          nrelations = length g.relations;
        })
