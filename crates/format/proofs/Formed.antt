-- The graphs that some file reads as are the formed ones, and there is a test. Assumes nothing.
use mathlib.Core.Path.{◌≡◌, refl, ap, sym, subst, ◌∙◌}
use mathlib.Core.Logic.{◌↔◌}
use mathlib.Core.Bool.{Bool, true, false, cond, ◌&&◌, false≢true}
use mathlib.Core.List.{List, [], ◌∷◌, ◌++◌}
use Prim.Native.Nat.{ℕ, zero, suc, ◌≤◌, ◌<◌}
use native.Mathlib.Omega.{arith}
use borrow.Author.Tests.{ltb-true, leb-true, lt-ltb, le-leb}
use lib.Dec.{eqb, ltb, leb}
use lib.ListN.{length, get_or, length-append}
use Rattle.std.specs.Prelude.{Option, Some, None, is_none}
use Rattle.std.proofs.lemmas.Bool.{and_parts}
use Rattle.numbers.specs.Lists.{All, all}
use Rattle.graph.specs.Model.{Rates, Link, Graph, max_tasks, max_channels, max_relations, max_prefix, max_cycle, bare}
use Rattle.format.specs.Growth.{part_of, list_of, push_part, with_rates, push, change}
use Rattle.format.specs.Record.{Record, task, channel, rate, relation}
use Rattle.format.specs.Reader.{add, holds, ranges, InRange, count, limit, State, start, step, Good, AllGood, steps, cycles, Reads, first_zero}
use Rattle.format.specs.Writer.{rates_from, records, bytes, Few, FewRates, Counts, Formed, few, formed}
use Rattle.numbers.proofs.Lists.{all_append, all_map, all_yes, yes_all}
use Rattle.format.proofs.Front.{in_yes, yes_in}
use Rattle.format.proofs.Reading.{Zeros, first_zero_is, is_first_zero}
use Rattle.format.proofs.Canon.{Below, last}
use Rattle.format.proofs.Build.{formed_reads}

-- ---- one record more: what was in range and within its count stays so

length_change : {A : Type 0} (f : A → A) (i : ℕ) (xs : List A) → length (change f i xs) ≡ length xs
unfolding change
length_change f i [] = refl
length_change f zero (x ∷ xs) = refl
length_change f (suc i) (x ∷ xs) = ap suc (length_change f i xs)

more_tasks : (g : Graph) (r : Record) → length g.tasks ≤ length (add g r).tasks
unfolding add
more_tasks g (task t) = omega (arith, length-append g.tasks (t ∷ []))
more_tasks g (channel p c i s) = omega arith
more_tasks g (rate c s p x) = omega arith
more_tasks g (relation r) = omega arith

more_channels : (g : Graph) (r : Record) → length g.channels ≤ length (add g r).channels
unfolding add
more_channels g (task t) = omega arith
more_channels g (channel p c i s) = omega (arith, length-append g.channels (bare p c i s ∷ []))
more_channels g (rate c s p x) = omega (arith, length_change (push s p x) c g.channels)
more_channels g (relation r) = omega arith

range_mono : (g h : Graph) → length g.tasks ≤ length h.tasks → length g.channels ≤ length h.channels
    → (q : Record) → InRange g q → InRange h q
unfolding ranges
range_mono g h a b (task t) i = i
range_mono g h a b (channel p c n m) i = omega arith
range_mono g h a b (rate c s p x) i = omega arith
range_mono g h a b (relation r) i = ((omega arith, i.0.1), ((omega arith, i.1.0.1), i.1.1))

abbrev most : ℕ → ℕ
most p = cond (eqb p 0) max_prefix max_cycle

few_part : (R : Rates) (p x : ℕ) → Few R → length (part_of R p) < most p → Few (push_part R p x)
few_part R p x f room = go (eqb p 0) room
  where
    go : (b : Bool) → length (cond b R.prefix R.cycle) < cond b max_prefix max_cycle
        → Few (cond b (record { prefix = R.prefix ++ (x ∷ []); cycle = R.cycle }) (record { prefix = R.prefix; cycle = R.cycle ++ (x ∷ []) }))
    go true room = record { prefix = omega (arith, length-append R.prefix (x ∷ [])); cycle = f.cycle }
    go false room = record { prefix = f.prefix; cycle = omega (arith, length-append R.cycle (x ∷ [])) }

few_push : (c : Link) (s p x : ℕ) → FewRates c → length (list_of c s p) < most p → FewRates (push s p x c)
few_push c s p x f room = go (eqb s 0) room
  where
    go : (b : Bool) → length (part_of (cond b c.production c.consumption) p) < most p
        → FewRates (cond b (with_rates c (push_part c.production p x) c.consumption) (with_rates c c.production (push_part c.consumption p x)))
    go true room = record { production = few_part c.production p x f.production room; consumption = f.consumption }
    go false room = record { production = f.production; consumption = few_part c.consumption p x f.consumption room }

few_change : (s p x : ℕ) (cs : List Link) (i : ℕ) → All FewRates cs → length (list_of (get_or cs i (bare 0 0 0 0)) s p) < most p
    → All FewRates (change (push s p x) i cs)
unfolding change
few_change s p x [] i f room = tt
few_change s p x (c ∷ cs) zero f room = (few_push c s p x f.0 room, f.1)
few_change s p x (c ∷ cs) (suc i) f room = (f.0, few_change s p x cs i f.1 room)

few_bare : (p c n m : ℕ) → FewRates (bare p c n m)
few_bare p c n m =
    let f : Few (record { prefix = []; cycle = [] }) = record { prefix = omega arith; cycle = omega arith } in
    record { production = f; consumption = f }

counts_stay : (g : Graph) (r : Record) → Counts g → count g r < limit r → Counts (add g r)
unfolding count limit add
counts_stay g (task t) n room =
    record { tasks = omega (arith, length-append g.tasks (t ∷ [])); channels = n.channels; relations = n.relations; rates = n.rates }
counts_stay g (channel p c i s) n room =
    record {
      tasks = n.tasks;
      channels = omega (arith, length-append g.channels (bare p c i s ∷ []));
      relations = n.relations;
      rates = all_append FewRates g.channels (bare p c i s ∷ []) n.rates (few_bare p c i s, tt);
    }
counts_stay g (rate c s p x) n room =
    record {
      tasks = n.tasks;
      channels = omega (arith, length_change (push s p x) c g.channels, n.channels);
      relations = n.relations;
      rates = few_change s p x g.channels c n.rates room;
    }
counts_stay g (relation r) n room =
    record { tasks = n.tasks; channels = n.channels; relations = omega (arith, length-append g.relations (r ∷ [])); rates = n.rates }

-- what holds of the graph so far, but for what the end tests
pub record Sound (s : State) : Type 0 where
  pub below : Below s.floor (records s.graph)
  pub in_range : All (InRange s.graph) (records s.graph)
  pub counts : Counts s.graph

pub sound_start : Sound start
unfolding records rates_from
sound_start = record { below = tt; in_range = tt; counts = record { tasks = omega arith; channels = omega arith; relations = omega arith; rates = tt } }

pub sound_step : (s : State) (r : Record) → Good s r → Sound s → Sound (step s r)
sound_step s r g S =
    let h : Graph = add s.graph r in
    let (e, b) = last s r g S.below in
    let stays : (q : Record) → InRange s.graph q → InRange h q = range_mono s.graph h (more_tasks s.graph r) (more_channels s.graph r) in
    record {
      below = b;
      in_range =
          rw e (all_append (InRange h) (records s.graph) (r ∷ [])
          (all_map (InRange s.graph) (InRange h) stays (records s.graph) S.in_range) (stays r g.in_range, tt));
      counts = counts_stay s.graph r S.counts g.room;
    }

sound_steps : (rs : List Record) (s : State) → AllGood s rs → Sound s → Sound (steps s rs)
sound_steps [] s g S = S
sound_steps (r ∷ rs) s g S = sound_steps rs (step s r) g.1 (sound_step s r g.0 S)

pub reads_formed : (file : List ℕ) (g : Graph) → Reads file g → Formed g
reads_formed file g m =
    let S = sound_steps m.records start m.run.good sound_start in
    subst Formed m.ends.2 (record { in_range = S.in_range; counts = S.counts; whole = m.ends.1 })

-- ---- the test

none_yes : (xs : List ℕ) (o : Option ℕ) → Zeros xs o → is_none o ≡ true → Zeros xs None
none_yes xs None z e = z
none_yes xs (Some i) z e = absurd (false≢true e)

few_yes : (r : Rates) → few r ≡ true → Few r
few_yes r e =
    let (a, b) = and_parts (leb (length r.prefix) max_prefix) (leb (length r.cycle) max_cycle) e in
    record { prefix = leb-true (length r.prefix) max_prefix a; cycle = leb-true (length r.cycle) max_cycle b }

yes_few : (r : Rates) → Few r → few r ≡ true
yes_few r f = rw (le-leb (length r.prefix) max_prefix f.prefix, le-leb (length r.cycle) max_cycle f.cycle)

pub formed_yes : (g : Graph) → formed g ≡ true → Formed g
unfolding formed
formed_yes g e =
    let cs : List ℕ = cycles g.channels in
    let (a, e₁) = and_parts (all (λ r. all holds (ranges g r)) (records g)) _ e in
    let (b, e₂) = and_parts (leb (length g.tasks) max_tasks) _ e₁ in
    let (c, e₃) = and_parts (leb (length g.channels) max_channels) _ e₂ in
    let (d, e₄) = and_parts (leb (length g.relations) max_relations) _ e₃ in
    let (f, e₅) = and_parts (all (λ c. few c.production && few c.consumption) g.channels) _ e₄ in
    let (h, i) = and_parts (ltb 0 (length g.tasks)) (is_none (first_zero cs)) e₅ in
    record {
      in_range = all_yes (InRange g) (λ r. all holds (ranges g r)) (in_yes g) (records g) a;
      counts = record {
        tasks = leb-true (length g.tasks) max_tasks b;
        channels = leb-true (length g.channels) max_channels c;
        relations = leb-true (length g.relations) max_relations d;
        rates =
            all_yes FewRates (λ c. few c.production && few c.consumption)
            (λ c q. let (x, y) = and_parts (few c.production) (few c.consumption) q in record { production = few_yes c.production x; consumption = few_yes c.consumption y })
            g.channels f;
      };
      whole = record { some_task = ltb-true 0 (length g.tasks) h; some_entry = none_yes cs (first_zero cs) (first_zero_is cs) i };
    }

pub yes_formed : (g : Graph) → Formed g → formed g ≡ true
unfolding formed
yes_formed g F =
    rw (
      yes_all (InRange g) (λ r. all holds (ranges g r)) (yes_in g) (records g) F.in_range,
      le-leb (length g.tasks) max_tasks F.counts.tasks,
      le-leb (length g.channels) max_channels F.counts.channels,
      le-leb (length g.relations) max_relations F.counts.relations,
      yes_all FewRates (λ c. few c.production && few c.consumption) (λ c f. rw (yes_few c.production f.production, yes_few c.consumption f.consumption)) g.channels F.counts.rates,
      lt-ltb 0 (length g.tasks) F.whole.some_task,
      is_first_zero (cycles g.channels) None F.whole.some_entry,
    )

-- a graph that no file reads as, reply 18
pub no_file : (g : Graph) → ((file : List ℕ) → ¬ Reads file g) ↔ (formed g ≡ false)
no_file g = (λ h. to h (formed g) refl, λ e file m. false≢true (sym e ∙ yes_formed g (reads_formed file g m)))
  where
    to : ((file : List ℕ) → ¬ Reads file g) → (b : Bool) → formed g ≡ b → b ≡ false
    to h true e = absurd (h (bytes g) (formed_reads g (formed_yes g e)))
    to h false e = refl
