-- A formed graph is one whose counts and fields keep the plain inequalities, and back. Assumes nothing.
use mathlib.Core.Path.{◌≡◌}
use mathlib.Core.List.{List, [], ◌∷◌, ◌++◌, map}
use Prim.Native.Nat.{ℕ, zero, suc, ◌+◌, ◌≤◌, ◌<◌}
use native.Mathlib.Omega.{arith}
use lib.IntN.{ℤ, pos, negsuc, nat_abs}
use lib.ListN.{length, get_or}
use Rattle.numbers.specs.Lists.{All}
use Rattle.graph.specs.declared.Task.{Task}
use Rattle.graph.specs.declared.Relation.{Relation}
use Rattle.graph.specs.Model.{Rates, Link, Graph, million, max_channels, bare, no_task, task, link}
use Rattle.format.specs.Record as rec
use Rattle.format.specs.Reader.{Holds, signed, ranges, InRange, cycles}
use Rattle.format.specs.Writer.{head, rates_of, rates_from, records, Few, FewRates, Formed}
use Rattle.format.specs.Ranges.{TaskRange, Tokens, RatesRange, LinkRange, RelationRange, Ranged}
use Rattle.numbers.proofs.Lists.{all_left, all_right, all_append, all_map, all_at, all_of_map, map_of_all}

-- ---- one record

phase_in : (z : ℤ) → Holds (signed z million) → nat_abs z ≤ million
phase_in (pos n) h = h
phase_in (negsuc n) h = omega arith

pub in_phase : (z : ℤ) → nat_abs z ≤ million → Holds (signed z million)
in_phase (pos n) h = h
in_phase (negsuc n) h = omega arith

module _ (g : Graph) where
  -- the number of tasks
  abbrev n : ℕ
  n = length g.tasks

  pub task_in : (t : Task) → InRange g (rec.task t) → TaskRange t
  unfolding ranges
  task_in t h =
      record {
        some_period = omega arith;
        period = omega arith;
        offset = omega arith;
        some_deadline = omega arith;
        deadline = omega arith;
        some_worst = omega arith;
        worst = omega arith;
        some_priority = omega arith;
        priority = omega arith;
      }

  pub in_task : (t : Task) → TaskRange t → InRange g (rec.task t)
  unfolding ranges
  in_task t h = omega arith

  pub relation_in : (r : Relation) → InRange g (rec.relation r) → RelationRange n r
  unfolding ranges
  relation_in r (p, (q, (i, (f, (d, u))))) =
      record {
        p = omega arith;
        q = omega arith;
        some_n = omega arith;
        n = omega arith;
        phi = phase_in r.phi f;
        some_d = omega arith;
        d = omega arith;
      }

  in_relation : n ≤ 32 → (r : Relation) → RelationRange n r → InRange g (rec.relation r)
  unfolding ranges
  in_relation l r h = ((omega arith, omega arith), ((omega arith, omega arith), ((omega arith, omega arith), (in_phase r.phi h.phi, ((omega arith, omega arith), tt)))))

  pub head_in : (c : Link) → InRange g (head c) → (c.producer < n) × (c.consumer < n) × (c.initial ≤ million) × (c.size ≤ million)
  unfolding ranges
  head_in c h = omega arith

  in_head : n ≤ 32 → (c : Link) → LinkRange n c → InRange g (head c)
  unfolding ranges
  in_head l c h = ((omega arith, omega arith), ((omega arith, omega arith), ((omega arith, h.initial), ((omega arith, h.size), tt))))

  -- ---- rates

  rate_in : (i s p x : ℕ) → InRange g (rec.rate i s p x) → Tokens x
  unfolding ranges
  rate_in i s p x h = omega arith

  in_rate : (i s p x : ℕ) → i < length g.channels → length g.channels ≤ max_channels → s ≤ 1 → p ≤ 1 → Tokens x → InRange g (rec.rate i s p x)
  unfolding ranges
  in_rate i s p x a b c d h = omega arith

  tokens_in : (i s p : ℕ) (xs : List ℕ) → All (InRange g) (map (rec.rate i s p) xs) → All Tokens xs
  tokens_in i s p xs h =
      all_map (λ x. InRange g (rec.rate i s p x)) Tokens (rate_in i s p) xs (all_of_map (InRange g) (rec.rate i s p) xs h)

  in_tokens : (i s p : ℕ) (xs : List ℕ) → i < length g.channels → length g.channels ≤ max_channels → s ≤ 1 → p ≤ 1 → All Tokens xs → All (InRange g) (map (rec.rate i s p) xs)
  in_tokens i s p xs a b c d h =
      map_of_all (InRange g) (rec.rate i s p) xs (all_map Tokens (λ x. InRange g (rec.rate i s p x)) (λ x k. in_rate i s p x a b c d k) xs h)

  rates_in : (r : Rates) → Few r → 1 ≤ length r.cycle → All Tokens r.prefix → All Tokens r.cycle → RatesRange r
  rates_in r f e p q = record { prefix = f.prefix; some_entry = e; cycle = f.cycle; prefix_tokens = p; cycle_tokens = q }

  -- ---- channels

  links_in : (i : ℕ) (cs : List Link) → All (InRange g) (map head cs) → All (InRange g) (rates_from i cs) → All FewRates cs
      → ((k : ℕ) → ¬ (get_or (cycles cs) k 1 ≡ 0)) → All (LinkRange n) cs
  unfolding rates_from cycles
  links_in i [] hs rs fs e = tt
  links_in i (c ∷ cs) hs rs fs e =
      let (p, k, s, z) = head_in c hs.0 in
      let own = all_left (InRange g) (rates_of i c) (rates_from (suc i) cs) rs in
      let a = map (rec.rate i 0 0) c.production.prefix in
      let b = map (rec.rate i 0 1) c.production.cycle in
      let d = map (rec.rate i 1 0) c.consumption.prefix in
      let f = map (rec.rate i 1 1) c.consumption.cycle in
      let own₁ = all_right (InRange g) a (b ++ (d ++ f)) own in
      let own₂ = all_right (InRange g) b (d ++ f) own₁ in
      let put : ¬ (length c.production.cycle ≡ 0) = e 0 in
      let take : ¬ (length c.consumption.cycle ≡ 0) = e 1 in (
        record {
          producer = p;
          consumer = k;
          initial = s;
          size = z;
          production =
              rates_in c.production fs.0.production (omega arith)
              (tokens_in i 0 0 c.production.prefix (all_left (InRange g) a (b ++ (d ++ f)) own))
              (tokens_in i 0 1 c.production.cycle (all_left (InRange g) b (d ++ f) own₁));
          consumption =
              rates_in c.consumption fs.0.consumption (omega arith)
              (tokens_in i 1 0 c.consumption.prefix (all_left (InRange g) d f own₂))
              (tokens_in i 1 1 c.consumption.cycle (all_right (InRange g) d f own₂));
        },
        links_in (suc i) cs hs.1 (all_right (InRange g) (rates_of i c) (rates_from (suc i) cs) rs) fs.1 (λ k. e (suc (suc k))),
      )

  in_rates : (i : ℕ) (cs : List Link) → i + length cs ≤ length g.channels → length g.channels ≤ max_channels → All (LinkRange n) cs → All (InRange g) (rates_from i cs)
  unfolding rates_from
  in_rates i [] l m h = tt
  in_rates i (c ∷ cs) l m h =
      let a = map (rec.rate i 0 0) c.production.prefix in
      let b = map (rec.rate i 0 1) c.production.cycle in
      let d = map (rec.rate i 1 0) c.consumption.prefix in
      let f = map (rec.rate i 1 1) c.consumption.cycle in
      all_append (InRange g) (rates_of i c) (rates_from (suc i) cs)
      (all_append (InRange g) a (b ++ (d ++ f)) (in_tokens i 0 0 c.production.prefix (omega arith) m (omega arith) (omega arith) h.0.production.prefix_tokens)
      (all_append (InRange g) b (d ++ f) (in_tokens i 0 1 c.production.cycle (omega arith) m (omega arith) (omega arith) h.0.production.cycle_tokens)
      (all_append (InRange g) d f (in_tokens i 1 0 c.consumption.prefix (omega arith) m (omega arith) (omega arith) h.0.consumption.prefix_tokens)
      (in_tokens i 1 1 c.consumption.cycle (omega arith) m (omega arith) (omega arith) h.0.consumption.cycle_tokens))))
      (in_rates (suc i) cs (omega arith) m h.1)

few_in : {n : ℕ} (c : Link) → LinkRange n c → FewRates c
few_in c h =
    record {
      production = record { prefix = h.production.prefix; cycle = h.production.cycle };
      consumption = record { prefix = h.consumption.prefix; cycle = h.consumption.cycle };
    }

full : (n : ℕ) (cs : List Link) → All (LinkRange n) cs → (k : ℕ) → ¬ (get_or (cycles cs) k 1 ≡ 0)
unfolding cycles
full n [] h k e = omega arith
full n (c ∷ cs) h zero e = omega (arith, h.0.production.some_entry)
full n (c ∷ cs) h (suc zero) e = omega (arith, h.0.consumption.some_entry)
full n (c ∷ cs) h (suc (suc k)) e = full n cs h.1 k e

-- ---- the whole graph

pub formed_ranged : (g : Graph) → Formed g → Ranged g
unfolding records
formed_ranged g F =
    let P = InRange g in
    let ts = map rec.task g.tasks in
    let hs = map head g.channels in
    let rs = rates_from 0 g.channels in
    let ls = map rec.relation g.relations in
    let h₁ = all_right P ts (hs ++ (rs ++ ls)) F.in_range in
    let h₂ = all_right P hs (rs ++ ls) h₁ in
    record {
      some_task = F.whole.some_task;
      few_tasks = F.counts.tasks;
      few_channels = F.counts.channels;
      few_relations = F.counts.relations;
      tasks = all_map (λ t. P (rec.task t)) TaskRange (task_in g) g.tasks (all_of_map P rec.task g.tasks (all_left P ts (hs ++ (rs ++ ls)) F.in_range));
      channels = links_in g 0 g.channels (all_left P hs (rs ++ ls) h₁) (all_left P rs ls h₂) F.counts.rates F.whole.some_entry;
      relations =
          all_map (λ r. P (rec.relation r)) (RelationRange (length g.tasks)) (relation_in g) g.relations
          (all_of_map P rec.relation g.relations (all_right P rs ls h₂));
    }

pub ranged_formed : (g : Graph) → Ranged g → Formed g
unfolding records
ranged_formed g R =
    let P = InRange g in
    let n = length g.tasks in
    let ts = map rec.task g.tasks in
    let hs = map head g.channels in
    let rs = rates_from 0 g.channels in
    let ls = map rec.relation g.relations in
    record {
      in_range =
          all_append P ts (hs ++ (rs ++ ls)) (map_of_all P rec.task g.tasks (all_map TaskRange (λ t. P (rec.task t)) (in_task g) g.tasks R.tasks))
          (all_append P hs (rs ++ ls) (map_of_all P head g.channels (all_map (LinkRange n) (λ c. P (head c)) (in_head g R.few_tasks) g.channels R.channels))
          (all_append P rs ls (in_rates g 0 g.channels (omega arith) R.few_channels R.channels)
          (map_of_all P rec.relation g.relations
          (all_map (RelationRange n) (λ r. P (rec.relation r)) (in_relation g R.few_tasks) g.relations R.relations))));
      counts = record {
        tasks = R.few_tasks;
        channels = R.few_channels;
        relations = R.few_relations;
        rates = all_map (LinkRange n) FewRates few_in g.channels R.channels;
      };
      whole = record { some_task = R.some_task; some_entry = full n g.channels R.channels };
    }

-- ---- each entry by its number

module _ (g : Graph) (F : Formed g) where
  pub task_ranged : (i : ℕ) → i < length g.tasks → TaskRange (task g i)
  unfolding task
  task_ranged = all_at TaskRange g.tasks no_task (formed_ranged g F).tasks

  pub link_ranged : (c : ℕ) → c < length g.channels → LinkRange (length g.tasks) (link g c)
  unfolding link
  link_ranged = all_at (LinkRange (length g.tasks)) g.channels (bare 0 0 0 0) (formed_ranged g F).channels
