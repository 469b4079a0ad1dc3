-- The records of a formed graph are good, and make the graph: its file reads as the graph. Assumes nothing.
use mathlib.Core.Path.{◌≡◌, refl, ap, sym, subst, ◌∙◌}
use mathlib.Core.Bool.{cond}
use mathlib.Core.List.{List, [], ◌∷◌, ◌++◌, map, append_assoc, append-nil}
use Prim.Native.Nat.{ℕ, suc, ◌+◌, ◌≤◌}
use native.Mathlib.Nat.{le_refl}
use native.Mathlib.Omega.{arith}
use lib.Dec.{eqb}
use lib.ListN.{length, length-append, length-map}
use lib.Seq.{get_or-append_seam, append_snoc}
use Rattle.numbers.specs.Lists.{All}
use Rattle.graph.specs.declared.Relation.{Relation}
use Rattle.graph.specs.Model.{Rates, Link, Graph, empty, bare}
use Rattle.format.specs.Growth.{with_tasks, with_channels, with_relations, with_rates, list_of, push, change}
use Rattle.format.specs.Record.{Record, task, rate, relation, digits, rank, encodes}
use Rattle.format.specs.Reader.{add, ranges, InRange, count, limit, State, step, AllGood, steps, Whole, Reads}
use Rattle.format.specs.Writer.{head, rates_of, rates_from, records, bytes, FewRates, Counts, Formed}
use Rattle.numbers.proofs.Lists.{all_left, all_right, all_of_map}
use Rattle.format.proofs.Canon.{map_append}

-- ---- good records that lead from a graph to another

abbrev at : Graph → ℕ → State
at g f = record { graph = g; floor = f }

-- from any state with the graph g and a floor up to n the records are good, and they lead to h and a floor up to m
abbrev Goes : Graph → ℕ → List Record → Graph → ℕ → Type 0
Goes g n rs h m = (f : ℕ) → f ≤ n → AllGood (at g f) rs × ((steps (at g f) rs).graph ≡ h) × ((steps (at g f) rs).floor ≤ m)

good_append : (qs rs : List Record) (s : State) → AllGood s qs → AllGood (steps s qs) rs → AllGood s (qs ++ rs)
good_append [] rs s g h = h
good_append (q ∷ qs) rs s g h = (g.0, good_append qs rs (step s q) g.1 h)

steps_append : (qs rs : List Record) (s : State) → steps s (qs ++ rs) ≡ steps (steps s qs) rs
steps_append [] rs s = refl
steps_append (q ∷ qs) rs s = steps_append qs rs (step s q)

goes_on : (g : Graph) (n : ℕ) (qs : List Record) (h : Graph) (m : ℕ) (rs : List Record) (k : Graph) (l : ℕ)
    → Goes g n qs h m → Goes h m rs k l → Goes g n (qs ++ rs) k l
goes_on g n qs h m rs k l G H f hf =
    let (ga, ea, fa) = G f hf in
    let s : State = steps (at g f) qs in
    let (gb, eb, fb) = subst (λ x. Goes x m rs k l) (sym ea) H s.floor fa in
    (good_append qs rs (at g f) ga gb, rw (steps_append qs rs (at g f)) eb, rw (steps_append qs rs (at g f)) fb)

-- Records of one sort and rank, one behind the other: G done is the graph that has those of `done`.
module _ {A : Type 0} (f : A → Record) (G : List A → Graph) (n K L : ℕ) (low : n ≤ K)
    (rank_is : (x : A) → rank (f x) ≡ K) (limit_is : (x : A) → limit (f x) ≡ L)
    (count_is : (done : List A) (x : A) → count (G done) (f x) ≡ length done)
    (add_is : (done : List A) (x : A) → add (G done) (f x) ≡ G (done ++ (x ∷ [])))
    (P : A → Type 0) (range_is : (done : List A) (x : A) → P x → InRange (G done) (f x)) where
  sort_from : (xs done : List A) (m : ℕ) → m ≤ K → All P xs → length done + length xs ≤ L → Goes (G done) m (map f xs) (G (done ++ xs)) K
  sort_from [] done m hm p l = λ z hz. (tt, ap G (sym (append-nil done)), omega arith)
  sort_from (x ∷ xs) done m hm p l =
      subst (λ d. Goes (G done) m (f x ∷ map f xs) (G d) K) (append_assoc done (x ∷ []) xs)
      (goes_on (G done) m (f x ∷ []) (G (done ++ (x ∷ []))) K (map f xs) (G (done ++ (x ∷ []) ++ xs)) K
      (λ z hz. (
        (record { in_order = omega (arith, rank_is x); in_range = range_is done x p.0; room = omega (arith, count_is done x, limit_is x) }, tt),
        add_is done x,
        omega (arith, rank_is x),
      ))
      (sort_from xs (done ++ (x ∷ [])) K (le_refl K) p.1 (omega (arith, length-append done (x ∷ [])))))

  sort : (xs : List A) → All P xs → length xs ≤ L → Goes (G []) n (map f xs) (G xs) K
  sort xs p l = sort_from xs [] n low p (omega arith)

-- ---- a formed graph, sort by sort

change_seam : {A : Type 0} (f : A → A) (xs : List A) (y : A) (ys : List A) → change f (length xs) (xs ++ y ∷ ys) ≡ xs ++ f y ∷ ys
unfolding change
change_seam f [] y ys = refl
change_seam f (x ∷ xs) y ys = ap (λ l. x ∷ l) (change_seam f xs y ys)

abbrev strip : Link → Link
strip c = bare c.producer c.consumer c.initial c.size

module _ (g : Graph) where
  abbrev G : List Link → List Relation → Graph
  G cs rs = with_relations (with_channels (with_tasks empty g.tasks) cs) rs

  tasks_go : All (InRange g) (map task g.tasks) → length g.tasks ≤ 32
      → Goes empty 0 (map task g.tasks) (G [] []) (digits 1 0 0 0)
  unfolding rank limit count add ranges
  tasks_go p l =
      sort task (with_tasks empty) 0 (digits 1 0 0 0) 32 (omega arith)
      (λ x. refl) (λ x. refl) (λ d x. refl) (λ d x. refl)
      (λ t. InRange g (task t)) (λ d x h. h)
      g.tasks (all_of_map (InRange g) task g.tasks p) l

  heads_go : All (InRange g) (map head g.channels) → length g.channels ≤ 64
      → Goes (G [] []) (digits 1 0 0 0) (map head g.channels) (G (map strip g.channels) []) (digits 2 0 0 0)
  unfolding rank limit count add ranges
  heads_go p l =
      sort head (λ cs. G (map strip cs) []) (digits 1 0 0 0) (digits 2 0 0 0) 64 (omega arith)
      (λ x. refl) (λ x. refl) (λ d x. length-map d strip) (λ d x. ap (λ cs. G cs []) (sym (map_append strip d (x ∷ []))))
      (λ c. InRange g (head c)) (λ d x h. h)
      g.channels (all_of_map (InRange g) head g.channels p) l

  relations_go : All (InRange g) (map relation g.relations) → length g.relations ≤ 64
      → Goes (G g.channels []) (digits 4 0 0 0) (map relation g.relations) g (digits 4 0 0 0)
  unfolding rank limit count add ranges
  relations_go p l =
      sort relation (G g.channels) (digits 4 0 0 0) (digits 4 0 0 0) 64 (omega arith)
      (λ x. refl) (λ x. refl) (λ d x. refl) (λ d x. refl)
      (λ r. InRange g (relation r)) (λ d x h. h)
      g.relations (all_of_map (InRange g) relation g.relations p) l

  -- the channel behind `front`, one list of rates after the other: C done is the channel that has those of `done`
  module _ (front rest : List Link) (len : length front + suc (length rest) ≡ length g.channels) where
    list_go : (s p n : ℕ) (C : List ℕ → Link) (xs : List ℕ)
        → n ≤ digits 3 (length front) s p
        → ((done : List ℕ) → list_of (C done) s p ≡ done)
        → ((done : List ℕ) (x : ℕ) → push s p x (C done) ≡ C (done ++ (x ∷ [])))
        → All (InRange g) (map (rate (length front) s p) xs) → length xs ≤ cond (eqb p 0) 16 32
        → Goes (G (front ++ C [] ∷ rest) []) n (map (rate (length front) s p) xs) (G (front ++ C xs ∷ rest) []) (digits 3 (length front) s p)
    unfolding rank limit count add ranges
    list_go s p n C xs low lists pushes fit l =
        sort (rate (length front) s p) (λ d. G (front ++ C d ∷ rest) []) n (digits 3 (length front) s p) (cond (eqb p 0) 16 32) low
        (λ x. refl) (λ x. refl)
        (λ d x. ap (λ c. length (list_of c s p)) (get_or-append_seam front (C d) rest (bare 0 0 0 0)) ∙ ap length (lists d))
        (λ d x. ap (λ cs. G cs []) (change_seam (push s p x) front (C d) rest ∙ ap (λ c. front ++ c ∷ rest) (pushes d x)))
        (λ x. InRange g (rate (length front) s p x))
        (λ d x h. ((omega (arith, len, length-append front (C d ∷ rest)), h.0.1), h.1))
        xs (all_of_map (InRange g) (rate (length front) s p) xs fit) l

    channel_go : (c : Link) (n : ℕ) → n ≤ digits 3 (length front) 0 0 → All (InRange g) (rates_of (length front) c) → FewRates c
        → Goes (G (front ++ strip c ∷ rest) []) n (rates_of (length front) c) (G (front ++ c ∷ rest) []) (digits 3 (length front) 1 1)
    channel_go c n low fit few =
        let i : ℕ = length front in
        let P : Rates = c.production in
        let Q : Rates = c.consumption in
        let none : Rates = record { prefix = []; cycle = [] } in
        let f₁ = all_right (InRange g) (map (rate i 0 0) P.prefix) _ fit in
        let f₂ = all_right (InRange g) (map (rate i 0 1) P.cycle) _ f₁ in
        goes_on (G (front ++ strip c ∷ rest) []) n (map (rate i 0 0) P.prefix) _ (digits 3 i 0 0) _ _ _
        (list_go 0 0 n (λ d. with_rates c (record { prefix = d; cycle = [] }) none) P.prefix low
        (λ d. refl) (λ d x. refl) (all_left (InRange g) (map (rate i 0 0) P.prefix) _ fit) few.production.prefix)
        (goes_on _ (digits 3 i 0 0) (map (rate i 0 1) P.cycle) _ (digits 3 i 0 1) _ _ _
        (list_go 0 1 (digits 3 i 0 0) (λ d. with_rates c (record { prefix = P.prefix; cycle = d }) none) P.cycle (omega arith)
        (λ d. refl) (λ d x. refl) (all_left (InRange g) (map (rate i 0 1) P.cycle) _ f₁) few.production.cycle)
        (goes_on _ (digits 3 i 0 1) (map (rate i 1 0) Q.prefix) _ (digits 3 i 1 0) _ _ _
        (list_go 1 0 (digits 3 i 0 1) (λ d. with_rates c P (record { prefix = d; cycle = [] })) Q.prefix (omega arith)
        (λ d. refl) (λ d x. refl) (all_left (InRange g) (map (rate i 1 0) Q.prefix) _ f₂) few.consumption.prefix)
        (list_go 1 1 (digits 3 i 1 0) (λ d. with_rates c P (record { prefix = Q.prefix; cycle = d })) Q.cycle (omega arith)
        (λ d. refl) (λ d x. refl) (all_right (InRange g) (map (rate i 1 0) Q.prefix) _ f₂) few.consumption.cycle)))

  rates_go : (rest front : List Link) (i n : ℕ) → length front ≡ i → length front + length rest ≡ length g.channels → length g.channels ≤ 64
      → n ≤ digits 3 i 0 0 → All (InRange g) (rates_from i rest) → All FewRates rest
      → Goes (G (front ++ map strip rest) []) n (rates_from i rest) (G (front ++ rest) []) (digits 4 0 0 0)
  unfolding rates_from
  rates_go [] front i n at_i all most low fit few = λ f hf. (tt, refl, omega arith)
  rates_go (c ∷ rest) front i n at_i all most low fit few =
      let len : length front + suc (length (map strip rest)) ≡ length g.channels = ap (λ m. length front + suc m) (length-map rest strip) ∙ all in
      goes_on (G (front ++ map strip (c ∷ rest)) []) n (rates_of i c) (G (front ++ c ∷ map strip rest) []) (digits 3 i 1 1)
      (rates_from (suc i) rest) (G (front ++ c ∷ rest) []) (digits 4 0 0 0)
      (rw at_i at (channel_go front (map strip rest) len c n (rw at_i low) (rw at_i (all_left (InRange g) (rates_of i c) _ fit)) few.0))
      (rw (append_snoc front c (map strip rest), append_snoc front c rest) at
      (rates_go rest (front ++ (c ∷ [])) (suc i) (digits 3 i 1 1) (length-append front (c ∷ []) ∙ omega arith)
      (omega (arith, length-append front (c ∷ []))) most (omega arith) (all_right (InRange g) (rates_of i c) _ fit) few.1))

  graph_goes : All (InRange g) (records g) → Counts g → Goes empty 0 (records g) g (digits 4 0 0 0)
  unfolding records
  graph_goes fit n =
      let f₁ = all_right (InRange g) (map task g.tasks) _ fit in
      let f₂ = all_right (InRange g) (map head g.channels) _ f₁ in
      goes_on empty 0 (map task g.tasks) _ (digits 1 0 0 0) _ _ _
      (tasks_go (all_left (InRange g) (map task g.tasks) _ fit) n.tasks)
      (goes_on _ (digits 1 0 0 0) (map head g.channels) _ (digits 2 0 0 0) _ _ _
      (heads_go (all_left (InRange g) (map head g.channels) _ f₁) n.channels)
      (goes_on _ (digits 2 0 0 0) (rates_from 0 g.channels) (G g.channels []) (digits 4 0 0 0) _ _ _
      (rates_go g.channels [] 0 (digits 2 0 0 0) refl (omega arith) n.channels (omega arith)
      (all_left (InRange g) (rates_from 0 g.channels) _ f₂) n.rates)
      (relations_go (all_right (InRange g) (rates_from 0 g.channels) _ f₂) n.relations)))

-- the file of a formed graph reads as the graph
pub formed_reads : (g : Graph) → Formed g → Reads (bytes g) g
unfolding bytes
formed_reads g F =
    let (good, e, low) = graph_goes g F.in_range F.counts 0 (omega arith) in
    record {
      records = records g;
      rest = [];
      run = record { good = good; parts = sym (append-nil (encodes (records g))) };
      ends = (refl, subst Whole (sym e) F.whole, e);
    }
