-- Good records are the records of the graph that they make: a graph has one file at most. Assumes nothing.
use mathlib.Core.Path.{◌≡◌, refl, ap, ap₂, sym, subst, ◌∙◌}
use mathlib.Core.Bool.{Bool, true, false, cond}
use mathlib.Core.List.{List, [], ◌∷◌, ◌++◌, map, append_assoc, append-nil}
use Prim.Native.Nat.{ℕ, zero, suc, ◌+◌, ◌≤◌, ◌<◌}
use native.Mathlib.Nat.{add-zero, zero-add, le_refl}
use native.Mathlib.Omega.{arith}
use lib.Dec.{eqb}
use lib.ListN.{length}
use Rattle.numbers.specs.Lists.{All}
use Rattle.graph.specs.Model.{Link, Graph, bare}
use Rattle.format.specs.Growth.{push_part, with_rates, push, change}
use Rattle.format.specs.Record.{Record, task, channel, rate, relation, digits, rank, after, encodes}
use Rattle.format.specs.Reader.{add, ranges, InRange, State, start, step, Good, AllGood, steps, Reads}
use Rattle.format.specs.Writer.{head, rates_of, rates_from, records, bytes}
use Rattle.numbers.proofs.Lists.{all_left, all_right, all_append, all_map}

-- ---- records that a record of rank n may follow

abbrev pub Below : ℕ → List Record → Type 0
Below n rs = All (λ r. after r ≤ n) rs

pub map_append : {A B : Type 0} (f : A → B) (xs ys : List A) → map f (xs ++ ys) ≡ map f xs ++ map f ys
map_append f [] ys = refl
map_append f (x ∷ xs) ys = ap (λ l. f x ∷ l) (map_append f xs ys)

-- records of higher rank are not there
nil_of : {A : Type 0} (f : A → Record) (n : ℕ) → ((x : A) → n < after (f x)) → (xs : List A) (ys : List Record)
    → Below n (map f xs ++ ys) → (xs ≡ []) × Below n ys
nil_of f n h [] ys b = (refl, b)
nil_of f n h (x ∷ xs) ys b = absurd (omega (arith, h x, b.0))

nil_rates : (i : ℕ) (c : Link) (ys : List Record) (n : ℕ) → n < digits 3 i 0 0 → Below n (rates_of i c ++ ys) → (rates_of i c ≡ []) × Below n ys
unfolding rank
nil_rates i c ys n h b =
    let (e₁, b₁) = nil_of (rate i 0 0) n (λ x. omega arith) c.production.prefix _ (simp append_assoc at b) in
    let (e₂, b₂) = nil_of (rate i 0 1) n (λ x. omega arith) c.production.cycle _ b₁ in
    let (e₃, b₃) = nil_of (rate i 1 0) n (λ x. omega arith) c.consumption.prefix _ b₂ in
    let (e₄, b₄) = nil_of (rate i 1 1) n (λ x. omega arith) c.consumption.cycle ys b₃ in
    (rw (e₁, e₂, e₃, e₄), b₄)

nil_from : (i : ℕ) (cs : List Link) (n : ℕ) → n < digits 3 i 0 0 → Below n (rates_from i cs) → rates_from i cs ≡ []
unfolding rates_from
nil_from i [] n h b = refl
nil_from i (c ∷ cs) n h b =
    let (e, b') = nil_rates i c (rates_from (suc i) cs) n h b in
    ap₂ ◌++◌ e (nil_from (suc i) cs n (omega arith) b')

-- ---- one record more

-- a number up to 1
bit : (P : ℕ → Type 0) → P 0 → P 1 → (n : ℕ) → n ≤ 1 → P n
bit P a b zero h = a
bit P a b (suc zero) h = b
bit P a b (suc (suc n)) h = absurd (omega arith)

-- in a list of rates behind which there is nothing
module _ (i x : ℕ) (c : Link) where
  abbrev Pushed : ℕ → ℕ → Type 0
  Pushed s p = Below (digits 3 i s p) (rates_of i c) → rates_of i (push s p x c) ≡ rates_of i c ++ (rate i s p x ∷ [])

  -- of two lists in a row, what is behind the first
  behind : (n : ℕ) (f : ℕ → Record) (xs : List ℕ) (ys : List Record) → Below n (map f xs ++ ys) → Below n ys
  behind n f xs ys b = all_right (λ r. after r ≤ n) (map f xs) ys b

  no_taken_cycle : (n : ℕ) → n < digits 3 i 1 1 → Below n (map (rate i 1 1) c.consumption.cycle) → c.consumption.cycle ≡ []
  unfolding rank
  no_taken_cycle n h b = (nil_of (rate i 1 1) n (λ x. omega arith) c.consumption.cycle [] (simp append-nil b)).0

  pushed_00 : Pushed 0 0
  unfolding rank
  pushed_00 b =
      let (e₁, b₁) = nil_of (rate i 0 1) (digits 3 i 0 0) (λ x. omega arith) c.production.cycle _ (behind _ _ c.production.prefix _ b) in
      let (e₂, b₂) = nil_of (rate i 1 0) (digits 3 i 0 0) (λ x. omega arith) c.consumption.prefix _ b₁ in
      rw (e₁, e₂, no_taken_cycle (digits 3 i 0 0) (omega arith) b₂) (simp (append-nil, map_append))

  pushed_01 : Pushed 0 1
  unfolding rank
  pushed_01 b =
      let (e₂, b₂) =
      nil_of (rate i 1 0) (digits 3 i 0 1) (λ x. omega arith) c.consumption.prefix _
      (behind _ _ c.production.cycle _ (behind _ _ c.production.prefix _ b)) in
      rw (e₂, no_taken_cycle (digits 3 i 0 1) (omega arith) b₂) (simp (append-nil, append_assoc, map_append))

  pushed_10 : Pushed 1 0
  pushed_10 b =
      let b₂ = behind _ _ c.consumption.prefix _ (behind _ _ c.production.cycle _ (behind _ _ c.production.prefix _ b)) in
      rw (no_taken_cycle (digits 3 i 1 0) (omega arith) b₂) (simp (append-nil, append_assoc, map_append))

  pushed_11 : Pushed 1 1
  pushed_11 b = simp (append_assoc, map_append)

  push_rates : (s p : ℕ) → s ≤ 1 → p ≤ 1 → Pushed s p
  push_rates s p hs hp =
      bit (λ s. Pushed s p) (bit (Pushed 0) pushed_00 pushed_01 p hp) (bit (Pushed 1) pushed_10 pushed_11 p hp) s hs

push_from : (x s p : ℕ) → s ≤ 1 → p ≤ 1 → (cs : List Link) (i j : ℕ) → j < length cs → Below (digits 3 (i + j) s p) (rates_from i cs)
    → rates_from i (change (push s p x) j cs) ≡ rates_from i cs ++ (rate (i + j) s p x ∷ [])
unfolding rates_from change
push_from x s p hs hp [] i j h b = absurd (omega arith)
push_from x s p hs hp (c ∷ cs) i zero h b =
    let b' : Below (digits 3 i s p) (rates_of i c ++ rates_from (suc i) cs) = rw add-zero at b in
    rw (
      add-zero i,
      nil_from (suc i) cs (digits 3 i s p) (omega arith) (all_right (λ r. after r ≤ digits 3 i s p) (rates_of i c) _ b'),
      push_rates i x c s p hs hp (all_left (λ r. after r ≤ digits 3 i s p) (rates_of i c) (rates_from (suc i) cs) b'),
    )
    (simp append-nil)
push_from x s p hs hp (c ∷ cs) i (suc j) h b =
    let e : i + suc j ≡ suc i + j = omega arith in
    let b' : Below (digits 3 (suc i + j) s p) (rates_of i c ++ rates_from (suc i) cs) = rw e at b in
    rw (e, push_from x s p hs hp cs (suc i) j (omega arith) (all_right (λ r. after r ≤ digits 3 (suc i + j) s p) (rates_of i c) _ b'))
    (sym (append_assoc (rates_of i c) (rates_from (suc i) cs) (rate (suc i + j) s p x ∷ [])))

rates_bare : (p c n m : ℕ) (cs : List Link) (i : ℕ) → rates_from i (cs ++ (bare p c n m ∷ [])) ≡ rates_from i cs
unfolding rates_from
rates_bare p c n m [] i = refl
rates_bare p c n m (d ∷ cs) i = ap (λ l. rates_of i d ++ l) (rates_bare p c n m cs (suc i))

head_push : (s p x : ℕ) (c : Link) → head (push s p x c) ≡ head c
head_push s p x c = go (eqb s 0)
  where
    go : (b : Bool)
        → head (cond b (with_rates c (push_part c.production p x) c.consumption) (with_rates c c.production (push_part c.consumption p x))) ≡ head c
    go true = refl
    go false = refl

heads_change : (s p x : ℕ) (cs : List Link) (j : ℕ) → map head (change (push s p x) j cs) ≡ map head cs
unfolding change
heads_change s p x [] j = refl
heads_change s p x (c ∷ cs) zero = ap (λ r. r ∷ map head cs) (head_push s p x c)
heads_change s p x (c ∷ cs) (suc j) = ap (λ l. head c ∷ l) (heads_change s p x cs j)

-- what is not there yet, where a record of rank n may follow
record Later (g : Graph) (n : ℕ) : Type 0 where
  no_channels : n < digits 2 0 0 0 → g.channels ≡ []
  own_rates : Below n (rates_from 0 g.channels)
  no_rates : n < digits 3 0 0 0 → rates_from 0 g.channels ≡ []
  no_relations : n < digits 4 0 0 0 → g.relations ≡ []

later : (g : Graph) (n : ℕ) → Below n (records g) → Later g n
unfolding records rank
later g n b =
    let P : Record → Type 0 = λ r. after r ≤ n in
    let b₁ = all_right P (map task g.tasks) _ b in
    let b₂ = all_right P (map head g.channels) _ b₁ in
    let b₃ = all_right P (rates_from 0 g.channels) _ b₂ in
    let rates : Below n (rates_from 0 g.channels) = all_left P (rates_from 0 g.channels) _ b₂ in
    record {
      no_channels = λ h. (nil_of head n (λ x. omega arith) g.channels _ b₁).0;
      own_rates = rates;
      no_rates = λ h. nil_from 0 g.channels n h rates;
      no_relations = λ h. (nil_of relation n (λ x. omega arith) g.relations [] (simp append-nil b₃)).0;
    }

pub snoc : (g : Graph) (r : Record) → InRange g r → Below (rank r) (records g) → records (add g r) ≡ records g ++ (r ∷ [])
unfolding records add ranges rank rates_from
snoc g (task t) h b =
    let l = later g (digits 1 0 0 0) b in
    rw (l.no_channels (omega arith), l.no_relations (omega arith)) (simp (append-nil, map_append))
snoc g (channel p c n m) h b =
    let l = later g (digits 2 0 0 0) b in
    rw (rates_bare p c n m g.channels 0, l.no_rates (omega arith), l.no_relations (omega arith)) (simp (append-nil, append_assoc, map_append))
snoc g (rate c s p x) h b =
    let l = later g (digits 3 c s p) b in
    let e : rates_from 0 (change (push s p x) c g.channels) ≡ rates_from 0 g.channels ++ (rate c s p x ∷ []) =
    rw zero-add at (push_from x s p h.1.0.1 h.1.1.0.1 g.channels 0 c h.0.0
    (subst (λ m. Below (digits 3 m s p) (rates_from 0 g.channels)) (sym (zero-add c)) l.own_rates)) in
    rw (heads_change s p x g.channels c, e, l.no_relations (omega arith)) (simp (append-nil, append_assoc))
snoc g (relation r) h b = simp (append_assoc, map_append)

rank_after : (r : Record) → rank r ≤ after r
rank_after r = le_refl (rank r)

-- a good record is the last record of the graph that it makes
pub last : (s : State) (r : Record) → Good s r → Below s.floor (records s.graph)
    → (records (add s.graph r) ≡ records s.graph ++ (r ∷ [])) × Below (after r) (records (add s.graph r))
last s r g b =
    let b' : Below (rank r) (records s.graph) =
    all_map (λ q. after q ≤ s.floor) (λ q. after q ≤ rank r) (λ q h. omega (arith, g.in_order)) (records s.graph) b in
    let e = snoc s.graph r g.in_range b' in (
      e,
      rw e (all_append (λ q. after q ≤ after r) (records s.graph) (r ∷ [])
          (all_map (λ q. after q ≤ rank r) (λ q. after q ≤ after r) (λ q h. omega (arith, rank_after r)) (records s.graph) b') (le_refl (after r), tt)),
    )

canon : (rs : List Record) (s : State) → AllGood s rs → Below s.floor (records s.graph)
    → records (steps s rs).graph ≡ records s.graph ++ rs
canon [] s g b = sym (append-nil (records s.graph))
canon (r ∷ rs) s g b =
    let (e, b') = last s r g.0 b in
    canon rs (step s r) g.1 b' ∙ ap (λ l. l ++ rs) e ∙ append_assoc (records s.graph) (r ∷ []) rs

pub canonical : (rs : List Record) → AllGood start rs → records (steps start rs).graph ≡ rs
unfolding records rates_from
canonical rs g = canon rs start g tt

-- a file that reads as a graph is the graph's file
pub reads_bytes : (file : List ℕ) (g : Graph) → Reads file g → bytes g ≡ file
unfolding bytes
reads_bytes file g m =
    ap (λ h. encodes (records h)) (sym m.ends.2)
    ∙ ap encodes (canonical m.records m.run.good)
    ∙ sym (append-nil (encodes m.records))
    ∙ ap (λ l. encodes m.records ++ l) (sym m.ends.0)
    ∙ sym m.run.parts
