-- A record stored in memory, and the lists that it stands for then. Assumes nothing.
use mathlib.Core.Path.{◌≡◌, refl, ap, ◌∙◌}
use mathlib.Core.List.{List, map}
use Prim.Native.Nat.{ℕ, ◌+◌, ◌-◌, ◌≤◌, ◌<◌}
use native.Mathlib.Omega.{arith}
use borrow.Author.Tests.{eq-eqb, ne_eqb}
use lib.ListN.{length, get_or, set, replicate, length-append, length-replicate, length-map}
use Rattle.std.proofs.lemmas.List.{set-get_or}
use Rattle.std.specs.Prelude.{Result, Ok, Err}
use Rattle.graph.specs.declared.Task.{Task as GraphTask}
use Rattle.graph.specs.declared.Relation.{Relation as GraphRelation}
use Rattle.graph.specs.Model.{Rates, Link, Graph, bare, no_task, no_relation}
use Rattle.graph.specs.Memory.{Memory, MemoryLink, MemoryRates, pad, laid_rates, laid_link, zero_link, laid}
use Rattle.graph.proofs.Stores.{store_prefix, store_cycle, store_task, store_channel, store_relation, load_link, store_link}
use Rattle.format.specs.Growth.{list_of, with_channels, push}
use Rattle.format.specs.Reader.{add, count, limit}
use Rattle.record.specs.declared.Head.{Head}
use Rattle.record.specs.declared.Entry.{Entry}
use Rattle.record.specs.declared.Test.{Test}
use Rattle.record.specs.declared.Test.TheVariants.{Full}
use Rattle.record.specs.declared.Record.TheVariants.{Task, Channel, Rate, Relation}
use Rattle.record.specs.Fields.{entered}
use Rattle.reader.specs.Records.{Appends, Pushes, Stores}
use Rattle.reader.proofs.Growth.{change_set}

-- what an append returns
abbrev Done : Type 0
Done = Result (Unit {0}) Test

-- the places of a padded list
pub pad_places : {A : Type 0} (n : ℕ) (z : A) (xs : List A) → length (pad n z xs) ≡ length xs + (n - length xs)
unfolding pad
pad_places n z xs = omega (arith, length-append xs (replicate (n - length xs) z), length-replicate (n - length xs) z)

-- room in memory is room in the list
room_in : {A : Type 0} (n : ℕ) (z : A) (xs : List A) (places : List A) (k : ℕ) → places ≡ pad n z xs → k ≡ length xs
    → (k < length places → length xs < n) × (length places ≤ k → n ≤ length xs)
room_in n z xs places k e f =
    let p : length places ≡ length xs + (n - length xs) = ap length e ∙ pad_places n z xs in
    (λ h. omega arith, λ h. omega arith)

-- ---- rates

module _ (s : MemoryRates) (r : Rates) (e : s ≡ laid_rates r) (part x : ℕ) (ys : List ℕ) (k : ℕ) where
  prefix_room : (s.plen < length s.prefix → length r.prefix < 16) × (length s.prefix ≤ s.plen → 16 ≤ length r.prefix)
  prefix_room = room_in 16 0 r.prefix s.prefix s.plen (ap (λ (q : MemoryRates). q.prefix) e) (ap (λ (q : MemoryRates). q.plen) e)

  cycle_room : (s.clen < length s.cycle → length r.cycle < 32) × (length s.cycle ≤ s.clen → 32 ≤ length r.cycle)
  cycle_room = room_in 32 0 r.cycle s.cycle s.clen (ap (λ (q : MemoryRates). q.cycle) e) (ap (λ (q : MemoryRates). q.clen) e)

  pub pushes_prefix : part ≡ 0 → (o : Done) → Appends s.prefix s.plen x ys k o → Pushes r part x (record s { prefix = ys; plen = k }) o
  unfolding limit
  pushes_prefix z (Ok u) (room, is, more) =
      let n : s.plen ≡ length r.prefix = ap (λ (q : MemoryRates). q.plen) e in
      let h : length r.prefix < 16 = prefix_room.0 room in
      simp (eq-eqb part 0 z, is, more) (h, store_prefix s r e x (omega arith))
  pushes_prefix z (Err t) (full, room, is, more) = simp (eq-eqb part 0 z, is, more) (full, prefix_room.1 room, e)

  pub pushes_cycle : ¬ (part ≡ 0) → (o : Done) → Appends s.cycle s.clen x ys k o → Pushes r part x (record s { cycle = ys; clen = k }) o
  unfolding limit
  pushes_cycle z (Ok u) (room, is, more) =
      let n : s.clen ≡ length r.cycle = ap (λ (q : MemoryRates). q.clen) e in
      let h : length r.cycle < 32 = cycle_room.0 room in
      simp (ne_eqb part 0 z, is, more) (h, store_cycle s r e x (omega arith))
  pushes_cycle z (Err t) (full, room, is, more) = simp (ne_eqb part 0 z, is, more) (full, cycle_room.1 room, e)

-- a channel has grown by an entry, or the entry's list is full and the channel is as before
abbrev Grows : Link → Entry → MemoryLink → Done → Type 0
Grows l r w (Ok u) = (length (list_of l r.side r.part) < limit (entered r)) × (w ≡ laid_link (push r.side r.part r.tokens l))
Grows l r w (Err t) = (t ≡ Full) × (limit (entered r) ≤ length (list_of l r.side r.part)) × (w ≡ laid_link l)

module _ (l : Link) (r : Entry) (s : MemoryRates) where
  grows_production : r.side ≡ 0 → (o : Done) → Pushes l.production r.part r.tokens s o → Grows l r (record (laid_link l) { production = s }) o
  unfolding limit
  grows_production z (Ok u) (room, is) = simp (eq-eqb r.side 0 z, is) (room, refl)
  grows_production z (Err t) (full, room, is) = simp (eq-eqb r.side 0 z, is) (full, room, refl)

  grows_consumption : ¬ (r.side ≡ 0) → (o : Done) → Pushes l.consumption r.part r.tokens s o → Grows l r (record (laid_link l) { consumption = s }) o
  unfolding limit
  grows_consumption z (Ok u) (room, is) = simp (ne_eqb r.side 0 z, is) (room, refl)
  grows_consumption z (Err t) (full, room, is) = simp (ne_eqb r.side 0 z, is) (full, room, refl)

-- ---- the graph

module _ (m : Memory) (g : Graph) (e : m ≡ laid g) where
  tasks_room : (m.ntasks < length m.tasks → length g.tasks < 32) × (length m.tasks ≤ m.ntasks → 32 ≤ length g.tasks)
  unfolding laid
  tasks_room = room_in 32 no_task g.tasks m.tasks m.ntasks (ap (λ (q : Memory). q.tasks) e) (ap (λ (q : Memory). q.ntasks) e)

  channels_room : (m.nchannels < length m.channels → length g.channels < 64) × (length m.channels ≤ m.nchannels → 64 ≤ length g.channels)
  unfolding laid
  channels_room =
      let n = length-map g.channels laid_link in
      let room = room_in 64 zero_link (map laid_link g.channels) m.channels m.nchannels (ap (λ (q : Memory). q.channels) e) (omega (arith, ap (λ (q : Memory). q.nchannels) e)) in
      (λ h. omega (arith, room.0 h), λ h. omega (arith, room.1 h))

  relations_room : (m.nrelations < length m.relations → length g.relations < 64) × (length m.relations ≤ m.nrelations → 64 ≤ length g.relations)
  unfolding laid
  relations_room = room_in 64 no_relation g.relations m.relations m.nrelations (ap (λ (q : Memory). q.relations) e) (ap (λ (q : Memory). q.nrelations) e)

  module _ (k : ℕ) where
    pub stores_task : (t : GraphTask) (ys : List GraphTask) (o : Done) → Appends m.tasks m.ntasks t ys k o → Stores g (Task t) (record m { tasks = ys; ntasks = k }) o
    unfolding add count limit
    stores_task t ys (Ok u) (room, is, more) = let h = tasks_room.0 room in (h, rw (is, more) (store_task m g e t h))
    stores_task t ys (Err f) (full, room, is, more) = (full, tasks_room.1 room, rw (is, more) e)

    pub stores_channel : (c : Head) (ys : List MemoryLink) (o : Done)
        → Appends m.channels m.nchannels (laid_link (bare c.producer c.consumer c.initial c.size)) ys k o
        → Stores g (Channel c) (record m { channels = ys; nchannels = k }) o
    unfolding add count limit
    stores_channel c ys (Ok u) (room, is, more) =
        let h = channels_room.0 room in (h, rw (is, more) (store_channel m g e (bare c.producer c.consumer c.initial c.size) h))
    stores_channel c ys (Err f) (full, room, is, more) = (full, channels_room.1 room, rw (is, more) e)

    pub stores_relation : (l : GraphRelation) (ys : List GraphRelation) (o : Done) → Appends m.relations m.nrelations l ys k o
        → Stores g (Relation l) (record m { relations = ys; nrelations = k }) o
    unfolding add count limit
    stores_relation l ys (Ok u) (room, is, more) = let h = relations_room.0 room in (h, rw (is, more) (store_relation m g e l h))
    stores_relation l ys (Err f) (full, room, is, more) = (full, relations_room.1 room, rw (is, more) e)

  module _ (r : Entry) (inside : r.channel < length g.channels) where
    -- the channel that a rate names
    abbrev there : Link
    there = get_or g.channels r.channel (bare 0 0 0 0)

    stores_rate : (w : MemoryLink) (o : Done) → Grows there r w o → Stores g (Rate r) (record m { channels = set m.channels r.channel w }) o
    unfolding add count
    stores_rate w (Ok u) (room, is) = (
      room,
      rw is (store_link m g e r.channel inside (push r.side r.part r.tokens there)
          ∙ ap (λ cs. laid (with_channels g cs)) (change_set (push r.side r.part r.tokens) r.channel g.channels (bare 0 0 0 0) inside)),
    )
    stores_rate w (Err t) (full, room, is) = (
      full,
      room,
      rw is (store_link m g e r.channel inside there ∙ ap (λ cs. laid (with_channels g cs)) (set-get_or g.channels r.channel (bare 0 0 0 0))),
    )

    module _ (i : ℕ) (names : i ≡ r.channel) (d : MemoryLink) (s : MemoryRates) (o : Done) where
      loaded : get_or m.channels i d ≡ laid_link there
      loaded = rw names (load_link m g e r.channel inside d)

      pub stores_production : r.side ≡ 0 → ((q : Rates) → (get_or m.channels i d).production ≡ laid_rates q → Pushes q r.part r.tokens s o)
          → Stores g (Rate r) (record m { channels = set m.channels i (record (get_or m.channels i d) { production = s }) }) o
      stores_production z p =
          rw (loaded, names) (stores_rate _ o (grows_production there r s z o (p there.production (ap (λ (c : MemoryLink). c.production) loaded))))

      pub stores_consumption : ¬ (r.side ≡ 0) → ((q : Rates) → (get_or m.channels i d).consumption ≡ laid_rates q → Pushes q r.part r.tokens s o)
          → Stores g (Rate r) (record m { channels = set m.channels i (record (get_or m.channels i d) { consumption = s }) }) o
      stores_consumption z p =
          rw (loaded, names) (stores_rate _ o (grows_consumption there r s z o (p there.consumption (ap (λ (c : MemoryLink). c.consumption) loaded))))
