-- A graph in memory is well formed where its counts and its places are, and just there. Assumes nothing.
use mathlib.Core.Path.{◌≡◌, refl, ap, ap₂, sym, subst, ◌∙◌}
use mathlib.Core.List.{List, [], ◌∷◌, map}
use Rattle.std.proofs.Common.{Bool, IsTrue, ◌↔◌}
use Prim.Native.Nat.{ℕ, ◌≤◌}
use native.Mathlib.Omega.{arith}
use lib.ListN.{length, take, length-take, length-map}
use Rattle.numbers.specs.Lists.{All}
use Rattle.graph.specs.Model.{no_task, no_relation}
use Rattle.graph.specs.Memory.{Memory, MemoryLink, view_link, view, pad, laid_link, zero_link, laid}
use Rattle.format.specs.Ranges.{TaskRange, LinkRange, RelationRange}
use Rattle.numbers.proofs.Lists.{all_map, map_of_all}
use Rattle.graph.proofs.Laid.{pad_length, pad_take}
use Rattle.format.proofs.Ranges.{formed_ranged, ranged_formed}
use Rattle.formed.specs.Formed.{WellFormed, ChannelFormed, Places}

-- what the test of a graph finds
pub record Told (g : Memory) : Type 0 where
  pub some_task : 1 ≤ g.ntasks
  pub few_tasks : g.ntasks ≤ 32
  pub few_channels : g.nchannels ≤ 64
  pub few_relations : g.nrelations ≤ 64
  pub tasks : Places TaskRange 32 no_task g.ntasks g.tasks
  pub channels : Places (ChannelFormed g.ntasks) 64 zero_link g.nchannels g.channels
  pub relations : Places (RelationRange g.ntasks) 64 no_relation g.nrelations g.relations

-- the used places of a padded array are as many as the count says
counted : {A : Type 0} (size : ℕ) (z : A) (n : ℕ) (xs : List A) → n ≤ size → xs ≡ pad size z (take n xs) → length (take n xs) ≡ n
counted size z n xs h e =
    let m : length (take n xs) ≤ n = omega (arith, length-take n xs) in
    omega (arith, length-take n xs, ap length e, pad_length size z (take n xs) (omega arith))

-- channels whose sides are padded are laid as they stand
relaid : (n : ℕ) (cs : List MemoryLink) → All (ChannelFormed n) cs → map laid_link (map view_link cs) ≡ cs
relaid n [] h = refl
relaid n (c ∷ cs) h = ap₂ (λ (d : MemoryLink) (ds : List MemoryLink). d ∷ ds) (sym h.0.padded) (relaid n cs h.1)

used : (n : ℕ) (cs : List MemoryLink) → map laid_link (map view_link cs) ≡ cs → All (LinkRange n) (map view_link cs) → All (ChannelFormed n) cs
used n [] e h = tt
used n (c ∷ cs) e h =
    let d : c ≡ laid_link (view_link c) = cc in
    (record { padded = d; ranged = h.0 }, used n cs (cc) h.1)

module _ (g : Memory) where
  pub well_yes : Told g → WellFormed g
  unfolding view laid
  well_yes t =
      let ts = take g.ntasks g.tasks in
      let cs = take g.nchannels g.channels in
      let rs = take g.nrelations g.relations in
      let a : length (take g.ntasks g.tasks) ≡ g.ntasks = counted 32 no_task g.ntasks g.tasks t.few_tasks t.tasks.padded in
      let b : length (map view_link (take g.nchannels g.channels)) ≡ g.nchannels =
      length-map cs view_link ∙ counted 64 zero_link g.nchannels g.channels t.few_channels t.channels.padded in
      let d : length (take g.nrelations g.relations) ≡ g.nrelations = counted 64 no_relation g.nrelations g.relations t.few_relations t.relations.padded in
      let links : g.channels ≡ pad 64 zero_link (map laid_link (map view_link cs)) =
      t.channels.padded ∙ ap (pad 64 zero_link) (sym (relaid g.ntasks cs t.channels.used)) in
      record {
        padded = λ i. record {
          tasks = t.tasks.padded i;
          ntasks = sym a i;
          channels = links i;
          nchannels = sym b i;
          relations = t.relations.padded i;
          nrelations = sym d i;
        };
        formed =
            ranged_formed (view g) (record {
              some_task = omega (arith, t.some_task);
              few_tasks = omega (arith, t.few_tasks);
              few_channels = omega (arith, t.few_channels);
              few_relations = omega (arith, t.few_relations);
              tasks = t.tasks.used;
              channels =
                  subst (λ n. All (LinkRange n) (map view_link cs)) (sym a)
                  (map_of_all (LinkRange g.ntasks) view_link cs (all_map (ChannelFormed g.ntasks) (λ c. LinkRange g.ntasks (view_link c)) (λ c f. f.ranged) cs t.channels.used));
              relations = subst (λ n. All (RelationRange n) rs) (sym a) t.relations.used;
            });
      }

  pub well_no : WellFormed g → Told g
  unfolding view laid
  well_no w =
      let R = formed_ranged (view g) w.formed in
      let cs = take g.nchannels g.channels in
      let ys = map laid_link (map view_link cs) in
      let a : g.ntasks ≡ length (take g.ntasks g.tasks) = ap (λ (x : Memory). x.ntasks) w.padded in
      let b : g.nchannels ≡ length (map view_link (take g.nchannels g.channels)) = ap (λ (x : Memory). x.nchannels) w.padded in
      let d : g.nrelations ≡ length (take g.nrelations g.relations) = ap (λ (x : Memory). x.nrelations) w.padded in
      let links : g.channels ≡ pad 64 zero_link ys = ap (λ (x : Memory). x.channels) w.padded in
      let same : map laid_link (map view_link cs) ≡ cs =
      sym (ap₂ (λ (n : ℕ) (xs : List MemoryLink). take n xs) (b ∙ sym (length-map (map view_link cs) laid_link)) links ∙ pad_take 64 zero_link ys) in
      record {
        some_task = omega (arith, R.some_task);
        few_tasks = omega (arith, R.few_tasks);
        few_channels = omega (arith, R.few_channels);
        few_relations = omega (arith, R.few_relations);
        tasks = record { padded = ap (λ (x : Memory). x.tasks) w.padded; used = R.tasks };
        channels = record {
          padded = links ∙ ap (pad 64 zero_link) same;
          used = used g.ntasks cs same (subst (λ n. All (LinkRange n) (map view_link cs)) (sym a) R.channels);
        };
        relations = record {
          padded = ap (λ (x : Memory). x.relations) w.padded;
          used = subst (λ n. All (RelationRange n) (take g.nrelations g.relations)) (sym a) R.relations;
        };
      }

  pub well_told : {b : Bool} → IsTrue b ↔ Told g → IsTrue b ↔ WellFormed g
  well_told t = (λ h. well_yes (t.0 h), λ w. t.1 (well_no w))
