-- A graph that has a file: its channels in memory, its file sort by sort, and the file's length. Assumes nothing.
use mathlib.Core.Path.{◌≡◌, refl, ap, sym, subst, ◌∙◌}
use mathlib.Core.List.{List, [], ◌∷◌, ◌++◌, map, append-nil}
use Prim.Native.Nat.{ℕ, ◌+◌, ◌*◌}
use native.Mathlib.Omega.{arith}
use lib.ListN.{length, length-append}
use Rattle.numbers.specs.Lists.{All}
use Rattle.numbers.proofs.Lists.{all_map}
use Rattle.graph.specs.declared.Task.{Task}
use Rattle.graph.specs.declared.Relation.{Relation}
use Rattle.graph.specs.Model.{Rates, Graph}
use Rattle.graph.specs.Memory.{MemoryLink, view_link, laid_rates, laid_link}
use Rattle.graph.proofs.Laid.{pad_length}
use Rattle.format.specs.Ranges.{RatesRange}
use Rattle.format.specs.Record.{Record, encodes, task, relation, be, join}
use Rattle.format.specs.Writer.{head, rates_from, records, bytes}
use Rattle.format.proofs.Records.{encodes_append}
use Rattle.formed.specs.Formed.{ChannelFormed}
use Rattle.output.proofs.Parts.{Then}
use Rattle.writer.specs.Parts.{head_of, SideFits, ChannelFits}
use Rattle.writer.proofs.Rows.{row_bytes}
use Rattle.writer.proofs.Links.{links_bytes}

-- ---- channels in memory

side_fits : (r : Rates) → RatesRange r → SideFits (laid_rates r)
side_fits r f =
    record {
      few = f.prefix;
      prefix = omega (arith, pad_length 16 0 r.prefix f.prefix, f.prefix);
      short = f.cycle;
      cycle = omega (arith, pad_length 32 0 r.cycle f.cycle, f.cycle);
    }

link_fits : (n : ℕ) (c : MemoryLink) → ChannelFormed n c → ChannelFits c
link_fits n c f =
    let l = view_link c in
    let fits : ChannelFits (laid_link l) =
    record { production = side_fits l.production f.ranged.production; consumption = side_fits l.consumption f.ranged.consumption } in
    subst ChannelFits (sym f.padded) fits

pub links_fit : (n : ℕ) (cs : List MemoryLink) → All (ChannelFormed n) cs → All ChannelFits cs
links_fit n cs h = all_map (ChannelFormed n) ChannelFits (link_fits n) cs h

heads_are : (cs : List MemoryLink) → map head (map view_link cs) ≡ map head_of cs
heads_are [] = refl
heads_are (c ∷ cs) = ap (λ l. head_of c ∷ l) (heads_are cs)

-- ---- the file, sort by sort, as the lists that are lent have it

module _ (g : Graph) where
  abbrev rates : List ℕ
  rates = encodes (rates_from 0 g.channels)

  abbrev relations : List ℕ
  relations = encodes (map relation g.relations)

  abbrev behind : List ℕ
  behind = encodes (map head g.channels) ++ (rates ++ relations)

  parts : bytes g ≡ encodes (map task g.tasks) ++ behind
  unfolding bytes records
  parts =
      let ts = map task g.tasks in
      let hs = map head g.channels in
      let qs = rates_from 0 g.channels in
      let ls = map relation g.relations in
      encodes_append ts (hs ++ (qs ++ ls))
      ∙ ap (λ x. encodes ts ++ x) (encodes_append hs (qs ++ ls) ∙ ap (λ x. encodes hs ++ x) (encodes_append qs ls))

  pub tasks_then : {ts : List Task} → ts ≡ g.tasks → Then (bytes g) (encodes (map task ts)) behind
  tasks_then e = record { parts = parts ∙ ap (λ (l : List Task). encodes (map task l) ++ behind) (sym e) }

  pub heads_then : (cs : List MemoryLink) → map view_link cs ≡ g.channels → Then behind (encodes (map head_of cs)) (rates ++ relations)
  heads_then cs e =
      record { parts = ap (λ (l : List Record). encodes l ++ (rates ++ relations)) (ap (map head) (sym e) ∙ heads_are cs) }

  pub rates_then : Then (rates ++ relations) rates relations
  rates_then = record { parts = refl }

  pub relations_then : {rs : List Relation} → rs ≡ g.relations → Then relations (encodes (map relation rs)) []
  relations_then {rs} e =
      record { parts = ap (λ (l : List Relation). encodes (map relation l)) (sym e) ∙ sym (append-nil (encodes (map relation rs))) }

  pub file_long : length (bytes g) ≡ length g.tasks * 18 + length g.channels * 11 + length (rates_from 0 g.channels) * 6 + length g.relations * 15
  unfolding be join
  file_long =
      omega (
        arith,
        ap length parts,
        length-append (encodes (map task g.tasks)) behind,
        length-append (encodes (map head g.channels)) (rates ++ relations),
        length-append rates relations,
        row_bytes task 18 (λ x. refl) g.tasks,
        row_bytes head 11 (λ x. refl) g.channels,
        links_bytes 0 g.channels,
        row_bytes relation 15 (λ x. refl) g.relations,
      )
