-- How a graph grows: other tasks, channels or relations, and one rate more. Assumes nothing.
use Rattle.std.specs.Prelude.{cond, List, [], ◌∷◌, ◌++◌, ℕ, zero, suc, eqb, get_or}
use Rattle.graph.specs.declared.Task.{Task}
use Rattle.graph.specs.declared.Relation.{Relation}
use Rattle.graph.specs.Model.{Rates, Link, Graph, bare}

-- a graph with other tasks
abbrev pub with_tasks : Graph → List Task → Graph
with_tasks g ts = record { tasks = ts; channels = g.channels; relations = g.relations }

-- a graph with other channels
abbrev pub with_channels : Graph → List Link → Graph
with_channels g cs = record { tasks = g.tasks; channels = cs; relations = g.relations }

-- a graph with other relations
abbrev pub with_relations : Graph → List Relation → Graph
with_relations g rs = record { tasks = g.tasks; channels = g.channels; relations = rs }

-- the list of a part: 0 is prefix, 1 cycle
abbrev pub part_of : Rates → ℕ → List ℕ
part_of r part = cond (eqb part 0) r.prefix r.cycle

-- the rates of a side: 0 is production, 1 consumption
abbrev pub side_of : Link → ℕ → Rates
side_of c side = cond (eqb side 0) c.production c.consumption

-- the list of a side and a part
abbrev pub list_of : Link → ℕ → ℕ → List ℕ
list_of c side part = part_of (side_of c side) part

-- the same list of a channel by its number
abbrev pub entries : Graph → ℕ → ℕ → ℕ → List ℕ
entries g channel side part = list_of (get_or g.channels channel (bare 0 0 0 0)) side part

-- the rates with one entry more at the end of a part
abbrev pub push_part : Rates → ℕ → ℕ → Rates
push_part r part x =
    cond (eqb part 0)
    (record { prefix = r.prefix ++ (x ∷ []); cycle = r.cycle })
    (record { prefix = r.prefix; cycle = r.cycle ++ (x ∷ []) })

-- a channel with other rates on both sides
abbrev pub with_rates : Link → Rates → Rates → Link
with_rates c production consumption =
    record {
      producer = c.producer;
      consumer = c.consumer;
      initial = c.initial;
      size = c.size;
      production = production;
      consumption = consumption;
    }

-- a channel with one entry more on a side and a part
abbrev pub push : ℕ → ℕ → ℕ → Link → Link
push side part x c =
    cond (eqb side 0)
    (with_rates c (push_part c.production part x) c.consumption)
    (with_rates c c.production (push_part c.consumption part x))

-- The element at i changed by f.
unfoldable pub change : {A : Type 0} → (A → A) → ℕ → List A → List A
change f i [] = []
change f zero (x ∷ xs) = f x ∷ xs
change f (suc i) (x ∷ xs) = x ∷ change f i xs
