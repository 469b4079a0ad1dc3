-- Two figures of graph A: the sides of its balance, and the largest fill of rule Overflow. Assumes nothing.
use Rattle.std.specs.Prelude.{[], ◌∷◌, ℕ, ◌*◌, ◌<◌, pos, length}
use Rattle.graph.specs.Model.{Graph}
use Rattle.channel.specs.Side.{Side, turn}
use Rattle.channel.specs.Channel.{Channel, Overflows}

-- graph A as lists, with the tokens that are consumed
abbrev pub graph_a : ℕ → Graph
graph_a consumed =
    record {
      tasks =
          record { period = 4; offset = 0; deadline = 4; worst = 1; priority = 1 }
          ∷ record { period = 6; offset = 8; deadline = 6; worst = 2; priority = 2 }
          ∷ [];
      channels =
          record {
            producer = 0;
            consumer = 1;
            initial = 0;
            size = 8;
            production = record { prefix = []; cycle = 2 ∷ [] };
            consumption = record { prefix = []; cycle = consumed ∷ [] };
          }
          ∷ [];
      relations = record { p = 0; q = 1; n = 2; phi = pos 4; d = 3 } ∷ [];
    }

-- the sum of the production cycle × length of the consumption cycle × T_consumer, and the sum of the consumption cycle × length of the production cycle × T_producer
abbrev pub sides : Side → Side → ℕ × ℕ
sides p c = (turn p * length c.cycle * c.period, turn c * length p.cycle * p.period)

-- the channel with another size
abbrev pub sized : Channel → ℕ → Channel
sized ch size = record { producer = ch.producer; consumer = ch.consumer; initial = ch.initial; size = size }

-- The largest fill of rule Overflow is n: with size n no job is broken, and with every smaller size job j is.
pub record LargestFill (ch : Channel) (n j : ℕ) : Type 0 where
  pub enough : (i : ℕ) → ¬ Overflows (sized ch n) i
  pub met : (size : ℕ) → size < n → Overflows (sized ch size) j
