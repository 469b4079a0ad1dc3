-- What a party stands for, and what holds of every one. Assumes nothing.
use Rattle.channel.specs.Side.{Side}
use Rattle.channels.specs.Sides.{Limited}
use Rattle.channels.specs.Tables.{Tabled}
use Rattle.channels.specs.declared.Party.TheInside.{Inside}

-- the side that the rule speaks of
abbrev pub side_of : Inside → Side
side_of p = record { period = p.period; offset = p.offset; window = p.window; prefix = p.prefix.now; cycle = p.cycle.now }

-- a side in range, with its table
pub record Equipped (p : Inside) : Type 0 where
  pub limited : Limited (side_of p)
  pub tabled : Tabled p.prefix.now p.cycle.now p.sums
