-- What kinds and records in memory stand for. Assumes nothing.
use Rattle.std.specs.Prelude.{◌≡◌, ℕ, Result, Ok, Err, None, Some}
use Rattle.format.specs.Record.{Kind, a_task, a_channel, a_rate, a_relation, kind_of, Record, task, channel, rate, relation}
use Rattle.record.specs.declared.Kind.{Kind as Named}
use Rattle.record.specs.declared.Kind.TheVariants.{Task as TaskKind, Channel as ChannelKind, Rate as RateKind, Relation as RelationKind}
use Rattle.record.specs.declared.Test.{Test}
use Rattle.record.specs.declared.Test.TheVariants.{Unknown}
use Rattle.record.specs.declared.Head.{Head}
use Rattle.record.specs.declared.Entry.{Entry}
use Rattle.record.specs.declared.Record.{Record as Read}
use Rattle.record.specs.declared.Record.TheVariants.{Task, Channel, Rate, Relation}

-- the kind that a name stands for
abbrev pub meant : Named → Kind
meant TaskKind = a_task
meant ChannelKind = a_channel
meant RateKind = a_rate
meant RelationKind = a_relation

-- the name of the byte's kind, or the test that fires where it has none
abbrev pub Names : ℕ → Result Named Test → Type 0
Names byte (Ok k) = kind_of byte ≡ Some (meant k)
Names byte (Err t) = (kind_of byte ≡ None) × (t ≡ Unknown)

-- the record of a channel, by the struct of its fields
abbrev pub headed : Head → Record
headed h = channel h.producer h.consumer h.initial h.size

-- the record of a rate, by the struct of its fields
abbrev pub entered : Entry → Record
entered e = rate e.channel e.side e.part e.tokens

-- the record that stands in memory
abbrev pub said : Read → Record
said (Task t) = task t
said (Channel h) = headed h
said (Rate e) = entered e
said (Relation l) = relation l
