-- Graph A's figures beside its replies: 12 against 16 where 4 tokens are consumed, and a largest fill of 8. Assumes nothing.
use mathlib.Core.Path.{◌≡◌, refl, subst}
use mathlib.Core.Bool.{true}
use mathlib.Core.Logic.{◌↔◌}
use mathlib.Core.List.{List}
use Prim.Native.Nat.{ℕ, ◌<◌}
use native.Mathlib.Omega.{arith}
use borrow.Author.Tests.{ltb-true}
use lib.Dec.{ltb}
use Rattle.std.specs.Prelude.{Ok}
use Rattle.numbers.specs.Numbers.{sum, from}
use Rattle.numbers.specs.Lists.{all}
use Rattle.numbers.proofs.Lists.{all_yes}
use Rattle.graph.specs.Rates.{list_of, place_in, rate_of}
use Rattle.graph.specs.Model.{Graph, task, link}
use Rattle.format.specs.Growth.{change}
use Rattle.format.specs.Record.{number, split, kind_of, rank}
use Rattle.format.specs.Reader as files
use Rattle.format.proofs.Reading.{read_answers}
use Rattle.channel.specs.Side.{Side, ended}
use Rattle.channel.specs.Channel.{Balanced}
use Rattle.channel.specs.Judge.{Means, lcm, judge}
use Rattle.channel.proofs.Judged.{judge_means}
use Rattle.rules.specs.Terms.{channel}
use Rattle.samples.specs.Samples.{A, a_taking_4}
use Rattle.samples.specs.Figures.{graph_a, sides, LargestFill}

-- a file of bytes that the reader computes to take reads as the graph
reads : (file : List ℕ) (g : Graph) → all (λ b. ltb b 256) file ≡ true → files.read file ≡ files.taken g → files.Reads file g
reads file g b e = subst (files.Answers file) e (read_answers file (all_yes (λ b. b < 256) (λ b. ltb b 256) (λ b. ltb-true b 256) file b))

-- the two files as lists
pub reads_a : files.Reads A (graph_a 3)
unfolding files.read files.loop files.front files.finish files.first_zero files.cycles split number kind_of rank files.ranges files.count files.limit files.add change
reads_a = reads A (graph_a 3) refl refl

pub reads_a_taking_4 : files.Reads a_taking_4 (graph_a 4)
unfolding files.read files.loop files.front files.finish files.first_zero files.cycles split number kind_of rank files.ranges files.count files.limit files.add change
reads_a_taking_4 = reads a_taking_4 (graph_a 4) refl refl

-- balance is that the two sides are equal
pub sides_balance : (p c : Side) → Balanced p c ↔ ((sides p c).0 ≡ (sides p c).1)
sides_balance p c = (λ e. e, λ e. e)

-- 12 against 16
pub twelve_against_sixteen : sides (channel (graph_a 4) 0).producer (channel (graph_a 4) 0).consumer ≡ (12, 16)
unfolding task link sum
twelve_against_sixteen = refl

-- channel 0 of A passes all tests
fine : Means (channel (graph_a 3) 0) (Ok tt)
unfolding task link sum from judge lcm ended rate_of list_of place_in
fine =
    judge_means (channel (graph_a 3) 0)
    (record { some_tick = omega arith; fits = omega arith; some_rate = omega arith })
    (record { some_tick = omega arith; fits = omega arith; some_rate = omega arith })

-- The largest fill of rule Overflow is 8, at job 3.
pub largest_fill : LargestFill (channel (graph_a 3) 0) 8 3
unfolding task link sum ended rate_of list_of place_in
largest_fill = record { enough = fine.4; met = λ size h. omega arith }
