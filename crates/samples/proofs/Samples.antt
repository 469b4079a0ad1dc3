-- The samples have the answers that their table says. Assumes nothing.
use mathlib.Core.Path.{◌≡◌, refl, ap, subst}
use mathlib.Core.Bool.{Bool, true}
use mathlib.Core.List.{List, [], ◌∷◌, map}
use Prim.Native.Nat.{ℕ, ◌<◌}
use borrow.Author.Tests.{ltb-true}
use lib.Dec.{ltb}
use Rattle.numbers.specs.Numbers.{sum, ceil, from}
use Rattle.numbers.specs.Lists.{All, all}
use Rattle.numbers.proofs.Lists.{all_yes}
use Rattle.reply.specs.declared.Numbers.{Numbers}
use Rattle.reply.specs.Reply.{numbered}
use Rattle.graph.specs.Rates.{list_of, place_in, rate_of}
use Rattle.graph.specs.Model.{task, link, relation}
use Rattle.format.specs.Growth.{change}
use Rattle.format.specs.Record.{number, split, kind_of, rank}
use Rattle.format.specs.Reader as files
use Rattle.machine.specs.Machine.{demand}
use Rattle.channel.specs.Side.{ended}
use Rattle.channel.specs.Judge.{lcm, judge}
use Rattle.rules.specs.Terms.{response}
use Rattle.rules.specs.Rules.{load}
use Rattle.rules.specs.Check.{holds, seen, first, found, listed}
use Rattle.rules.specs.Files.{FileAnswers, judged_reply, judged_report}
use Rattle.rules.proofs.Files.{file_answers}
use Rattle.samples.specs.Samples.{Sample, A, starred, further, samples, Right}

abbrev Outcome : Type 0
Outcome = Bool × Numbers × List ℕ

-- what is computed of a sample, and what the table says
computed : Sample → Outcome
computed s = (
  all (λ b. ltb b 256) s.file,
  numbered (judged_reply (files.read s.file) s.room),
  judged_report (files.read s.file) s.room,
)

said : Sample → Outcome
said s = (true, s.numbers, s.figures)

agree : map computed samples ≡ map said samples
unfolding computed said samples starred further task link relation found first listed response holds seen load demand sum ceil from judge lcm ended rate_of list_of place_in files.read files.loop files.front files.finish files.first_zero files.cycles split number kind_of rank files.ranges files.count files.limit files.add change
agree = refl

right : (s : Sample) → computed s ≡ said s → Right s
unfolding computed said
right s e =
    let bytes : files.Bytes s.file = all_yes (λ b. b < 256) (λ b. ltb b 256) (λ b. ltb-true b 256) s.file (ap (λ (o : Outcome). o.0) e) in
    record {
      reply = judged_reply (files.read s.file) s.room;
      numbers = ap (λ (o : Outcome). o.1) e;
      answers = subst (FileAnswers s.file s.room (judged_reply (files.read s.file) s.room)) (ap (λ (o : Outcome). o.2) e) (file_answers s.file bytes s.room);
    }

all_right : (l : List Sample) → map computed l ≡ map said l → All Right l
all_right [] e = tt
all_right (s ∷ l) e = (right s (cc), all_right l (cc))

-- one statement over the one table
pub samples_right : All Right samples
samples_right = all_right samples agree

-- The load of A: 250,000 and 333,333, each rounded down. No file reaches reply 12, so the rule is held by this figure.
load_of_a : load (files.graph_of (files.read A)) ≡ 583333
unfolding load sum task files.read files.loop files.front files.finish files.first_zero files.cycles split number kind_of rank files.ranges files.count files.limit files.add change
load_of_a = refl
