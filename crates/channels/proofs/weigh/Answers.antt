-- `channels::weigh` meets its contract. Assumes nothing.
use mathlib.Core.Path.{refl, ap₂, ◌∙◌}
use Prim.Native.Nat.{min}
use Rattle.channel.specs.Side.{span}
use Rattle.channel.specs.Channel.{Balanced}
use Rattle.channels.specs.Answers.{Measured}
use Rattle.channels.proofs.Tables.{Known, known}
use Rattle.channels.proofs.Weighing.{measured_of, under_asks, over_asks}
use Rattle.channels.proofs.weigh.Goals as goal
use Rattle.channels.proofs.weigh.Goals.{After-measure}

module _ (c : After-measure) where
  producer : Known c.producer.inside c.args.producer.now
  producer = known c.producer.view_is c.producer.invariant

  consumer : Known c.consumer.inside c.args.consumer.now
  consumer = known c.consumer.view_is c.consumer.invariant

  balanced : Balanced c.args.producer.now c.args.consumer.now
  balanced = c.if-not-balanced.ensures.0 refl

  measured : Measured (span c.args.producer.now) (span c.args.consumer.now) (min c.args.producer.now.period c.args.consumer.now.period) c.measure.result
  measured = measured_of _ c.measure.ensures (cc) (cc) (c.min-least.ensures ∙ ap₂ (λ x y. min x y) producer.period consumer.period)

pub decide-requires : goal.decide-requires
decide-requires c =
    let p = (goal.at.decide-requires c).After-measure in
    under_asks _ _ (producer p).limited (consumer p).limited (balanced p) _ _ (measured p) c.in_ok-length.ensures.ok_part

pub decide-requires-2 : goal.decide-requires-2
decide-requires-2 c =
    let p = (goal.at.decide-requires-2 c).After-measure in
    over_asks _ _ (producer p).limited (consumer p).limited (balanced p) _ _ (measured p) c.in_ok-length.ensures.ok_part
