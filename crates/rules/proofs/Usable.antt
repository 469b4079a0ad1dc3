-- A formed graph is one that the rules can be asked of. Assumes nothing.
use Rattle.graph.specs.Model.{Graph}
use Rattle.format.specs.Writer.{Formed}
use Rattle.format.proofs.Ranges.{task_ranged, link_ranged}
use Rattle.rules.specs.Terms.{Usable}

pub usable : (m : Graph) → Formed m → Usable m
usable m F =
    record {
      timed = λ i l. let r = task_ranged m F i l in record { some_deadline = r.some_deadline; constrained = r.deadline; some_work = r.some_worst };
      ends = λ c l.
          let r = link_ranged m F c l in
          record { producer_known = r.producer; consumer_known = r.consumer; some_put = r.production.some_entry; some_take = r.consumption.some_entry };
    }
