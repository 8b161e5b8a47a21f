-- `show::shown` gives the bytes of the part, which stands in the job. Assumes nothing.
use Rattle.grammar.proofs.Basics.{◌≡◌, List, ℕ, ◌≤◌, ◌+◌, ◌-◌, arith, length, take, drop}
use Rattle.job.specs.declared.Part.{Part}
use Rattle.job.specs.Show.{shown_part_lem, shown_of}
use Rattle.job.proofs.RefusedPlace.{part_within}
use Rattle.checks.proofs.show.shown.Goals as goal

module _ (p : Part) (job : List ℕ) (is : p ≡ shown_part_lem job) where
  stands : p.offset + p.length ≤ length job
  stands = rw is (part_within job)

  bytes : take (p.offset + p.length - p.offset) (drop p.offset job) ≡ shown_of job
  unfolding shown_of
  bytes =
      let long : p.offset + p.length - p.offset ≡ p.length = omega arith in
      rw (long, is)

pub overflow_add-end : goal.overflow_add-end
overflow_add-end c = omega (arith, stands c.shown_part-part.result c.args.job.now c.shown_part-part.ensures.part)

pub slice_bounds-result-end : goal.slice_bounds-result-end
slice_bounds-result-end c =
    omega (arith, stands c.shown_part-part.result c.args.job.now c.shown_part-part.ensures.part)

pub returns : goal.returns
returns c = record { part = c.shown_part-part.ensures.part; bytes = search bytes }
