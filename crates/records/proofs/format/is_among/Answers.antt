use Rattle.grammar.proofs.Basics.{◌≡◌, ◌∙◌, sym, true, false, Bool, List, ℕ, ◌<◌, ◌≤◌, ◌+◌, add-one, arith}
use Rattle.grammar.proofs.Basics.{length, get_or, take}
use Rattle.job.specs.declared.JobRecord.{JobRecord}
use Rattle.job.specs.Format.{same, has, no_record}
use Rattle.job.proofs.Records.{records_counted}
use Rattle.job.proofs.Earlier.{none_at_first, none_so_far, has_at}
use Rattle.records.proofs.format.is_among.Goals as goal

module _ (r : JobRecord) (rs : List JobRecord) (n i : ℕ) (within : n ≤ length rs) where
  found : (ok : Bool) → i < n → ok ≡ same (get_or rs i no_record) r → ok ≡ true → true ≡ has (take n rs) r
  found ok h e t = sym (has_at r rs n i h (omega arith) (sym e ∙ t))

  module _ (inv : has (take i rs) r ≡ false) where
    other : (ok : Bool) → i < n → ok ≡ same (get_or rs i no_record) r → ok ≡ false
        → has (take (i + 1) rs) r ≡ false
    other ok h e f = let l : i < length rs = omega arith in rw add-one (none_so_far r rs i l inv (sym e ∙ f))

    none : i ≤ n → n ≤ i → false ≡ has (take n rs) r
    none l h = let e : i ≡ n = omega arith in sym (rw e at inv)

pub loop-i-init : goal.loop-i-init
loop-i-init c = none_at_first _

pub alike-requires : goal.alike-requires
alike-requires c = record { within = omega (arith, records_counted c.args.job.now) }

pub returns-then-alike : goal.returns-then-alike
returns-then-alike c = record { says = search found }

pub loop-i-preserved : goal.loop-i-preserved
loop-i-preserved c = search other

pub returns : goal.returns
returns c = record { says = search none }
