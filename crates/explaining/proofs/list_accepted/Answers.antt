-- `explaining::list_accepted` meets its contract: the pass that counts tells whether the records fit, and the
-- pass that writes starts from the same table and listing. Assumes nothing.
use Rattle.grammar.proofs.Basics.{◌∙◌, refl, false, arith, true_and_false}
use Rattle.forms.proofs.Explaining.{ready, places_enough, may_pass, needed_few, refuses_13, may_write}
use Rattle.forms.proofs.Explaining.{writes}
use Rattle.explaining.proofs.list_accepted.Goals as goal

pub sorted_rules-sorted-requires : goal.sorted_rules-sorted-requires
sorted_rules-sorted-requires c = record { few = c.requires.able.0.job_accepted.few_rules }

pub list_all-needed-requires : goal.list_all-needed-requires
list_all-needed-requires c = let r = ready (c.requires.able, c.requires.accepted)
    (c.as_slice-rules.ensures ∙ c.sorted_rules-sorted.ensures.sorted) in
    record {
      sequence = (r.form_fits.short, places_enough r);
      able = may_pass r false _ _ refl (λ w. true_and_false w refl);
    }

pub overflow_mul-needed : goal.overflow_mul-needed
overflow_mul-needed c =
    record {
      fits = omega (
        arith,
        needed_few (ready (c.requires.able, c.requires.accepted)
            (c.as_slice-rules.ensures ∙ c.sorted_rules-sorted.ensures.sorted)) _
            c.list_all-needed.ensures.listed,
      );
    }

pub returns-then-listing-needed : goal.returns-then-listing-needed
returns-then-listing-needed c =
    record {
      outcome =
          refuses_13 (ready (c.requires.able, c.requires.accepted)
          (c.as_slice-rules.ensures ∙ c.sorted_rules-sorted.ensures.sorted)) _ c.list_all-needed.ensures.listed
          c.if-listing-needed.true;
    }

pub list_all-records-requires : goal.list_all-records-requires
list_all-records-requires c = let r = ready (c.requires.able, c.requires.accepted)
    (c.as_slice-rules.ensures ∙ c.sorted_rules-sorted.ensures.sorted) in record {
      sequence = (r.form_fits.short, places_enough r);
      able = may_write r _ c.list_all-needed.ensures.listed c.if-listing-needed.false c.unmark.ensures.unmarked;
    }

pub returns : goal.returns
returns c =
    record {
      outcome =
          let r = ready (c.requires.able, c.requires.accepted)
          (c.as_slice-rules.ensures ∙ c.sorted_rules-sorted.ensures.sorted) in
          writes r _ c.list_all-needed.ensures.listed c.if-listing-needed.false c.unmark.ensures.unmarked
          c.list_all-records.ensures.listed;
    }
