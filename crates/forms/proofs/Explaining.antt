-- What explain does on a finished table: a pass that only counts, the marks taken back, and a pass that writes. The
-- first pass leaves the listing, and taking its marks back leaves the table, so the second pass starts where the
-- first did. Assumes nothing.
use Rattle.grammar.proofs.Basics.{◌≡◌, refl, ◌∙◌, ap, true, false, Bool, List, map, ℕ, ◌<◌, ◌≤◌, ◌*◌, arith}
use Rattle.grammar.proofs.Basics.{length, take, length-take, lt-ltb, le-ltb}
use Rattle.job.specs.Format.{records_of}
use Rattle.job.specs.Job.{sort_key_lem, sorted_rules_lem, job_of}
use Rattle.job.proofs.Keys.{job_rules}
use Rattle.machine.specs.Table.{Lent, lent_of, table_size, done_at_lem, each}
use Rattle.forms.specs.Acceptance.{route}
use Rattle.forms.specs.Listing.{Listed, unmarked}
use Rattle.forms.specs.Operations.{accepts_on, explain_leaves, listed_for, explain_listed}
use Rattle.forms.specs.Inside.AcceptanceParts.{FormFits}
use Rattle.forms.specs.Inside.ListingParts.{CanListAll, RoomFor, ListingPass, pass_of, pass_over}
use Rattle.job.specs.Inside.Keys.{rules_of_keys}
use Rattle.forms.specs.Inside.ExplainParts.{Explainable, OnRoute}
use Rattle.forms.specs.Theorems.ListingTheorems.{Listable}
use Rattle.forms.proofs.AskAnswers.{initial_state}
use Rattle.forms.proofs.Routes.{route_length, route_done}
use Rattle.forms.proofs.ListingTheorems.{listing_is_right_lem, marks_taken_back_lem}
use Rattle.forms.proofs.RunLaws.{done_bound}

-- the route of the form
abbrev pub route_of : List ℕ → List ℕ → List ℕ → List ℕ
route_of job t form = route (job_of job).final (done_at_lem t) form (job_of job).initial

-- the transitions of an accepted form's route are done, so they can be listed
pub route_listable : {job form : List ℕ} {m : Lent} → Explainable job m → FormFits form →
    accepts_on (job_of job) m.table form ≡ true →
    Listable (job_of job).rules m.reasons m.table (route_of job m.table form)
route_listable {job} {form} {m} able fits accepts =
    record {
      long = able.listable.long;
      grounded = able.listable.grounded;
      none_listed = able.none_listed;
      done = route_done _ m.table form _ (initial_state able.job_accepted) fits.symbols accepts;
    }

-- what the two passes rest on
pub record ReadyToList (job t rs form places keys : List ℕ) : Type 0 where
  pub able : Explainable job (lent_of t rs)
  pub form_fits : FormFits form
  pub on : OnRoute job t form places
  pub rules : rules_of_keys keys ≡ (job_of job).rules

-- the sorted keys of an accepted job hold its rules
pub ready : {job t rs form places keys : List ℕ} →
    (Explainable job (lent_of t rs) × FormFits form) × OnRoute job t form places →
    keys ≡ map sort_key_lem (sorted_rules_lem (records_of job)) →
    ReadyToList job t rs form places keys
ready (both, on) sorted =
    record {
      able = both.0;
      form_fits = both.1;
      on = on;
      rules = job_rules both.0.job_accepted sorted;
    }

module _ {job t rs form places keys : List ℕ} (r : ReadyToList job t rs form places keys) where
  listable : Listable (job_of job).rules rs t (route_of job t form)
  listable = route_listable r.able r.form_fits r.on.accepts

  pub places_enough : length form ≤ length places
  places_enough =
      omega (
        arith,
        length-take (length form) places,
        ap length r.on.along,
        route_length (job_of job).final t form (job_of job).initial,
      )

  -- what is listed
  abbrev listed : Listed
  listed = listed_for (job_of job) (lent_of t rs) form

  -- what a pass over the route asks
  pub may_pass : (write : Bool) (t' out' : List ℕ) → t' ≡ t → RoomFor write (length listed.places) out' →
      CanListAll write (rules_of_keys keys) rs t' (take (length form) places) out'
  unfolding listed_for
  may_pass write t' out' e room =
      rw (e, r.on.along, r.rules) (record { listable = r.able.listable; done = listable.done; room = room })

  -- the first pass
  module _
      (out : List ℕ) {a : ListingPass}
      (first : a ≡ pass_over false (rules_of_keys keys) rs t (take (length form) places) out)
    where
      counted : a ≡ pass_of listed.table (length listed.places) out
      unfolding pass_over listed_for
      counted = rw (r.rules, r.on.along) at first

      -- no more than the table has places
      pub needed_few : a.count ≤ table_size
      unfolding listed_for
      needed_few = omega (arith, ap (λ b. b.count) counted, (listing_is_right_lem listable).at_most, done_bound t)

      pub refuses_13 : length a.out < 8 * a.count →
          explain_leaves (record { number = 13; place = a.count; accepted = false; records = 0 })
          (lent_of a.table rs) a.out
          ≡ explain_listed (job_of job).rules rs listed out
      unfolding explain_listed
      refuses_13 h = rw (counted, lt-ltb (length out) _ (rw counted at h)) refl

      -- the second pass starts where the first did
      module _ (enough : 8 * a.count ≤ length a.out) {t₂ : List ℕ} (back : t₂ ≡ each unmarked 0 a.table) where
        table_again : t₂ ≡ t
        unfolding listed_for
        table_again = back ∙ rw counted (marks_taken_back_lem listable)

        pub may_write : CanListAll true (rules_of_keys keys) rs t₂ (take (length form) places) a.out
        may_write = may_pass true t₂ a.out table_again (λ w. omega (arith, enough, ap (λ b. b.count) counted))

        pub writes : {b : ListingPass} → b ≡ pass_over true (rules_of_keys keys) rs t₂ (take (length form) places) a.out →
            explain_leaves (record { number = 0; place = 0; accepted = true; records = b.count })
            (lent_of b.table rs) b.out
            ≡ explain_listed (job_of job).rules rs listed out
        unfolding explain_listed pass_over listed_for
        writes gives =
            rw (gives, r.rules, r.on.along, table_again, counted)
            (rw (le-ltb (length out) _ (rw counted at enough)) refl)
