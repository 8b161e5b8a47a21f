-- Explain on a finished table works on the first part of what is lent alone and keeps the rest; and where the reasons
-- fit, what the table says is what it said. Assumes nothing.
use Rattle.grammar.proofs.Basics.{◌≡◌, refl, ◌∙◌, sym, ap, true, false, Bool, List, ℕ, ◌<◌, ◌≤◌, ltb, length}
use Rattle.grammar.proofs.Basics.{take, cases}
use Rattle.grammar.specs.Rule.{Rule}
use Rattle.job.specs.Job.{Job}
use Rattle.job.specs.Theorems.InRange.{InRange}
use Rattle.machine.specs.Table.{Lent, lent_of, KeepsRest, table_size, reasons_size, statuses, done_at_lem}
use Rattle.machine.specs.Theorems.Reasons.{ReasonsFit}
use Rattle.machine.proofs.Steps.FirstPart.{first}
use Rattle.forms.specs.Acceptance.{SymbolsFit, route}
use Rattle.forms.specs.Listing.{Listed, list_all_lem, records_at}
use Rattle.forms.specs.Operations.{accepts_on, ExplainOutcome, explain_leaves, explain_listed, listed_for}
use Rattle.forms.specs.Operations.{explain_finished_lem}
use Rattle.forms.proofs.Routes.{route_done}
use Rattle.forms.proofs.Runs.{visits_run}
use Rattle.forms.proofs.RunLaws.{status_same}
use Rattle.forms.proofs.Grounding.{grounded_by_reasons}
use Rattle.forms.proofs.ListedPlaces.{Within, listed_length, listed_rest, listed_within}
use Rattle.forms.proofs.FirstListing.{first_listed, can_finish_first, route_in_first, route_within}
use Rattle.forms.proofs.FirstListing.{records_first, list_all_first}
use Rattle.forms.proofs.ExplainCases.{leaves_by, explain_cases}

-- the outcome, with what is lent cut down to parts, and to its first part
abbrev cut_outcome : (List ℕ → List ℕ) → (List ℕ → List ℕ) → ExplainOutcome → ExplainOutcome
cut_outcome T R o =
    record { answer = o.answer; lent = lent_of (T o.lent.table) (R o.lent.reasons); listing = o.listing }

abbrev pub first_outcome : ExplainOutcome → ExplainOutcome
first_outcome = cut_outcome (take table_size) (take reasons_size)

leaves_cut : (T R : List ℕ → List ℕ) (short : Bool) (ρs : List Rule) (reasons : List ℕ) (l : Listed) (out : List ℕ) →
    records_at ρs reasons l.places ≡ records_at ρs (R reasons) l.places →
    cut_outcome T R (leaves_by short ρs reasons l out)
    ≡ leaves_by short ρs (R reasons) (record { table = T l.table; places = l.places }) out
leaves_cut T R true ρs reasons l out e = refl
leaves_cut T R false ρs reasons l out e = rw e

-- a form of symbols, on a job in range
module _ (J : Job) (range : InRange J) (initial : J.initial < 32) (form : List ℕ) (fit : SymbolsFit form) where
  -- the route on a table
  abbrev on : List ℕ → List ℕ
  on t = route J.final (done_at_lem t) form J.initial

  -- an accepted form
  module _ (m : Lent) (e : accepts_on J m.table form ≡ true) where
    accepted_route : Within (on m.table)
    accepted_route = route_within J.final m.table form J.initial initial fit e

    listed_first : first_listed (listed_for J m form) ≡ listed_for J (first m) form
    unfolding listed_for
    listed_first =
        list_all_first J.rules range.rules m.reasons m.table _ accepted_route
        ∙ ap (list_all_lem J.rules _ _) (route_in_first J.final m.table form J.initial initial fit e)

    for_within : Within (listed_for J m form).places
    unfolding listed_for
    for_within = listed_within J.rules range.rules m.reasons m.table _ accepted_route

    for_keeps : KeepsRest table_size m (lent_of (listed_for J m form).table m.reasons)
    unfolding listed_for
    for_keeps =
        record {
          long_table = listed_length J.rules range.rules m.reasons m.table _ accepted_route;
          long_reasons = refl;
          rest_table = listed_rest J.rules range.rules m.reasons m.table _ accepted_route;
          rest_reasons = refl;
        }

    for_says : ReasonsFit J (statuses m.table) m.reasons → table_size ≤ length m.table → (k : ℕ) →
        statuses (listed_for J m form).table k ≡ statuses m.table k
    unfolding listed_for list_all_lem statuses
    for_says reasons long =
        status_same
        (visits_run (grounded_by_reasons J range m reasons) _
        (route_done J.final m.table form J.initial initial fit e) _ long).0

  -- the outcome on a table, by whether the form is accepted
  listed_there : (m : Lent) (out : List ℕ) → accepts_on J m.table form ≡ true →
      explain_finished_lem J m form out ≡ explain_listed J.rules m.reasons (listed_for J m form) out
  unfolding explain_finished_lem
  listed_there m out e = rw e

  none_there : (m : Lent) (out : List ℕ) → accepts_on J m.table form ≡ false →
      explain_finished_lem J m form out
      ≡ explain_leaves (record { number = 0; place = 0; accepted = false; records = 0 }) m out
  unfolding explain_finished_lem
  none_there m out e = rw e

  pub explain_first : (m : Lent) (out : List ℕ) →
      first_outcome (explain_finished_lem J m form out) ≡ explain_finished_lem J (first m) form out
  unfolding explain_listed
  explain_first m out =
      let l : Listed = listed_for J m form in
      let same = can_finish_first J.final m.table form J.initial initial fit in
      cases (accepts_on J m.table form)
      (λ e. ap first_outcome (listed_there m out e)
      ∙ leaves_cut (take table_size) (take reasons_size) (ltb (length out) _) J.rules m.reasons l out
      (records_first J.rules m.reasons l.places (for_within m e))
      ∙ ap (λ k. explain_listed J.rules (first m).reasons k out) (listed_first m e)
      ∙ sym (listed_there (first m) out (sym same ∙ e)))
      (λ e. ap first_outcome (none_there m out e) ∙ sym (none_there (first m) out (sym same ∙ e)))

  pub explain_keeps : (m : Lent) (out : List ℕ) → KeepsRest table_size m (explain_finished_lem J m form out).lent
  explain_keeps m out =
      explain_cases J m form out (λ o. KeepsRest table_size m o.lent) (for_keeps m) (for_keeps m)
      (λ e. record { long_table = refl; long_reasons = refl; rest_table = refl; rest_reasons = refl })

  pub explain_says :
      (m : Lent) (out : List ℕ) → ReasonsFit J (statuses m.table) m.reasons → table_size ≤ length m.table →
      statuses (explain_finished_lem J m form out).lent.table ≡ statuses m.table
  explain_says m out reasons long =
      λ i k. explain_cases J m form out (λ o. statuses o.lent.table k ≡ statuses m.table k)
      (λ e. for_says m e reasons long k) (λ e. for_says m e reasons long k) (λ e. refl) i

  pub explain_reasons : (m : Lent) (out : List ℕ) → (explain_finished_lem J m form out).lent.reasons ≡ m.reasons
  explain_reasons m out =
      explain_cases J m form out (λ o. o.lent.reasons ≡ m.reasons) (λ e. refl) (λ e. refl) (λ e. refl)
