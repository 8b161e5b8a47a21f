-- `explaining::explain_finished`: the bit of the whole form at the initial state says whether it is accepted, and the
-- places then are its route. Assumes nothing.
use Rattle.grammar.proofs.Basics.{◌∙◌, sym}
use Rattle.forms.proofs.ExplainAnswers.{not_accepted_lem, on_route, explained}
use Rattle.explaining.proofs.explain_finished.Goals as goal

pub by_job-finish-requires : goal.by_job-finish-requires
by_job-finish-requires c =
    let p = c.requires in
    record { able = (p.alike.0, p.able.1, p.able.0.job_accepted) }

pub returns-then-not-accepts : goal.returns-then-not-accepts
returns-then-not-accepts c =
    record {
      outcome =
          let p = c.requires in
          not_accepted_lem c.by_job-finish.ensures.filled _ p.alike.1 p.able.1.symbols _ _
          (sym c.accepts.ensures.says ∙ c.if-not-accepts.true);
    }

pub list_accepted-requires : goal.list_accepted-requires
list_accepted-requires c =
    let p = c.requires in
    record {
      able = p.able;
      accepted =
          on_route c.by_job-finish.ensures.filled _ p.alike.1 p.able.1.symbols
          (sym c.accepts.ensures.says ∙ c.if-not-accepts.false) _
          (rw (c.by_job-finish.ensures.of.0, c.by_job-finish.ensures.of.1) at c.route-places.ensures.route);
    }

pub returns : goal.returns
returns c =
    record {
      outcome =
          let p = c.requires in
          explained c.by_job-finish.ensures.filled _ p.alike.1 p.able.1.symbols
          (sym c.accepts.ensures.says ∙ c.if-not-accepts.false) _ _ _ c.list_accepted.ensures.outcome;
    }
