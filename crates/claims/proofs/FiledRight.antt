-- What a certificate certifies is right: the certified lists are exactly the smallest set, the productive and the
-- reachable symbols, so each fact's test over them decides the fact. Assumes nothing.
use Rattle.grammar.proofs.Basics.{◌≡◌, refl, ◌∙◌, sym, subst, ◌↔◌, Iff·symm, Iff·trans, true, false, Bool, not}
use Rattle.grammar.proofs.Basics.{false≢true, List, ◌∷◌, [], ℕ, ◌<◌, length, get_or, eqb-true, and_left, and_right}
use Rattle.grammar.proofs.Basics.{and_split, refuted, decided}
use mathlib.Core.Bool.{beq}
use Rattle.grammar.specs.Rule.{Among}
use Rattle.grammar.specs.Automaton.{Holds}
use Rattle.grammar.specs.Useful.{Productive, InContext}
use Rattle.grammar.specs.Growing.{Growing}
use Rattle.grammar.specs.Theorems.Examples.{TransitionsOf}
use Rattle.grammar.proofs.Paths.{path_grows}
use Rattle.grammar.proofs.PreStar.{path_derives, derives_path}
use Rattle.grammar.proofs.CertificateTests.{every, every_below_member, has, has_exact, has_symbol, has_symbol_exact}
use Rattle.grammar.proofs.CertificateClosure.{finishes, finishes_path, path_finishes}
use Rattle.grammar.proofs.CertificateSymbols.{generates}
use Rattle.grammar.proofs.Certificate.{closure_exact, closure_count, closure_meetings}
use Rattle.grammar.proofs.CertificateVerdicts.{useful, productive_exact, in_context_exact, growing, not_growing}
use Rattle.job.specs.Accepted.{Accepted}
use Rattle.job.specs.Format.{records_of}
use Rattle.job.specs.Check.{job_check, accepted}
use Rattle.job.specs.Job.{Job, job_of}
use Rattle.job.specs.Theorems.InRange.{InRange}
use Rattle.job.proofs.Accepted.{check_accepts_lem}
use Rattle.job.proofs.AcceptedFacts.{in_range, initial_below}
use Rattle.job.proofs.GivenTriples.{given_triples, given_listed}
use Rattle.machine.specs.Smallest.{Smallest}
use Rattle.machine.proofs.Tables.RuleRanges.{pairs_in_range}
use Rattle.forms.specs.Acceptance.{DerivesGiven}
use Rattle.verdicts.specs.Verdicts.{is_named_lem}
use Rattle.verdicts.specs.Meaning.{CodeIs}
use Rattle.claims.specs.Filed.{Fact, Filed, Says, Right, AllRight, AllFiledRight}
use Rattle.claims.proofs.FiledTests.{Growth, cycle, ranks, unsaid, Certificate, shows, code_by}
use Rattle.claims.proofs.FiledTests.{fact_certified, passes, closure_test, symbols_test, certifies}

beq_equal : (a b : Bool) → beq a b ≡ true → a ≡ b
beq_equal true true e = refl
beq_equal true false e = sym e
beq_equal false true e = e
beq_equal false false e = refl

-- an answer that agrees with a test says what the test decides
says : {P : Type 0} {b : Bool} (answer : Bool) → (b ≡ true) ↔ P → beq b answer ≡ true → Says answer P
says {b = b} true exact e = exact.0 (beq_equal b true e)
says {b = b} false exact e = refuted exact (beq_equal b false e)

passes_accepted : (needed : Bool) (job : List ℕ) → passes needed job ≡ true → job_check needed job ≡ accepted
unfolding passes
passes_accepted needed job e =
    let (number, place) = simp decided at e in
    λ i. record { number = number i; place = place i }

module _
    (needed : Bool) (job : List ℕ) (c : Certificate)
    (ok : Accepted needed job)
    (closed : closure_test job c ≡ true)
    (symbols : symbols_test job c ≡ true)
  where
    abbrev J : Job
    J = job_of job

    smallest_exact : (q X r : ℕ) → TransitionsOf c.transitions q X r ↔ Smallest J q X r
    smallest_exact =
        closure_exact J.rules (Holds J.given) (given_triples (records_of job)) J.states (given_listed job)
        c.transitions closed

    range : InRange J
    range = in_range ok

    -- a form that leads to a final state derives a string of the given automaton, by pre*
    finishes_derives : needed ≡ true → (form : List ℕ) →
        (finishes c.transitions J.final form J.initial ≡ true) ↔ DerivesGiven J form
    finishes_derives needs-I form = (
      λ e.
          let (r, p, f) = finishes_path c.transitions J.final form J.initial e in
          let (β, d, g) = path_derives (path_grows (λ q X r. (smallest_exact q X r).0) p) in
          (β, r, d, g, f),
      λ derives.
          let (β, r, d, g, f) = derives in
          let p =
          derives_path (λ q X r d. (range.given_from q X r d, range.given_to q X r d)) (initial_below ok needs-I) d g
          in
          path_finishes c.transitions J.final (path_grows (λ q X r. (smallest_exact q X r).1) p) f,
    )

    productive_listed : (X : ℕ) → (generates c.generating X ≡ true) ↔ Productive (Among J.rules) X
    productive_listed = productive_exact J.rules J.start c.generating c.reached symbols

    in_context_listed : (X : ℕ) → (has_symbol c.reached X ≡ true) ↔ InContext (Among J.rules) J.start X
    in_context_listed = in_context_exact J.rules J.start c.generating c.reached symbols

    code_right : (X : ℕ) (n g r : Bool) → is_named_lem J.rules J.start X ≡ n → generates c.generating X ≡ g →
        has_symbol c.reached X ≡ r → CodeIs J.rules J.start X (code_by n g r)
    code_right X false g r named generating reached = CodeIs.unnamed named
    code_right X true false r named generating reached =
        CodeIs.unproductive named (refuted (productive_listed X) generating)
    code_right X true true false named generating reached =
        CodeIs.out_of_context named ((productive_listed X).0 generating) (refuted (in_context_listed X) reached)
    code_right X true true true named generating reached =
        CodeIs.useful_symbol named ((productive_listed X).0 generating) ((in_context_listed X).0 reached)

    growing_right : (growth : Growth) (answer : Bool) →
        shows (useful c.generating c.reached) J.rules growth answer ≡ true →
        Says answer (Growing (Among J.rules) J.start)
    growing_right (cycle A X back Y down) true e =
        growing J.rules J.start c.generating c.reached symbols A X back Y down e
    growing_right (cycle A X back Y down) false e = absurd (false≢true e)
    growing_right (ranks full l) true e = absurd (false≢true e)
    growing_right (ranks full l) false e =
        not_growing J.rules J.start c.generating c.reached symbols full (λ X. get_or l X 0) e
    growing_right unsaid answer e = absurd (false≢true e)

    -- each fact that the certificate shows is right
    fact_right : (fact : Fact) → fact_certified needed J c fact ≡ true → Right J fact
    fact_right (Fact.states n) e = eqb-true J.states n e
    fact_right (Fact.examined n) e =
        rw (← eqb-true (length c.transitions) n e)
        (closure_count J.rules (Holds J.given) (given_triples (records_of job)) J.states (given_listed job)
        c.transitions closed)
    fact_right (Fact.joins n) e = λ test decides.
        closure_meetings J.rules (Holds J.given) (given_triples (records_of job)) J.states (given_listed job)
        c.transitions closed (λ X. X < 64) (pairs_in_range J.rules range.rules) test decides
        ∙ eqb-true _ n e
    fact_right (Fact.variables_lead q r As) e = λ A l.
        let same = beq_equal (has c.transitions q A r) (has_symbol As A) (every_below_member _ 32 A e l) in
        Iff·trans (Iff·symm (Iff·trans (rw same at (has_exact c.transitions q A r)) (smallest_exact q A r)))
        (has_symbol_exact As A)
    fact_right (Fact.accepts_form form answer) e =
        let (needs-I, agrees) = simp and_split at e in
        says answer (finishes_derives needs-I form) agrees
    fact_right (Fact.is_empty answer) e = says (not answer) (productive_listed J.start) e
    fact_right (Fact.is_growing answer) e = growing_right c.growth answer e
    fact_right (Fact.code X n) e =
        subst (CodeIs J.rules J.start X) (eqb-true _ n e) (code_right X _ _ _ refl refl refl)

    facts_right : (facts : List Fact) → every (fact_certified needed J c) facts ≡ true → AllRight J facts
    unfolding AllRight every
    facts_right [] e = tt
    facts_right (fact ∷ facts) e = (fact_right fact (search and_left), facts_right facts (search and_right))

-- a grammar on file with a certificate that certifies it is accepted, and all that is said of it is right
pub also :
    (f : Filed) (fs : List Filed) (c : Certificate) → certifies f c ≡ true → AllFiledRight fs → AllFiledRight (f ∷ fs)
unfolding certifies AllFiledRight
also f fs c e rest =
    let ok = passes_accepted f.needed f.job (search and_left) in (
      ok,
      facts_right f.needed f.job c ((check_accepts_lem f.needed f.job).0 ok) (search (and_left, and_right))
          (search (and_left, and_right)) f.facts (search and_right),
      rest,
    )

pub none : AllFiledRight []
unfolding AllFiledRight
none = tt
