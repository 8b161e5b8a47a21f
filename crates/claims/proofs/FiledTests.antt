-- A certificate for a grammar on file, and the test that it certifies all that is said of the grammar: each fact has a
-- test over the certificate's lists, which the prover computes. Assumes nothing.
use Rattle.grammar.proofs.Basics.{true, false, Bool, ◌&&◌, not, List, ℕ, eqb, length, get_or}
use mathlib.Core.Bool.{beq}
use Rattle.grammar.specs.Rule.{Rule}
use Rattle.grammar.proofs.CertificateTests.{Triple, every, every_below, has, has_symbol}
use Rattle.grammar.proofs.CertificateClosure.{finishes}
use Rattle.grammar.proofs.CertificateMeetings.{joins}
use Rattle.grammar.proofs.CertificateSymbols.{generates}
use Rattle.grammar.proofs.CertificateCycle.{certified_cycle, certified_rank}
use Rattle.grammar.proofs.Certificate.{closure_certified, symbols_certified}
use Rattle.grammar.proofs.CertificateVerdicts.{useful}
use Rattle.job.specs.Format.{records_of, bad_field_lem}
use Rattle.job.specs.Records.{first_fault, length_check_lem, bytes_check}
use Rattle.job.specs.Check.{check_of, job_check, fault, record_place, count_kind, count_rules, missing}
use Rattle.job.specs.Job.{Job, job_of, job_of_records, sorted_rules_lem, insert, rule_of, field_of, states_of}
use Rattle.usefulness.specs.Sets.{any_in, any_rule}
use Rattle.verdicts.specs.Verdicts.{is_named_lem}
use Rattle.claims.specs.Filed.{Fact, Filed}
use Rattle.job.proofs.GivenTriples.{given_triples}
use Rattle.job.specs.Format as format

-- what shows whether a grammar grows: a pair rule of A with X and Y, the symbols of a way from X back to A and those
-- of one from Y to a terminal; or the variables that lead to a terminal, and the ranks of the symbols from 0 on, 0 for
-- those past the list; or nothing, where no fact asks for it
pub data Growth : Type 0 where
  cycle : (A X : ℕ) (back : List ℕ) (Y : ℕ) (down : List ℕ) → Growth
  ranks : (full ranks : List ℕ) → Growth
  unsaid : Growth

-- the transitions of the smallest set, the variables that generate and the symbols that are reached, each after those
-- that it comes from
pub record Certificate : Type 0 where
  pub transitions : List Triple
  pub generating : List ℕ
  pub reached : List ℕ
  pub growth : Growth

-- the growth shows the answer
abbrev pub shows : (ℕ → Bool) → List Rule → Growth → Bool → Bool
shows u rs (cycle A X back Y down) true = certified_cycle u rs A X back Y down
shows u rs (cycle A X back Y down) false = false
shows u rs (ranks full l) true = false
shows u rs (ranks full l) false = certified_rank u rs full (λ X. get_or l X 0)
shows u rs unsaid answer = false

-- the code of a symbol, by whether it is named, generates and is reached
abbrev pub code_by : (named generating reached : Bool) → ℕ
code_by false g r = 0
code_by true false r = 2
code_by true true false = 3
code_by true true true = 1

-- the certificate shows a fact of a job; a form starts at an initial state, so an I is needed
abbrev pub fact_certified : Bool → Job → Certificate → Fact → Bool
fact_certified needed J c (Fact.states n) = eqb J.states n
fact_certified needed J c (Fact.examined n) = eqb (length c.transitions) n
fact_certified needed J c (Fact.joins n) = eqb (joins 32 c.transitions J.rules) n
fact_certified needed J c (Fact.variables_lead q r As) =
    every_below (λ A. beq (has c.transitions q A r) (has_symbol As A)) 32
fact_certified needed J c (Fact.accepts_form form answer) =
    needed && beq (finishes c.transitions J.final form J.initial) answer
fact_certified needed J c (Fact.is_empty answer) = beq (generates c.generating J.start) (not answer)
fact_certified needed J c (Fact.is_growing answer) =
    shows (useful c.generating c.reached) J.rules c.growth answer
fact_certified needed J c (Fact.code X n) =
    eqb (code_by (is_named_lem J.rules J.start X) (generates c.generating X) (has_symbol c.reached X)) n

-- the checks of the job pass
unfoldable pub passes : Bool → List ℕ → Bool
unfolding check_of bytes_check length_check_lem first_fault records_of fault record_place bad_field_lem format.has count_kind
    count_rules missing
passes needed job = eqb (job_check needed job).number 0 && eqb (job_check needed job).place 0

-- the transitions are the smallest set of the job
abbrev pub closure_test : (job : List ℕ) → Certificate → Bool
closure_test job c =
    closure_certified (job_of job).rules (given_triples (records_of job)) (job_of job).states c.transitions

-- the two lists are the variables that generate and the symbols that are reached
abbrev pub symbols_test : (job : List ℕ) → Certificate → Bool
symbols_test job c = symbols_certified (job_of job).rules (job_of job).start c.generating c.reached

-- and each fact is shown
abbrev pub facts_test : Filed → Certificate → Bool
facts_test f c = every (fact_certified f.needed (job_of f.job) c) f.facts

-- the whole test
unfoldable pub certifies : Filed → Certificate → Bool
unfolding passes job_of job_of_records sorted_rules_lem insert rule_of field_of states_of given_triples
    closure_certified symbols_certified joins finishes certified_cycle certified_rank useful any_in any_rule
certifies f c = passes f.needed f.job && (closure_test f.job c && (symbols_test f.job c && facts_test f c))
