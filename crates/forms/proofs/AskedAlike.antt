-- A form is asked alike on a bit table and on a byte table that say the same. Assumes nothing.
use Rattle.grammar.proofs.Basics.{◌≡◌, List, ℕ, ◌≤◌, eqb, length, le-ltb, cases, eqb-true}
use Rattle.machine.specs.Table.{table_size}
use Rattle.bit_machine.specs.BitTable.{bits_size}
use Rattle.forms.specs.Operations.{ask_bits_check, ask_bits_check_by, ask_bits_of, ask_bits_by, ask_check_lem, ask_check_by}
use Rattle.forms.specs.Operations.{ask_of, ask_by}
use Rattle.forms.specs.Inside.ExplainParts.{BitsSay}
use Rattle.forms.proofs.FormChecks.{ask_passed}
use Rattle.forms.proofs.AskAnswers.{accepts_alike}

module _ (job bits table form : List ℕ) (long : bits_size ≤ length bits) (long' : table_size ≤ length table) where
  same_check : ask_bits_check job bits form ≡ ask_check_lem job table form
  unfolding ask_bits_check_by ask_check_by
  same_check = rw (le-ltb (length bits) bits_size long, le-ltb (length table) table_size long')

  pub asked_alike : BitsSay bits table → ask_bits_of job bits form ≡ ask_of job table form
  unfolding ask_bits_by ask_by ask_bits_check_by
  asked_alike same =
      cases (eqb (ask_bits_check job bits form).number 0)
      (λ e.
      let p = ask_passed (length bits) bits_size job form (eqb-true _ 0 e) in
      rw (← same_check, e, accepts_alike bits table form p.job_accepted same p.form_fits.symbols))
      (λ e. rw (← same_check, e))
