-- What single functions of the acceptance test take and give. Assumes nothing.
use Rattle.std.specs.Prelude.{◌≡◌, ℕ, ◌<◌, ◌≤◌, Bool, true, List, length, get_or, drop}
use Rattle.job.specs.Accepted.{Accepted}
use Rattle.job.specs.Job.{job_of}
use Rattle.machine.specs.Table.{done_in}
use Rattle.bit_machine.specs.BitTable.{bit_of, bit_statuses}
use Rattle.forms.specs.Acceptance.{SymbolsFit, can_finish}

-- The job: a form has 0 to 64 symbols, one byte each
pub record FormFits (form : List ℕ) : Type 0 where
  pub short : length form ≤ 64
  pub symbols : SymbolsFit form

-- a word for each position of a form: its ones are the states from which the form from there on leads to a final one
abbrev pub FinishWords : (ℕ → Bool) → List ℕ → List ℕ → List ℕ → Type 0
FinishWords final bits form finish =
    (i q : ℕ) → i ≤ length form → q < 32 →
    bit_of (get_or finish i 0) q ≡ can_finish final (done_in (bit_statuses bits)) (drop i form) q

-- the states that the word of the form's end says are final
abbrev pub final_of : List ℕ → List ℕ → ℕ → Bool
final_of form finish = bit_of (get_or finish (length form) 0)

-- the words of a form are filled by an accepted job's final states, and a state is its initial one
pub record Filled (job bits form finish : List ℕ) (q : ℕ) : Type 0 where
  pub ok : Accepted true job
  pub words : FinishWords (job_of job).final bits form finish
  pub initial : q ≡ (job_of job).initial

-- two tests of transitions agree on a form's symbols
abbrev pub AgreeOn : (ℕ → ℕ → ℕ → Bool) → (ℕ → ℕ → ℕ → Bool) → List ℕ → Type 0
AgreeOn done done' form =
    (i q r : ℕ) → i < length form → q < 32 → r < 32 → done q (get_or form i 0) r ≡ done' q (get_or form i 0) r
