-- The numbers that the C exports write: the fields of each answer in order, yes as 1 and no as 0. Assumes nothing.
use Rattle.std.specs.Prelude.{ℕ, List, [], ◌∷◌}
use Rattle.grammar.specs.Counting.{one_if_lem}
use Rattle.job.specs.declared.Part.{Part}
use Rattle.machine.specs.Answers.{Started}
use Rattle.machine.specs.Answers.{Advanced}
use Rattle.forms.specs.Answers.{Asked}
use Rattle.forms.specs.Answers.{Explained}
use Rattle.verdicts.specs.Answers.{Verdicts}
use Rattle.long_jobs.specs.Operation.{Binarized}
use Rattle.copies.specs.Answers.{Cleaned}
use Rattle.abnf_jobs.specs.Answers.{TextRead}
use Rattle.bit_machine.specs.Answers.{Counted}

abbrev pub start_numbers : Started → List ℕ
start_numbers a = a.number ∷ a.place ∷ a.states ∷ []

abbrev pub advance_numbers : Advanced → List ℕ
advance_numbers a = a.number ∷ a.place ∷ one_if_lem a.finished ∷ a.steps ∷ a.meetings ∷ []

abbrev pub ask_numbers : Asked → List ℕ
ask_numbers a = a.number ∷ a.place ∷ one_if_lem a.accepted ∷ []

abbrev pub explain_numbers : Explained → List ℕ
explain_numbers a = a.number ∷ a.place ∷ one_if_lem a.accepted ∷ a.records ∷ []

abbrev pub verdicts_numbers : Verdicts → List ℕ
verdicts_numbers a = a.number ∷ a.place ∷ one_if_lem a.empty ∷ one_if_lem a.growing ∷ []

-- the offset and the length of the part that showing gives
abbrev pub show_numbers : Part → List ℕ
show_numbers p = p.offset ∷ p.length ∷ []

abbrev pub binarize_numbers : Binarized → List ℕ
binarize_numbers a = a.number ∷ a.place ∷ a.records ∷ []

abbrev pub clean_numbers : Cleaned → List ℕ
clean_numbers a = a.number ∷ a.place ∷ a.records ∷ []

abbrev pub read_numbers : TextRead → List ℕ
read_numbers a = a.number ∷ a.place ∷ a.records ∷ a.characters ∷ []

abbrev pub count_numbers : Counted → List ℕ
count_numbers a = a.number ∷ a.place ∷ a.count ∷ []
