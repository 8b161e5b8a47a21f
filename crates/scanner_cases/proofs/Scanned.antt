-- The number of what a scan gives, by the edition that was asked for. Assumes nothing.
use Rattle.grammar.proofs.Basics.{ℕ, List, ◌≡◌, ◌∙◌, ap}
use Rattle.abnf.specs.declared.Edition.{Edition}
use Rattle.abnf.specs.declared.Fault.{Fault}
use Rattle.abnf.specs.Reading.{fault_of}
use Rattle.scanner_cases.specs.Numbers.{fault_number}

pub scanned :
    {n : ℕ} (r : Fault) (e f : Edition) (text : List ℕ) → n ≡ fault_number r → r ≡ fault_of e text → e ≡ f →
    n ≡ fault_number (fault_of f text)
scanned r e f text number fault edition =
    number ∙ (ap fault_number fault ∙ ap (λ d. fault_number (fault_of d text)) edition)
