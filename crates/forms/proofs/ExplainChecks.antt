-- What the checks of explain make sure of where they refuse nothing. By the checks in turn. Assumes nothing.
use Rattle.grammar.proofs.Basics.{◌≡◌, refl, ◌∙◌, sym, ap, List, ℕ}
use Rattle.job.specs.Records.{Checked}
use Rattle.job.proofs.CallChecks.{both_pass}
use Rattle.machine.specs.Table.{Lent}
use Rattle.machine.proofs.MachineChecks.{Passed, machine_passed}
use Rattle.forms.specs.Operations.{form_check_lem, explain_check_lem, explain_check_by}
use Rattle.forms.specs.Inside.AcceptanceParts.{FormFits}
use Rattle.forms.proofs.FormChecks.{fits_of_check}

pub explain_passed : (job : List ℕ) (m : Lent) (form : List ℕ) (c : Checked) → c ≡ explain_check_lem job m form →
    c.number ≡ 0 → Passed job m × FormFits form
unfolding explain_check_by
explain_passed job m form c checked e =
    let (a, f) = both_pass _ (form_check_lem form) (ap (λ k. k.number) (sym checked) ∙ e) in
    (machine_passed job m _ refl a, fits_of_check form f)
