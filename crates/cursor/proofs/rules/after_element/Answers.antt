-- `rules::after_element`: the byte after the blanks decides what stands there. Assumes nothing.
use Rattle.cursor.proofs.AfterLaws.{sign_stands, alternative_after, comment_after, rule_after, element_after}
use Rattle.cursor.proofs.rules.after_element.Goals as goal

pub bounds-text-sign : goal.bounds-text-sign
bounds-text-sign c = search sign_stands

pub returns-in-47 : goal.returns-in-47
returns-in-47 c = record { read = search alternative_after }

pub returns-in-59 : goal.returns-in-59
returns-in-59 c = record { read = search comment_after }

pub returns-in-13 : goal.returns-in-13
returns-in-13 c = record { read = search rule_after }

pub returns-in_default : goal.returns-in_default
returns-in_default c = record { read = search element_after }
