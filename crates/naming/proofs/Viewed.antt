-- What two equal texts with names have in common. Assumes nothing.
use Rattle.grammar.proofs.Basics.{◌≡◌, ap}
use Rattle.naming.specs.Named.{Named}

pub same_text : {s t : Named} → s ≡ t → s.text ≡ t.text
same_text e = ap (λ (t : Named). t.text) e

pub same_names : {s t : Named} → s ≡ t → s.names ≡ t.names
same_names e = ap (λ (t : Named). t.names) e
