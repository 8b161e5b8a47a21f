-- What 18 and 7 count: each name, letter, tail, character and rule once. Assumes nothing.
use Rattle.grammar.proofs.Basics.{List}
use Rattle.abnf.specs.Text.{Line}
use Rattle.abnf_jobs.specs.Bodies.{bodies_of}
use Rattle.abnf_jobs.specs.Characters.{used_in}
use Rattle.abnf_jobs.specs.Theorems.Counts.{CharactersOnce, CountedOnce}
use Rattle.abnf_jobs.proofs.DistinctRules.{rules_once}
use Rattle.abnf_jobs.proofs.UsedCharacters.{used_distinct, listed_is_used}
use Rattle.abnf_jobs.proofs.VariablesOnce.{variables_once}

characters_once : (lines : List Line) → CharactersOnce lines
characters_once lines =
    record { once = used_distinct (used_in (bodies_of lines)) 256; each = listed_is_used lines }

pub each_once : CountedOnce
each_once lines =
    record { variables = variables_once lines; characters = characters_once lines; rules = rules_once lines }
