-- `is_blank` joins the words by or. Assumes nothing.
use Rattle.grammar.proofs.Basics.{◌≡◌, ◌∙◌, sym, rules, eqb-true}
use lib.Bits.{bit_or}
use Rattle.std.specs.List.{fold}
use Rattle.bits.proofs.Joined.{none_joined}
use Rattle.columns.proofs.turn.is_blank.Goals as goal

pub returns : goal.returns
returns c =
    let all : c.fold.result ≡ fold bit_or 0 c.args.words.now = search rules in
    record { blank = λ z i. none_joined c.args.words.now (sym all ∙ eqb-true _ 0 z) i }
