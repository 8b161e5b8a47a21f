-- `is_blank` joins the bytes by or. Assumes nothing.
use Rattle.grammar.proofs.Basics.{◌≡◌, ◌∙◌, sym, rules, eqb-true}
use lib.Bits.{bit_or}
use Rattle.std.specs.List.{fold}
use Rattle.bits.proofs.Joined.{none_joined}
use Rattle.packing.proofs.pack.is_blank.Goals as goal

pub returns : goal.returns
returns c =
    let all : c.fold.result ≡ fold bit_or 0 c.args.part.now = search rules in
    record { blank = λ z i. none_joined c.args.part.now (sym all ∙ eqb-true _ 0 z) i }
