-- `literal::characters_of`: the first byte, and the letter after a percent sign, tell the form. Assumes nothing.
use Rattle.grammar.proofs.Basics.{◌≡◌, rules}
use Rattle.cursor.proofs.LiteralLaws.{string_literal, letter_stands, value_literal, prefixed_literal}
use Rattle.cursor.proofs.literal.characters_of.Goals as goal

pub returns-then-text-at-eq34 : goal.returns-then-text-at-eq34
returns-then-text-at-eq34 c =
    let h = string_literal c.args.text.now c.args.at c.args.end c.requires.inside.1 c.requires.literal c.quoted.result
    c.quoted.ensures.characters c.if-text-at-eq34.true in
    record { characters = h.0; ready = h.1 }

pub bounds-text-at-2 : goal.bounds-text-at-2
bounds-text-at-2 c = search letter_stands

pub returns-in-120 : goal.returns-in-120
returns-in-120 c =
    let h = value_literal c.args.text.now c.args.at c.args.end c.requires.inside.1 c.requires.literal
    c.to_lower.result c.to_lower.ensures.lowered c.if-text-at-eq34.false c.in-120.is in
    record { characters = h.0; ready = h.1 }

pub returns-in_default : goal.returns-in_default
returns-in_default c =
    let other : c.to_lower.result ≡ 120 → ⊥ = search rules in
    let h = prefixed_literal c.args.text.now c.args.at c.args.end c.requires.inside.1 c.requires.literal
    c.to_lower.result c.to_lower.ensures.lowered c.if-text-at-eq34.false c.quoted-in_default.result
    c.quoted-in_default.ensures.characters other in
    record { characters = h.0; ready = h.1 }
