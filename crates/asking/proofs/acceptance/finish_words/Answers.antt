use Rattle.grammar.proofs.Basics.{◌≡◌, ◌∙◌, ℕ, ◌<◌, ◌+◌, ◌-◌, arith, length, replicate, length-set}
use Rattle.forms.proofs.StateWords.{words_of_end, words_before}
use Rattle.asking.proofs.acceptance.finish_words.Goals as goal

pub loop-i-init : goal.loop-i-init
loop-i-init c =
    let none = replicate {A = ℕ} 65 0 in
    let room : length c.args.form.now < length none = omega (arith, c.requires.fits.1.short) in
    (length-set none (length c.args.form.now) _, words_of_end _ _ none room c.args.finals)

pub loop-i-preserved : goal.loop-i-preserved
loop-i-preserved c =
    let (room, words) = c.loop-i.invariant in
    let next : c.loop-i.i - 1 + 1 ≡ c.loop-i.i = omega arith in (
      length-set c.loop-i.words _ _ ∙ room,
      words_before _ _ c.loop-i.words (omega (arith, room, c.requires.fits.1.short)) _ (c.loop-i.i - 1) (c.loop-i.i - 1 + 1)
          (omega arith) (omega arith) (rw next words) (rw c.from.ensures at c.leading_to.ensures.word),
    )
