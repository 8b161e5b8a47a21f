-- `Finish::by_job`: the word of the form's end is that of the job's final states, and its initial state is one of 32.
-- Assumes nothing.
use Rattle.grammar.proofs.Basics.{◌≡◌, ◌∙◌, refl, sym, List, ℕ, ◌<◌, arith, length, drop-length}
use Rattle.machine.specs.Table.{done_in}
use Rattle.bit_machine.specs.BitTable.{bit_of, bit_statuses}
use Rattle.forms.specs.Acceptance.{can_finish}
use Rattle.forms.specs.Inside.AcceptanceParts.{FinishWords, final_of}
use Rattle.forms.proofs.Agreeing.{finish_agree}
use Rattle.forms.proofs.AskAnswers.{filled, state_below}
use Rattle.asking.proofs.acceptance.Finish.by_job.Goals as goal

-- the words are right by the final states of the form's end
module _ (bits form words : List ℕ) (finals : ℕ) (right : FinishWords (bit_of finals) bits form words) where
  ends : (s : ℕ) → s < 32 → bit_of finals s ≡ final_of form words s
  unfolding can_finish
  ends s l = sym (rw (drop-length form) at (right (length form) s (omega arith) l))

  by_end : FinishWords (final_of form words) bits form words
  by_end i q l below =
      right i q l below
      ∙ finish_agree _ _ ends (done_in (bit_statuses bits)) _ _ (λ j s t h m n. refl) q below

pub returns : goal.returns
returns c =
    record {
      of = (refl, refl);
      filled = filled _ _ _ c.final_word.result c.requires.able.2 c.final_word.ensures.word c.finish_words.ensures.words
          (c.from.ensures ∙ c.field_of.ensures.field);
    }

pub invariant_of-result : goal.invariant_of-result
invariant_of-result c =
    let (long, fit, ok) = c.requires.able in
    let words = c.finish_words.ensures.words in
    record {
      fits = (
        long,
        fit,
        state_below (filled _ _ _ c.final_word.result ok c.final_word.ensures.word words
            (c.from.ensures ∙ c.field_of.ensures.field)),
      );
      right = by_end _ _ _ _ words;
    }
