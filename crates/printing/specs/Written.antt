-- The whole outcome of writing an output into a lent buffer. Assumes nothing.
use Rattle.std.specs.Prelude.{ℕ, cond, List, ◌++◌, ltb, length, drop}
use Rattle.printing.specs.declared.Written.{Written}

-- what a call leaves: its answer, and every byte of the buffer
pub record WrittenOutcome : Type 0 where
  pub answer : Written
  pub out : List ℕ

-- Refused calls: an output that does not fit is refused by 13 with the bytes that it needs as the place, and the buffer
-- stays as it was. Else the output is at the front of the buffer, and the bytes after it are as they were
unfoldable pub written_of : List ℕ → List ℕ → WrittenOutcome
written_of text out =
    cond
    (ltb (length out) (length text))
    (record { answer = record { number = 13; place = length text; bytes = 0 }; out = out })
    (record {
      answer = record { number = 0; place = 0; bytes = length text };
      out = text ++ drop (length text) out;
    })
