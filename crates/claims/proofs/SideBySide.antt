-- Two runs side by side, before a call: the same records, the same lengths lent, and the same first part if that is
-- known. A refused call is alike in both. Assumes nothing.
use Rattle.grammar.proofs.Basics.{◌≡◌, refl, ◌∙◌, sym, ap, true, false, Bool, ◌||◌, List, ℕ, arith, ne_eqb}
use Rattle.job.specs.Records.{Checked}
use Rattle.job.specs.Accepted.{Accepted}
use Rattle.job.specs.Order.{SameRecords}
use Rattle.machine.specs.Table.{Lent}
use Rattle.forms.specs.Operations.{explain_check_lem}
use Rattle.claims.specs.Call.{Kind, bytes, bits, Call, start, advance, ask, explain, verdicts, count, Answer}
use Rattle.claims.specs.Call.{started, advanced, asked, explained, judged, counted}
use Rattle.claims.specs.Alike.{SameCall, same_start, same_advance, same_ask, same_explain, same_verdicts}
use Rattle.claims.specs.Alike.{same_count, SameLengths, SameFirst, AnswerAlike, CallAlike, own_written, settles}
use Rattle.claims.specs.Counts.{Counting, after}
use Rattle.claims.proofs.CallChecks.{call_check_lem, explain_number}
use Rattle.claims.proofs.EitherTable.{first_part}
use Rattle.claims.proofs.Outcomes.{refusal, refused}

-- the same first part, as an equation
pub same_first : (k : Kind) (m n : Lent) → first_part k m ≡ first_part k n → SameFirst k m n
same_first k m n p = record { table = ap (λ l. l.table) p; reasons = ap (λ l. l.reasons) p }

pub first_same : (k : Kind) (m n : Lent) → SameFirst k m n → first_part k m ≡ first_part k n
first_same k m n s = λ i. record { table = s.table i; reasons = s.reasons i }

pub record SideBySide (k : Kind) (a b : List ℕ) (m n : Lent) (known : Bool) : Type 0 where
  pub records : SameRecords a b
  pub ok : Accepted false a
  pub long : SameLengths m n
  pub alike : known ≡ true → SameFirst k m n

-- what is known after a call that settles nothing was known before
pub still_known : (known settled : Bool) → settled ≡ false → (known || settled) ≡ true → known ≡ true
still_known true settled e h = refl
still_known false settled e h = sym e ∙ h

alike_itself : (x : Answer) → AnswerAlike x x
alike_itself (started a) = refl
alike_itself (advanced a) = tt
alike_itself (asked a) = tt
alike_itself (explained a) = refl
alike_itself (judged a) = refl
alike_itself (counted a) = tt

same_refusal : (k : Kind) (x : Checked) {c d : Call k} → SameCall k c d → refusal k x c ≡ refusal k x d
unfolding refusal
same_refusal k x same_start = refl
same_refusal k x (same_advance n) = refl
same_refusal k x (same_ask form) = refl
same_refusal bytes x (same_explain form out other e) = refl
same_refusal bytes x (same_verdicts codes other e) = refl
same_refusal bits x same_count = refl

-- a refused call writes nothing, settles nothing and leaves the counting as it is
pub call_refused :
    (t : Kind) (job : List ℕ) (m : Lent) (c : Call t) → Accepted false job → ((call_check_lem t job m c).number ≡ 0 → ⊥) →
    let x = refusal t (call_check_lem t job m c) c in
    (own_written x ≡ 0) × (settles x ≡ false) × ((k : Counting) → after t k c x ≡ k)
unfolding call_check_lem refusal
call_refused t job m start ok r = let z = ne_eqb _ 0 r in (refl, z, λ k. rw z)
call_refused t job m (advance n) ok r = let z = ne_eqb _ 0 r in (refl, refl, λ k. rw z)
call_refused t job m (ask form) ok r = (refl, refl, λ k. refl)
call_refused bytes job m (explain form out) ok r =
    let number = explain_number job m form ok in
    let z = ne_eqb _ 0 r in
    let t = ne_eqb (explain_check_lem job m form).number 13 (λ e. omega arith) in
    (refl, rw (z, t), λ k. rw (z, t))
call_refused bytes job m (verdicts codes) ok r = let z = ne_eqb _ 0 r in (rw z, search, λ k. search z)
call_refused bits job m count ok r = (refl, refl, λ k. refl)

module _ (t : Kind) (a b : List ℕ) (m n : Lent) (known : Bool) (runs : SideBySide t a b m n known) where
  pub refused_alike : {c d : Call t} → SameCall t c d → ((call_check_lem t a m c).number ≡ 0 → ⊥) →
      CallAlike t known (refused t (call_check_lem t a m c) m c) (refused t (call_check_lem t a m c) n d)
  refused_alike {c} same r =
      let (unwritten, unsettled, uncounted) = call_refused t a m c runs.ok r in
      rw (← same_refusal t (call_check_lem t a m c) same)
      (record {
        number = refl;
        place = refl;
        always = alike_itself (refusal t (call_check_lem t a m c) c);
        written = rw unwritten;
        answer = λ k. refl;
        lent = λ k. runs.alike (still_known known (settles (refusal t (call_check_lem t a m c) c)) unsettled k);
      })
