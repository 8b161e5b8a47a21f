-- What start has written after some records and rules: the transitions given so far, and loops with the reasons that
-- they got so far. A T record adds its transition, so all records add those of the job. Assumes nothing.
use Rattle.grammar.proofs.Basics.{◌≡◌, refl, ◌∙◌, sym, ap, ap₂, true, false, Bool, cond, ◌||◌, or-false, or-true}
use Rattle.grammar.proofs.Basics.{or_assoc, List, ◌∷◌, [], List·Memᴰ, List·Memᴰ·head, List·Memᴰ·tail, ℕ, ◌<◌, ◌≤◌}
use Rattle.grammar.proofs.Basics.{arith, eqb, ltb, leb, length, set, eq-eqb, eqb-true, ltb-false, ltb-true, cases}
use Rattle.grammar.proofs.Basics.{not_true_false}
use Rattle.grammar.proofs.Meetings.{Test}
use Rattle.job.specs.declared.JobRecord.{JobRecord}
use Rattle.job.specs.Format.{byte_t, same, has}
use Rattle.job.specs.Written.{cleared}
use Rattle.job.specs.Job.{transition_record}
use Rattle.job.proofs.Members.{same_equal}
use Rattle.machine.specs.Table.{Lent, lent_of, table_size, reasons_size, to_state, reason_state, reason_variable}
use Rattle.machine.specs.Table.{given_reason, when, each}
use Rattle.machine.specs.Inside.StartParts.{TransitionFits, giving, giving_all}
use Rattle.machine.proofs.Tables.Layouts.{Layout, bytes, reasons, laid, laid_cleared, set_laid}

-- the reasons of the loops, by state and variable
abbrev pub Loops : Type 0
Loops = ℕ → ℕ → ℕ

-- the number that stands for a transition: `top` where it is given, and what the reason of its loop makes where it
-- goes from a state to itself
abbrev pub standing : (top : ℕ) (of : ℕ → ℕ) → Test → Loops → ℕ → ℕ → ℕ → ℕ → ℕ
standing top of given loop q X r old = cond (given q X r) top (when (eqb q r) (of (loop q X)))

abbrev pub half : Layout → (top : ℕ) (of : ℕ → ℕ) → Test → Loops → List ℕ → List ℕ
half L top of given loop = each (laid L (standing top of given loop)) 0

-- in the table 1 for each that is there, in the reasons its reason
abbrev pub one_if_lem' : ℕ → ℕ
one_if_lem' n = when (leb 1 n) 1

unfoldable pub with_loops : Test → Loops → Lent → Lent
with_loops given loop m =
    record {
      table = half bytes 1 one_if_lem' given loop m.table;
      reasons = half reasons given_reason (λ n. n) given loop m.reasons;
    }

-- a cleared table: nothing given, no loop
pub none_said : (b : Bool) → when b 0 ≡ 0
none_said true = refl
none_said false = refl

pub cleared_written : (m : Lent) → lent_of (cleared table_size m.table) (cleared reasons_size m.reasons)
    ≡ with_loops (λ q X r. false) (λ q X. 0) m
unfolding with_loops
cleared_written m =
    ap₂ lent_of (laid_cleared bytes _ m.table (λ q X r old. none_said (eqb q r)))
    (laid_cleared reasons _ m.reasons (λ q X r old. none_said (eqb q r)))

-- the given transitions with that of a T record
abbrev pub also : JobRecord → Test → Test
also r given q X s = given q X s || same r (transition_record q X s)

module _ (given : Test) (r : JobRecord) where
  kept : (q X s : ℕ) → same r (transition_record q X s) ≡ false → also r given q X s ≡ given q X s
  kept q X s e = rw e (or-false _)

  elsewhere : (q X s : ℕ) → (q ≡ r.first → X ≡ r.second → s ≡ r.third → ⊥) → also r given q X s ≡ given q X s
  elsewhere q X s d = kept q X s (not_true_false _ (λ e. let p = same_equal r _ e in d (cc) (cc) (cc)))

  here : eqb r.kind byte_t ≡ true → also r given r.first r.second r.third ≡ true
  here e = rw (e, eq-eqb, eq-eqb, eq-eqb) (or-true (given r.first r.second r.third))

  -- in the table and in the reasons alike
  half_given : (L : Layout) (top : ℕ) (of : ℕ → ℕ) (loop : Loops) (l : List ℕ) → L.size ≤ length l →
      eqb r.kind byte_t ≡ true → r.first < 32 → r.second < L.symbols → r.third < 32 →
      set (half L top of given loop l) (L.at r.first r.second r.third) top
      ≡ half L top of (also r given) loop l
  half_given L top of loop l long e ql xl sl =
      set_laid L (standing top of given loop) l r.first r.second r.third long ql xl sl
      (standing top of (also r given) loop) top
      (λ old. rw (here e))
      (λ a Y b old d. rw (elsewhere a Y b d))

module _ (m : Lent) (long : table_size ≤ length m.table) (long_reasons : reasons_size ≤ length m.reasons) where
  pub giving_written : (given : Test) (loop : Loops) (r : JobRecord) → TransitionFits r →
      giving r (with_loops given loop m) ≡ with_loops (also r given) loop m
  unfolding giving with_loops
  giving_written given loop r fits =
      cases (eqb r.kind byte_t)
      (λ e.
      let (ql, xl, sl) = fits (eqb-true r.kind byte_t e) in
      rw e
      (ap₂ lent_of (half_given given r bytes 1 one_if_lem' loop m.table long e ql xl sl)
      (cases (ltb r.second 32)
      (λ f. rw f
      (half_given given r reasons given_reason (λ n. n) loop m.reasons long_reasons e ql
      (ltb-true r.second 32 f) sl))
      (λ f. rw f
      (λ i.
      each (λ k old. cond (leb reasons_size k) old (cond
      (sym (elsewhere given r (reason_state k) (reason_variable k) (to_state k)
      (λ x y z. omega (arith, ltb-false r.second 32 f))) i)
      given_reason (when (eqb (reason_state k) (to_state k)) (loop (reason_state k) (reason_variable k))))) 0
      m.reasons)))))
      (λ e. rw e (λ i. with_loops (λ q X s. sym (kept given r q X s (rw e)) i) loop m))

  -- all records give the transitions of their T records
  pub giving_all_written : (given : Test) (loop : Loops) (rs : List JobRecord) →
      ((r : JobRecord) → List·Memᴰ r rs → TransitionFits r) →
      giving_all rs (with_loops given loop m) ≡ with_loops (λ q X s. given q X s || has rs (transition_record q X s)) loop
      m
  unfolding giving_all has
  giving_all_written given loop [] fits = λ i. with_loops (λ q X s. sym (or-false (given q X s)) i) loop m
  giving_all_written given loop (r ∷ rs) fits =
      ap (giving_all rs) (giving_written given loop r (fits r (List·Memᴰ·head refl)))
      ∙ giving_all_written (also r given) loop rs (λ x n. fits x (List·Memᴰ·tail n))
      ∙ (λ i. with_loops
      (λ q X s. or_assoc (given q X s) (same r (transition_record q X s)) (has rs (transition_record q X s)) i) loop m)
