-- The ε transitions of one rule, then of all rules, and what start has written in the end. Assumes nothing.
use Rattle.grammar.proofs.Basics.{◌≡◌, refl, ◌∙◌, sym, ap, true, false, Bool, ◌&&◌, cond, ◌||◌, List, ◌∷◌, []}
use Rattle.grammar.proofs.Basics.{List·Memᴰ·head, List·Memᴰ·tail, ℕ, ◌<◌, ◌≤◌, suc, zero, arith, eqb, ltb, leb, length}
use Rattle.grammar.proofs.Basics.{ne_eqb, eqb-true, eqb-false, ltb-false, ltb-true, le-leb, lt-ltb, le-ltb, cases}
use Rattle.grammar.specs.Rule.{Rule, empty, unit, pair, Among}
use Rattle.grammar.proofs.Meetings.{Test}
use Rattle.job.specs.Job.{Job}
use Rattle.machine.specs.Table.{Lent, table_size, reasons_size, given_reason, reason_of, lesser, when, each}
use Rattle.machine.specs.Start.{empty_reason, started}
use Rattle.machine.specs.Inside.StartParts.{looping_below, looping_all}
use Rattle.machine.proofs.Starts.EmptyRules.{empty_reason_fits}
use Rattle.machine.proofs.Tables.Layouts.{bytes, reasons, laid}
use Rattle.machine.proofs.Starts.StartGiven.{Loops, one_if_lem', with_loops, none_said}
use Rattle.machine.proofs.Starts.StartLoops.{earlier, earlier_none, earlier_associates, looping_written}

earlier_idle : (n k : ℕ) → k ≡ 0 → n ≡ earlier n k
earlier_idle n k e = rw e (sym (earlier_none n))

-- a state more
state_more : (n a s v : ℕ) (e : Bool) →
    earlier (earlier n (when (ltb a s && e) v)) (when (eqb a s && e) v) ≡ earlier n (when (ltb a (suc s) && e) v)
state_more n a s v e =
    cases (ltb a s)
    (λ f.
    let l = ltb-true a s f in
    rw (f, ne_eqb a s (λ z. omega arith), lt-ltb a (suc s) (omega arith)) (earlier_none _))
    (λ f.
    let l = ltb-false a s f in
    cases (eqb a s)
    (λ g. rw (f, g, lt-ltb a (suc s) (omega (arith, eqb-true a s g)), earlier_none))
    (λ g. rw (f, g, le-ltb a (suc s) (omega (arith, eqb-false a s g))) (earlier_none _)))

-- a rule more
rule_more : (p e : Bool) (v n : ℕ) → 1 ≤ v → (1 ≤ n → v ≤ n) →
    earlier (when (p && e) v) (when p n) ≡ when p (lesser (when e v) n)
rule_more false e v n h o = refl
rule_more true false v n h o = refl
rule_more true true v n h o =
    let f = ne_eqb v 0 (λ z. omega arith) in
    cases (eqb n 0) (λ z. rw (f, z)) (λ z. rw (f, z, le-leb v n (o (omega (arith, eqb-false n 0 z)))))

module _ (m : Lent) (long : table_size ≤ length m.table) (long_reasons : reasons_size ≤ length m.reasons) where
  pub looping_below_written : (given : Test) (loop : Loops) (A v s : ℕ) → 1 ≤ v → A < 32 → s ≤ 32 →
      looping_below A v s (with_loops given loop m) ≡ with_loops given
      (λ a Y. earlier (loop a Y) (when (ltb a s && eqb A Y) v)) m
  unfolding looping_below
  looping_below_written given loop A v zero h al sl =
      λ i. with_loops given
      (λ a Y. earlier_idle (loop a Y) (when (ltb a 0 && eqb A Y) v) (rw (le-ltb a 0 (omega arith))) i) m
  looping_below_written given loop A v (suc s) h al sl =
      rw (
        looping_below_written given loop A v s h al (omega arith),
        looping_written m long long_reasons given _ A v s h al (omega arith),
      )
      (λ i. with_loops given (λ a Y. state_more (loop a Y) a s v (eqb A Y) i) m)

  pub looping_all_written : (given : Test) (loop : Loops) (s rank : ℕ) (ρs : List Rule) → s ≤ 32 →
      ((A : ℕ) → Among ρs (empty A) → A < 32) →
      looping_all s rank ρs (with_loops given loop m)
      ≡ with_loops given (λ a Y. earlier (loop a Y) (when (ltb a s) (empty_reason Y rank ρs))) m
  unfolding looping_all empty_reason
  looping_all_written given loop s rank [] sl heads =
      λ i. with_loops given (λ a Y. earlier_idle (loop a Y) _ (none_said (ltb a s)) i) m
  looping_all_written given loop s rank (empty A ∷ ρs) sl heads =
      ap (looping_all s (suc rank) ρs)
      (looping_below_written given loop A _ s (omega arith) (heads A (List·Memᴰ·head refl)) sl)
      ∙ looping_all_written given (λ a Y. earlier (loop a Y) _) s (suc rank) ρs sl (λ B n. heads B (List·Memᴰ·tail n))
      ∙ (λ i. with_loops given
      (λ a Y.
      (earlier_associates (loop a Y) (when (ltb a s && eqb A Y) (reason_of rank 0)) _
      ∙ ap (earlier (loop a Y))
      (rule_more (ltb a s) (eqb A Y) (reason_of rank 0) (empty_reason Y (suc rank) ρs) (omega arith)
      (λ h. omega (arith, (empty_reason_fits Y (suc rank) ρs (empty 0) h).3)))) i)
      m)
  looping_all_written given loop s rank (unit A X ∷ ρs) sl heads =
      looping_all_written given loop s (suc rank) ρs sl (λ B n. heads B (List·Memᴰ·tail n))
  looping_all_written given loop s rank (pair A X Y ∷ ρs) sl heads =
      looping_all_written given loop s (suc rank) ρs sl (λ B n. heads B (List·Memᴰ·tail n))

there_by_tests : (g a b : Bool) (n : ℕ) → cond g 1 (when a (one_if_lem' (when b n))) ≡ when (g || (a && b && leb 1 n)) 1
there_by_tests true a b n = refl
there_by_tests false true true n = refl
there_by_tests false true false n = refl
there_by_tests false false b n = refl

reason_by_tests : (a b : Bool) (n : ℕ) → when a (when b n) ≡ when (a && b) n
reason_by_tests true b n = refl
reason_by_tests false b n = refl

-- in the end: the given transitions and the ε transitions
pub started_written :
    (J : Job) (m : Lent) → with_loops J.given (λ a Y. when (ltb a J.states) (empty_reason Y 0 J.rules)) m
    ≡ started J m
unfolding started with_loops
started_written J m i =
    record {
      table =
          each (laid bytes (λ q X r old. there_by_tests (J.given q X r) (eqb q r) (ltb q J.states)
          (empty_reason X 0 J.rules) i)) 0 m.table;
      reasons =
          each (laid reasons (λ q A r old. cond (J.given q A r) given_reason
          (reason_by_tests (eqb q r) (ltb q J.states) (empty_reason A 0 J.rules) i))) 0 m.reasons;
    }
