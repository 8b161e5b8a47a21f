-- A started table, place by place and reason by reason: the given and the ε transitions are pending, nothing is done.
-- So it has the invariant of a growing table, and its done count is 0. Assumes nothing.
use Rattle.grammar.proofs.Basics.{◌≡◌, ◌∙◌, sym, ⊎_elim, true, false, Bool, ◌&&◌, cond, ◌||◌, not, ℕ, ◌<◌, ◌≤◌, arith}
use Rattle.grammar.proofs.Basics.{eqb, ltb, length, get_or, eq-eqb, eqb-true, ltb-true, le-leb, lt-ltb, leb-true}
use Rattle.grammar.proofs.Basics.{not-false, cases, and_left, and_right, or_split, or_left, or_right, true_and_false}
use Rattle.grammar.specs.Rule.{empty}
use Rattle.grammar.specs.Automaton.{Holds}
use Rattle.grammar.specs.Closure.{Closure}
use Rattle.grammar.proofs.Counting.{count_none}
use Rattle.job.specs.Job.{Job}
use Rattle.machine.specs.Table.{Lent, KeepsRest, table_size, reasons_size, table_place, reason_place_lem, Status, Statuses}
use Rattle.machine.specs.Table.{is_absent_at, is_done_at, done_in, statuses, given_reason, when, done_count_lem}
use Rattle.machine.specs.Start.{empty_reason, is_empty_at, started}
use Rattle.job.specs.Theorems.InRange.{InRange}
use Rattle.machine.proofs.Tables.Places.{by_parts}
use Rattle.machine.proofs.Tables.Each.{changed_keeps_rest}
use Rattle.machine.proofs.Tables.Layouts.{bytes, reasons, laid_at}
use Rattle.machine.proofs.Starts.EmptyRules.{among_reason, reason_among}
use Rattle.machine.proofs.Growing.Invariant.{Grown, There}

module _ (J : Job) (m : Lent) where
  pub started_keeps_rest : KeepsRest table_size m (started J m)
  unfolding started
  started_keeps_rest = changed_keeps_rest table_size _ _ m

  pub started_length : length (started J m).table ≡ length m.table
  started_length = started_keeps_rest.long_table

  pub started_length_reasons : length (started J m).reasons ≡ length m.reasons
  started_length_reasons = started_keeps_rest.long_reasons

  pub started_reason : (q A r : ℕ) → reasons_size ≤ length m.reasons → q < 32 → A < 32 → r < 32 →
      get_or (started J m).reasons (reason_place_lem q A r) 0
      ≡ cond (J.given q A r) given_reason (when (eqb q r && ltb q J.states) (empty_reason A 0 J.rules))
  unfolding started
  started_reason =
      laid_at reasons
      (λ q A r old. cond (J.given q A r) given_reason
      (when (eqb q r && ltb q J.states) (empty_reason A 0 J.rules))) m.reasons

module _ (J : Job) (m : Lent) (long : table_size ≤ length m.table) where
  abbrev is_there : ℕ → ℕ → ℕ → Bool
  is_there q X r = J.given q X r || is_empty_at J q X r

  -- what a started table says
  abbrev shown : Statuses
  shown = statuses (started J m).table

  module _ (q X r : ℕ) (ql : q < 32) (xl : X < 64) (rl : r < 32) where
    started_says : shown (table_place q X r) ≡ cond (is_there q X r) Status.pending Status.absent
    unfolding started statuses
    started_says =
        rw (laid_at bytes (λ q X r old. cond (is_there q X r) 1 0) m.table q X r long ql xl rl)
        (cases (is_there q X r) (λ e. rw e) (λ e. rw e))

    pub started_absent : is_absent_at shown (table_place q X r) ≡ not (is_there q X r)
    started_absent = rw started_says (cases (is_there q X r) (λ e. rw e) (λ e. rw e))

    -- at the start a transition is there if it is given or made by an E rule
    pub started_there : There shown q X r → is_there q X r ≡ true
    started_there e = not-false _ (sym started_absent ∙ e)

    there_started : is_there q X r ≡ true → There shown q X r
    there_started e = started_absent ∙ rw e

    not_done : is_done_at shown (table_place q X r) ≡ false
    not_done = rw started_says (cases (is_there q X r) (λ e. rw e) (λ e. rw e))

    pub not_done_at : {P : Type 0} → done_in shown q X r ≡ true → P
    unfolding done_in
    not_done_at e = true_and_false e not_done

  pub started_not_done : (p : ℕ) → p < table_size → is_done_at shown p ≡ false
  started_not_done = by_parts (λ p. is_done_at shown p ≡ false) not_done

  pub started_done_count : done_count_lem shown ≡ 0
  unfolding done_count_lem
  started_done_count = count_none (is_done_at shown) table_size started_not_done

  -- an ε transition is one of an E rule, at a state
  pub empty_at : (q X r : ℕ) → is_empty_at J q X r ≡ true → (q ≡ r) × (q < J.states) × (1 ≤ empty_reason X 0 J.rules)
  empty_at q X r e =
      let state = eqb q r && ltb q J.states in
      let both = and_left state _ e in
      (eqb-true _ _ (and_left _ _ both), ltb-true _ _ (and_right (eqb q r) _ both), leb-true _ _ (and_right state _ e))

  pub started_grown : InRange J → Grown J.rules (Holds J.given) J.states shown
  started_grown range =
      record {
        has_given = λ q X r ql xl rl d. there_started q X r ql xl rl (or_left _ _ d);
        has_empty = λ A q member ql l. there_started q A q ql (omega (arith, range.rules (empty A) member)) ql
            (or_right (J.given q A q) _ (rw (eq-eqb, lt-ltb) (le-leb _ _ (among_reason A 0 J.rules member))));
        has_unit = λ A X q r member ql rl. not_done_at q X r ql (range.rules _ member).1 rl;
        has_pair = λ A X Y q n r member ql nl rl e. not_done_at q X n ql (range.rules _ member).1 nl e;
        sound = λ q X r ql xl rl e. ⊎_elim
            (λ d. Closure.given d)
            (λ f.
            let a = empty_at q X r f in
            rw (sym a.0) (Closure.by_empty (reason_among X J.rules a.2) a.1))
            (or_split _ _ (started_there q X r ql xl rl e));
      }
