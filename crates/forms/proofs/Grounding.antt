-- Reasons that fit, as saturation leaves them, lead down: the premises that a reason decodes to are those that it was
-- made of. Assumes nothing.
use Rattle.grammar.proofs.Basics.{◌≡◌, refl, ◌∙◌, ap, ⊎_elim, inl, inr, true, false, List, List·Memᴰ}
use Rattle.grammar.proofs.Basics.{List·Memᴰ·not-nil, List·Memᴰ·cases-cons, List·Memᴰ·eq-of-singleton, ℕ, ◌<◌, ◌≤◌, ◌-◌}
use Rattle.grammar.proofs.Basics.{◌/◌, ◌%◌, arith, leb, length, get_or, eq-eqb, ne_eqb, leb-true, leb-false, cases}
use Rattle.grammar.specs.Rule.{Rule, head, empty}
use Rattle.grammar.specs.Closure.{Closure}
use Rattle.job.specs.Job.{Job}
use Rattle.machine.specs.Table.{Lent, table_size, table_place, from_state, symbol_at, to_state, is_absent_at, byte_status}
use Rattle.machine.specs.Table.{statuses, done_in, done_at_lem, given_reason, reason_of, turn_at_lem}
use Rattle.grammar.proofs.NoRepeat.{member_at}
use Rattle.job.specs.Theorems.InRange.{RuleInRange, InRange}
use Rattle.machine.specs.Smallest.{Smallest, DecidesSmallest}
use Rattle.machine.specs.Theorems.Reasons.{RuleAt, Premise, Reason, ReasonsFit}
use Rattle.machine.proofs.Tables.Statuses.{done_not_absent}
use Rattle.machine.proofs.Tables.Places.{place_of_parts, place_below}
use Rattle.forms.specs.Listing.{reason_at_lem, reason_rule, rule_premises, premises}
use Rattle.forms.specs.Grounded.{DonePlace, ReasonFits, Grounded}
use Rattle.forms.specs.Theorems.ListingTheorems.{EmptyStays, TrueReasons}
use Rattle.forms.proofs.RunLaws.{done_bound}

-- each transition of a terminal in the smallest set is given, as no rule adds one
given_in_smallest : {J : Job} → InRange J → {q X r : ℕ} → 32 ≤ X → Smallest J q X r → J.given q X r ≡ true
given_in_smallest range h (Closure.given g) = g
given_in_smallest range h (Closure.by_empty {A = A} rule l) = absurd (omega (arith, range.rules (empty A) rule))
given_in_smallest range h (Closure.by_unit {A = A} {X = X} rule c) = absurd (omega (arith, range.rules _ rule))
given_in_smallest range h (Closure.by_pair {A = A} {X = X} {Y = Y} rule c k) =
    absurd (omega (arith, range.rules _ rule))

-- a place, pending or done, of a table whose reasons fit
module _ (J : Job) (range : InRange J) (m : Lent) (fit : ReasonsFit J (statuses m.table) m.reasons) (p : ℕ)
    (within : p < table_size) (there : is_absent_at (statuses m.table) p ≡ false) where
  abbrev from : ℕ
  from = from_state p

  abbrev symbol : ℕ
  symbol = symbol_at p

  abbrev to : ℕ
  to = to_state p

  abbrev why : ℕ
  why = reason_at_lem m.reasons p

  abbrev Below : ℕ → Type 0
  Below x = DonePlace m.table x × (turn_at_lem m.reasons x < turn_at_lem m.reasons p)

  -- what is to be shown of it: a reason that fits and is true, with premises that are done and lower
  record Leads : Type 0 where
    fits : ReasonFits J.rules why
    is_given :
        DonePlace m.table p → DecidesSmallest J (done_at_lem m.table) → why ≡ given_reason →
        J.given from symbol to ≡ true
    head_is : (why ≡ given_reason → ⊥) → head (reason_rule J.rules why) ≡ symbol
    stays : (why ≡ given_reason → ⊥) → EmptyStays J.states p (reason_rule J.rules why)
    down : (x : ℕ) → List·Memᴰ x (premises J.rules m.reasons p) → Below x

  -- a given transition has no premises
  given_leads : why ≡ given_reason →
      (DonePlace m.table p → DecidesSmallest J (done_at_lem m.table) → J.given from symbol to ≡ true) → Leads
  unfolding premises
  given_leads e given =
      record {
        fits = inl e;
        is_given = λ d smallest same. given d smallest;
        head_is = λ other. absurd (other e);
        stays = λ other. absurd (other e);
        down = λ x i. absurd (List·Memᴰ·not-nil (rw (eq-eqb why given_reason e) at i));
      }

  -- by a rule
  rule_leads : (rank middle : ℕ) (ρ : Rule) → why ≡ reason_of rank middle → middle < 32 → RuleAt J.rules rank ρ →
      head ρ ≡ symbol → EmptyStays J.states p ρ → (RuleInRange ρ → (x : ℕ) → List·Memᴰ x (rule_premises from middle to ρ) → Below x) → Leads
  unfolding premises
  rule_leads rank middle ρ e small rule h stays down =
      let other : why ≡ given_reason → ⊥ = λ g. omega (arith, rule.0, range.rule_count) in
      let same : (why - 1) / 32 ≡ rank = omega arith in
      let at_middle : (why - 1) % 32 ≡ middle = omega arith in
      let at_rank : reason_rule J.rules why ≡ ρ = rw same rule.1 in
      let in_range : RuleInRange ρ = rw rule.1 at
      (range.rules _ (member_at (empty 0) J.rules rank rule.0)) in
      record {
        fits = inr (omega arith, omega (arith, rule.0));
        is_given = λ d smallest g. absurd (other g);
        head_is = λ g. ap head at_rank ∙ h;
        stays = λ g. rw at_rank stays;
        down = λ x i. down in_range x (rw (ne_eqb why given_reason other, at_middle, at_rank) at i);
      }

  -- a premise
  premise_leads :
      (q X r : ℕ) → q < 32 → X < 64 → r < 32 →
      Premise (done_at_lem m.table) (turn_at_lem m.reasons) (table_place from symbol to) q X r →
      (x : ℕ) → x ≡ table_place q X r → Below x
  unfolding done_in statuses
  premise_leads q X r ql xl rl a x e =
      rw e (
        record { within = place_below q X r ql xl rl; is_done_lem' = a.is_done_lem' },
        rw (place_of_parts p within) at a.earlier,
      )

  reason_leads : (n : ℕ) → why ≡ n → Reason J (done_at_lem m.table) (turn_at_lem m.reasons) from symbol to n → Leads
  reason_leads n at (Reason.by_given g e) = given_leads (at ∙ e) (λ d smallest. g)
  reason_leads n at (Reason.by_empty rank g e rule s l) =
      rule_leads rank 0 (empty symbol) (at ∙ e) (omega arith) rule refl (λ none. (s, l)) (λ low x i. absurd (List·Memᴰ·not-nil i))
  reason_leads n at (Reason.by_unit rank X g e rule a) =
      rule_leads rank 0 _ (at ∙ e) (omega arith) rule refl (λ none. absurd (omega (arith, ap length none)))
      (λ low x i. premise_leads from X to (omega arith) low.1 (omega arith) a x (List·Memᴰ·eq-of-singleton i))
  reason_leads n at (Reason.by_pair rank X Y middle g e small rule a b) =
      rule_leads rank middle _ (at ∙ e) small rule refl (λ none. absurd (omega (arith, ap length none)))
      (λ low x i. ⊎_elim (premise_leads from X middle (omega arith) low.1 small a x)
      (λ k. premise_leads middle Y to small low.2 (omega arith) b x (List·Memᴰ·eq-of-singleton k))
      (List·Memᴰ·cases-cons i))

  -- a terminal's reason is given, a variable's fits
  place_leads : Leads
  unfolding done_in statuses
  place_leads =
      let same = place_of_parts p within in
      cases (leb 32 symbol)
      (λ e. given_leads (rw e)
      (λ d smallest. given_in_smallest range (leb-true 32 symbol e)
      ((smallest from symbol to (omega arith) (omega arith) (omega arith)).0 (rw same d.is_done_lem'))))
      (λ e. reason_leads _ (rw e)
      (fit.fits from symbol to (omega arith) (leb-false 32 symbol e) (omega arith) (rw same there)))

-- what is done is there
there_of : {t : List ℕ} {p : ℕ} → DonePlace t p → is_absent_at (statuses t) p ≡ false
unfolding statuses
there_of {t} {p} d = done_not_absent (byte_status (get_or t p 0)) d.is_done_lem'

module _ (J : Job) (range : InRange J) (m : Lent) (fit : ReasonsFit J (statuses m.table) m.reasons) where
  -- so turns fall from what is pending or done to its premises
  pub premises_earlier : (p q : ℕ) → p < table_size → is_absent_at (statuses m.table) p ≡ false →
      List·Memᴰ q (premises J.rules m.reasons p) → turn_at_lem m.reasons q < turn_at_lem m.reasons p
  premises_earlier p q within there i = ((place_leads J range m fit p within there).down q i).1

  leads : (p : ℕ) (d : DonePlace m.table p) → Leads J range m fit p d.within (there_of d)
  leads p d = place_leads J range m fit p d.within (there_of d)

  pub grounded_by_reasons : Grounded J.rules m.reasons m.table
  unfolding statuses
  grounded_by_reasons =
      record {
        bounded = λ p d. omega (arith, fit.done_bounded p d.within d.is_done_lem', done_bound m.table);
        reason = λ p d. (leads p d).fits;
        premise_done = λ p q d i. ((leads p d).down q i).0;
        premise_earlier = λ p q d i. ((leads p d).down q i).1;
      }

  pub true_by_reasons :
      DecidesSmallest J (done_at_lem m.table) → TrueReasons J.rules J.given J.states m.reasons m.table
  true_by_reasons smallest =
      record {
        is_given = λ p d. (leads p d).is_given d smallest;
        head_is = λ p d. (leads p d).head_is;
        stays = λ p d. (leads p d).stays;
      }
