-- The E rules that start reads: a variable has a reason exactly where an E rule for it is among the rules, and the
-- reason has its rank. By induction on the rules. Assumes nothing.
use Rattle.grammar.proofs.Basics.{◌≡◌, refl, ◌∙◌, ap, ⊎_elim, List, ◌∷◌, [], List·Memᴰ·not-nil, List·Memᴰ·cases-cons}
use Rattle.grammar.proofs.Basics.{ℕ, ◌<◌, ◌≤◌, ◌+◌, suc, arith, eqb, length, get_or, eq-eqb, eqb-true}
use Rattle.grammar.specs.Rule.{Rule, empty, unit, pair, Among}
use Rattle.machine.specs.Table.{reason_of, lesser, when}
use Rattle.machine.specs.Start.{empty_reason}
use Rattle.machine.proofs.Offers.LeastOffer.{at_rank, lesser_from, lesser_left_when, lesser_right}
use Rattle.machine.proofs.Offers.LeastOffer.{when_there}

-- what one rule gives, and the rules after it
empty_of : ℕ → ℕ → Rule → ℕ
empty_of A rank (empty B) = when (eqb B A) (reason_of rank 0)
empty_of A rank (unit B X) = 0
empty_of A rank (pair B X Y) = 0

reason_of_rules : (A rank : ℕ) (ρ : Rule) (ρs : List Rule) →
    empty_reason A rank (ρ ∷ ρs) ≡ lesser (empty_of A rank ρ) (empty_reason A (suc rank) ρs)
unfolding empty_reason empty_of
reason_of_rules A rank (empty B) ρs = refl
reason_of_rules A rank (unit B X) ρs = refl
reason_of_rules A rank (pair B X Y) ρs = refl

empty_of_fits : (A rank : ℕ) (ρ : Rule) → 1 ≤ empty_of A rank ρ → (ρ ≡ empty A) × (empty_of A rank ρ ≡ reason_of rank 0)
unfolding empty_of
empty_of_fits A rank (empty B) h = let e = when_there _ _ h in (ap empty (eqb-true B A e), rw e)
empty_of_fits A rank (unit B X) h = absurd (omega arith)
empty_of_fits A rank (pair B X Y) h = absurd (omega arith)

pub among_reason : (A rank : ℕ) (ρs : List Rule) → Among ρs (empty A) → 1 ≤ empty_reason A rank ρs
unfolding empty_of
among_reason A rank [] m = absurd (List·Memᴰ·not-nil m)
among_reason A rank (ρ ∷ ρs) m =
    rw reason_of_rules
    (⊎_elim
    (λ e. rw (← e) (lesser_left_when _ (reason_of rank 0) _ (eq-eqb A A refl) (omega arith)).0)
    (λ n. (lesser_right (empty_of A rank ρ) _ (among_reason A (suc rank) ρs n)).0) (List·Memᴰ·cases-cons m))

-- the reason is that of an E rule for A that stands in the list
pub empty_reason_fits : (A rank : ℕ) (ρs : List Rule) (default : Rule) → 1 ≤ empty_reason A rank ρs →
    (i : ℕ) × (i < length ρs) × (get_or ρs i default ≡ empty A) × (empty_reason A rank ρs ≡ reason_of (rank + i) 0)
unfolding empty_reason
empty_reason_fits A rank [] default h = absurd (omega arith)
empty_reason_fits A rank (ρ ∷ ρs) default h =
    let e = reason_of_rules A rank ρ ρs in
    ⊎_elim
    (λ p. let f = empty_of_fits A rank ρ p.0 in (0, omega arith, f.0, e ∙ p.1 ∙ f.1 ∙ omega arith))
    (λ p.
    let f = empty_reason_fits A (suc rank) ρs default p.0 in
    (suc f.0, omega arith, f.2, e ∙ p.1 ∙ f.3 ∙ omega arith))
    (lesser_from _ _ (rw e at h))

pub reason_among : (A : ℕ) (ρs : List Rule) → 1 ≤ empty_reason A 0 ρs → Among ρs (empty A)
reason_among A ρs h =
    let f = empty_reason_fits A 0 ρs (empty 0) h in
    rw f.2 at (at_rank ρs f.0 (empty 0) f.1)
