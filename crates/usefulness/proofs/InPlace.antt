-- Growth in place, rule after rule: it stays within what is closed, and a pass that adds nothing shows the set closed.
-- Assumes nothing.
use Rattle.grammar.proofs.Basics.{◌≡◌, refl, ◌∙◌, sym, ap, true, Bool, List, ◌∷◌, [], ◌++◌, List·Memᴰ·head}
use Rattle.grammar.proofs.Basics.{List·Memᴰ·tail, ◌<◌}
use Prim.Native.Nat.{◌^◌}
use Rattle.grammar.proofs.Basics.{List·Memᴰ·eq-of-singleton, ℕ, arith, same_test, Subset}
use Rattle.grammar.specs.Counting.{count}
use Rattle.grammar.specs.Rule.{Rule, Among}
use Rattle.grammar.proofs.Counting.{count_equal, count_monotone}
use Rattle.usefulness.specs.declared.Direction.{Direction}
use Rattle.usefulness.specs.Sets.{stands_in, ready, added, round, grown}
use Rattle.usefulness.specs.Inside.Flags.{Flags, flagged}
use Rattle.usefulness.specs.Inside.Passes.{in_place}
use Rattle.usefulness.proofs.Tests.{ready_grows, added_has}
use Rattle.usefulness.proofs.Rounds.{ClosedUnder, Below, round_keeps, round_adds, round_within, grown_keeps}
use Rattle.usefulness.proofs.Rounds.{grown_within, grown_closed}
use Rattle.usefulness.proofs.Raising.{flags_alike, flags_count, same_words}

module _ (d : Direction) where
  -- one rule more
  pub in_place_more : (rules : List Rule) (ρ : Rule) (s : ℕ → Bool) →
      in_place d (rules ++ (ρ ∷ [])) s ≡ round d (ρ ∷ []) (in_place d rules s)
  unfolding in_place
  in_place_more [] ρ s = refl
  in_place_more (σ ∷ σs) ρ s = in_place_more σs ρ (round d (σ ∷ []) s)

  in_place_keeps : (rules : List Rule) (s : ℕ → Bool) → Subset s (in_place d rules s)
  unfolding in_place
  in_place_keeps [] s X e = e
  in_place_keeps (ρ ∷ ρs) s X e = in_place_keeps ρs (round d (ρ ∷ []) s) X (round_keeps d (ρ ∷ []) s X e)

  in_place_within : (rules : List Rule) {s c : ℕ → Bool} → ClosedUnder d rules c → Subset s c →
      Subset (in_place d rules s) c
  unfolding in_place
  in_place_within [] closed sub = sub
  in_place_within (ρ ∷ ρs) {c = c} closed sub =
      in_place_within ρs {c = c} (λ σ m. closed σ (List·Memᴰ·tail m))
      (round_within d (ρ ∷ []) (λ σ m. closed σ (List·Memᴰ·head (List·Memᴰ·eq-of-singleton m))) sub)

  -- what a rule adds to the set is added
  in_place_adds : (rules : List Rule) (s : ℕ → Bool) (ρ : Rule) → Among rules ρ → (X : ℕ) → ready d s ρ ≡ true →
      stands_in X (added d ρ) ≡ true → in_place d rules s X ≡ true
  unfolding in_place
  in_place_adds (σ ∷ σs) s ρ (List·Memᴰ·head e) X r t =
      in_place_keeps σs (round d (σ ∷ []) s) X (round_adds d (σ ∷ []) s ρ (List·Memᴰ·head e) X r t)
  in_place_adds (σ ∷ σs) s ρ (List·Memᴰ·tail m) X r t =
      in_place_adds σs (round d (σ ∷ []) s) ρ m X (ready_grows d (round_keeps d (σ ∷ []) s) ρ r) t
  in_place_adds [] s ρ x3 X r t = elim x3 [ ]

  -- a pass that adds none of the 64 symbols
  idle_closed : (rules : List Rule) (s : ℕ → Bool) → Below 64 rules → count s 64 ≡ count (in_place d rules s) 64 →
      ClosedUnder d rules s
  idle_closed rules s below idle ρ m X r t =
      count_equal s _ 64 (λ Y _. in_place_keeps rules s Y) idle X (added_has d ρ X (below ρ m) t)
      ∙ in_place_adds rules s ρ m X r t

-- a word that holds a set between a set and what it grows to
pub record PartGrown (d : Direction) (rules : List Rule) (s : ℕ → Bool) (f : ℕ) : Type 0 where
  pub held : ℕ → Bool
  pub flags : Flags held f
  pub above : Subset s held
  pub under : Subset held (grown d rules s)

pub part_grown_none : {d : Direction} {rules : List Rule} {s : ℕ → Bool} {f : ℕ} → Flags s f → PartGrown d rules s f
part_grown_none {d} {rules} {s} held =
    record { held = s; flags = held; above = λ X e. e; under = grown_keeps d rules s }

-- a pass more, which adds a symbol where it changes the word, and a pass that does not, which ends the growth
module _ {d : Direction} {rules : List Rule} (below : Below 64 rules) {s : ℕ → Bool} {f g : ℕ}
    (b : PartGrown d rules s f) (r : Flags (in_place d rules b.held) g) where
  pub part_grown_more : PartGrown d rules s g
  part_grown_more =
      record {
        held = in_place d rules b.held;
        flags = r;
        above = λ X e. in_place_keeps d rules b.held X (b.above X e);
        under = in_place_within d rules (grown_closed d rules s below) b.under;
      }

  pub part_grown_rises : f < 2 ^ 64 → g < 2 ^ 64 → (g ≡ f → ⊥) → count (flagged f) 64 < count (flagged g) 64
  part_grown_rises l m new =
      let kept : (X : ℕ) → X < 64 → flagged f X ≡ true → flagged g X ≡ true
      = λ X n e. r.at X n ∙ in_place_keeps d rules b.held X (sym (b.flags.at X n) ∙ e) in
      let no-less = count_monotone (flagged f) (flagged g) 64 kept in
      let other : count (flagged f) 64 ≡ count (flagged g) 64 → ⊥
      = λ e. new (sym (same_words 64 f g l m (count_equal (flagged f) (flagged g) 64 kept e))) in
      omega arith

  pub part_grown_end : g ≡ f → Flags (grown d rules s) g
  unfolding part_grown_more
  part_grown_end e =
      let idle = sym (flags_count b.flags) ∙ ap (λ w. count (flagged w) 64) (sym e) ∙ flags_count r in
      let closed = idle_closed d rules b.held below idle in
      flags_alike r
      (λ X _. same_test _ _ (part_grown_more.under X)
      (λ e. in_place_keeps d rules b.held X (grown_within d rules s closed b.above X e)))
