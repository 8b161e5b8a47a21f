-- Words that hold a set: the set can be read off them, and a bit that is made 1 adds its symbol to the set. Assumes
-- nothing.
use Rattle.grammar.proofs.Basics.{◌≡◌, refl, ◌∙◌, sym, Bool, ◌||◌, or-false, or-true, ℕ}
use Rattle.grammar.proofs.Basics.{suc, zero, ◌<◌, ◌*◌, ◌/◌, ◌%◌, arith, eqb, eq-eqb, eqb-true}
use Rattle.grammar.proofs.Basics.{eqb-false, cases}
use Prim.Native.Nat.{◌^◌}
use native.Mathlib.Nat.{pow-suc}
use Rattle.std.specs.Prelude.{bit_or}
use Rattle.std.specs.Int.{w64}
use Rattle.std.proofs.lemmas.Bool.{agree_below_at}
use Rattle.std.proofs.lemmas.Nat.Bits.{bit_at_lowest, bit_at-suc, bit_at_set_same, bit_at_set_other}
use Rattle.grammar.specs.Counting.{count}
use Rattle.grammar.proofs.Counting.{count_cong}
use Rattle.grammar.specs.Symbol.{is_terminal_lem}
use Rattle.usefulness.specs.Inside.Flags.{Flags, flagged}

-- words of k bits with the same bits are equal
pub same_words : (k a b : ℕ) → a < 2 ^ k → b < 2 ^ k → ((X : ℕ) → X < k → flagged a X ≡ flagged b X) → a ≡ b
same_words zero a b l m same = omega arith
same_words (suc k) a b l m same =
    let half : a / 2 ≡ b / 2 =
    same_words k (a / 2) (b / 2) (omega (arith, pow-suc 2 k)) (omega (arith, pow-suc 2 k))
    (λ X h. rw (← bit_at-suc a X, ← bit_at-suc b X) (same (suc X) (omega arith))) in
    let last : a % 2 ≡ b % 2 = digit (a % 2) (b % 2) (omega arith) (omega arith)
    (rw (← bit_at_lowest a, ← bit_at_lowest b) (same 0 (omega arith))) in
    omega arith
  where
    digit : (d e : ℕ) → d < 2 → e < 2 → eqb d 1 ≡ eqb e 1 → d ≡ e
    digit d e l m same =
        cases (eqb d 1)
        (λ p. eqb-true d 1 p ∙ sym (eqb-true e 1 (sym same ∙ p)))
        (λ p. let n = eqb-false d 1 p in let o = eqb-false e 1 (sym same ∙ p) in omega arith)

module _ {s : ℕ → Bool} {f : ℕ} (held : Flags s f) where
  pub flags_alike : {t : ℕ → Bool} → ((X : ℕ) → X < 64 → s X ≡ t X) → Flags t f
  flags_alike same = record { at = λ X l. held.at X l ∙ same X l }

  pub flags_count : count (flagged f) 64 ≡ count s 64
  flags_count = count_cong (flagged f) s 64 held.at

  -- one symbol more
  pub flags_with : (i : ℕ) → i < 64 → Flags (λ X. s X || eqb i X) (bit_or f (1 * 2 ^ i % 2 ^ 64))
  flags_with i l =
      record {
        at = λ X m. cases (eqb i X)
            (λ e. rw (← eqb-true i X e, bit_at_set_same w64 f i l, eq-eqb i i refl, or-true))
            (λ e.
            let apart = eqb-false i X e in
            rw (bit_at_set_other w64 f i l X (λ z. apart (sym z)), held.at X m, e, or-false));
      }

-- the terminals
pub terminals_held : Flags is_terminal_lem 18446744069414584320
terminals_held = record { at = λ X l. agree_below_at (flagged 18446744069414584320) is_terminal_lem 64 X refl l }

-- a word holds the set that is read off it
pub flags_self : (f : ℕ) → Flags (flagged f) f
flags_self f = record { at = λ X _. refl }
