-- What records that are not refused are, free of their order. Assumes nothing.
use Rattle.grammar.proofs.Basics.{◌≡◌, sym, List, ◌∷◌, [], List·Memᴰ, ◌++◌, List-as-Permᴰ, Memᴰ·append-left, Permᴰ·symm}
use Rattle.grammar.proofs.Basics.{ℕ, ◌<◌, ◌≤◌, arith}
use native.Mathlib.Nat.{le_trans, le_of_eq}
use Rattle.grammar.specs.Counting.{NoRepeat}
use Rattle.job.specs.declared.JobRecord.{JobRecord}
use Rattle.job.specs.declared.Limits.{Limits}
use Rattle.job.specs.Format.{ClassTable, row_of, bad_field_lem, byte_i, byte_s}
use Rattle.job.specs.Check.{count_kind, count_rules}
use Rattle.job.proofs.Permutation.{member_permutes, count_kind_permutes, count_rules_permutes}
use Rattle.job.proofs.NoRepeat.{no_repeat_permutes, no_repeat_front}

-- each record is of a known kind and its fields fit, none stands twice, at most one S and one I, no more rules than
-- the limit
pub record Sound (classes : ClassTable) (limits : Limits) (rs : List JobRecord) : Type 0 where
  pub known : (r : JobRecord) → List·Memᴰ r rs → row_of r.kind < 7
  pub fitting : (r : JobRecord) → List·Memᴰ r rs → bad_field_lem classes r ≡ 0
  pub distinct : NoRepeat rs
  pub one_start : count_kind byte_s rs ≤ 1
  pub one_initial : count_kind byte_i rs ≤ 1
  pub few_rules : count_rules rs ≤ limits.rules

pub sound_permutes : {classes : ClassTable} {limits : Limits} {l m : List JobRecord} → List-as-Permᴰ l m
    → Sound classes limits l
    → Sound classes limits m
sound_permutes d s =
    search (
      s.known,
      s.fitting,
      member_permutes,
      Permᴰ·symm,
      no_repeat_permutes,
      le_trans,
      le_of_eq,
      sym,
      count_kind_permutes,
      count_rules_permutes,
    )

-- the front of a list counts no more than the list
count_kind_front : (k : ℕ) (l m : List JobRecord) → count_kind k l ≤ count_kind k (l ++ m)
unfolding count_kind
count_kind_front k [] m = omega arith
count_kind_front k (r ∷ rs) m = omega (arith, count_kind_front k rs m)

count_rules_front : (l m : List JobRecord) → count_rules l ≤ count_rules (l ++ m)
unfolding count_rules
count_rules_front [] m = omega arith
count_rules_front (r ∷ rs) m = omega (arith, count_rules_front rs m)

pub sound_front : {classes : ClassTable} {limits : Limits} (l m : List JobRecord) → Sound classes limits (l ++ m)
    → Sound classes limits l
sound_front l m s =
    search (s.known, s.fitting, Memᴰ·append-left, no_repeat_front, le_trans, count_kind_front, count_rules_front)
