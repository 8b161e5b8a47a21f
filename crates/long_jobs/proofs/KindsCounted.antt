-- Of a kind that neither rules nor L records have, as many records are written as the long job has: an L record adds none,
-- any other record itself. Assumes nothing.
use Rattle.grammar.proofs.Basics.{◌≡◌, refl, true, false, List, ◌∷◌, [], ◌++◌, map, ℕ, ◌+◌, arith, eqb, eqb-true}
use mathlib.Core.List.{map-append}
use Rattle.job.specs.declared.JobRecord.{JobRecord}
use Rattle.job.specs.Format.{byte_e, byte_u, byte_p}
use Rattle.job.specs.Check.{count_kind}
use Rattle.long_jobs.specs.Dialect.{kind_of, byte_l, is_long_lem, short_of}
use Rattle.long_jobs.proofs.RuleKinds.{for_rule}
use Rattle.long_jobs.proofs.Adds.{Each, none, more}
use Rattle.long_jobs.proofs.RulesAdded.{FittingRule}

module _ (k : ℕ) where
  count-append : (l m : List JobRecord) → count_kind k (l ++ m) ≡ count_kind k l + count_kind k m
  unfolding count_kind
  count-append [] m = omega arith
  count-append (r ∷ l) m = omega (arith, count-append l m)

  module _ (seen : List (List ℕ)) (written : List JobRecord)
      (alike : count_kind k written ≡ count_kind k (map short_of seen)) (r : List ℕ) where
    kind_alike : (new : List JobRecord) → count_kind k new ≡ count_kind k (short_of r ∷ [])
        → count_kind k (written ++ new) ≡ count_kind k (map short_of (seen ++ (r ∷ [])))
    kind_alike new h =
        rw (count-append written new, h, alike, map-append short_of seen (r ∷ []), count-append (map short_of seen))

    pub short_kind : count_kind k (written ++ (short_of r ∷ [])) ≡ count_kind k (map short_of (seen ++ (r ∷ [])))
    short_kind = kind_alike (short_of r ∷ []) refl

-- a kind that neither rules nor L records have
abbrev pub Apart : ℕ → Type 0
Apart k = (eqb byte_e k ≡ false) × (eqb byte_u k ≡ false) × (eqb byte_p k ≡ false) × (eqb byte_l k ≡ false)

none_counted : (k : ℕ) {new : List JobRecord} → Apart k → Each FittingRule new → count_kind k new ≡ 0
unfolding count_kind
none_counted k a none = refl
none_counted k (e, u, p, l) (more {x} f fs) =
    rw (for_rule (λ j. eqb j k ≡ false) x f.rule e u p, none_counted k (e, u, p, l) fs)

pub long_kind : (k : ℕ) → Apart k → (seen : List (List ℕ)) (written : List JobRecord)
    → count_kind k written ≡ count_kind k (map short_of seen) → (r : List ℕ) → is_long_lem r ≡ true
    → {new : List JobRecord} → Each FittingRule new
    → count_kind k (written ++ new) ≡ count_kind k (map short_of (seen ++ (r ∷ [])))
unfolding count_kind
long_kind k (e, u, p, l) seen written alike r long {new} fit =
    kind_alike k seen written alike r new (rw (none_counted k (e, u, p, l) fit, eqb-true (kind_of r) byte_l long, l))
