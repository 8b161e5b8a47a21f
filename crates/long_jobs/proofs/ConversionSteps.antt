-- What the steps of the code's conversion come to, over plain arguments: the numbers and the buffer that a step leaves
-- say the conversion that the definition gives. Assumes nothing.
use Rattle.grammar.proofs.Basics.{◌≡◌, refl, ◌∙◌, sym, ap, true, false, List, ◌∷◌, [], ℕ, ◌<◌, ◌≤◌, ◌+◌, suc}
use Rattle.grammar.proofs.Basics.{add-zero, arith, length, get_or, drop, length-drop, length-take}
use lib.Seq.{get_or-drop, drop-drop}
use Rattle.job.specs.declared.JobRecord.{JobRecord}
use Rattle.job.specs.Job.{pair_record}
use Rattle.long_jobs.specs.declared.Progress.{Progress}
use Rattle.long_jobs.specs.Convert.{Conversion, write, take_one, split, convert}
use Rattle.long_jobs.specs.Dialect.{is_long_lem, head_of, body_of, short_of}
use Rattle.long_jobs.specs.Walk.{next_free}
use Rattle.long_jobs.specs.Inside.Parts.{written_size, first_records, conversion_of, Room, Reached}
use Rattle.long_jobs.specs.Inside.Parts.{short_rule_lem}
use Rattle.long_jobs.proofs.Buffer.{Appended, appended}

conversion_path : (c d : Conversion) → c.taken ≡ d.taken → c.written ≡ d.written → c ≡ d
conversion_path c d t w = λ i. record { taken = t i; written = w i }

-- the first rule of a body of more than two, the rule of a body of two, and that of a shorter one
module _ (fresh : ℕ → ℕ) (A : ℕ) where
  pub split_first : (β : List ℕ) (c : Conversion) → 2 < length β →
      split fresh A β c
      ≡ split fresh (fresh c.taken) (drop 1 β) (take_one (write (pair_record A (get_or β 0 0) (fresh c.taken)) c))
  unfolding split
  split_first [] c h = absurd (omega arith)
  split_first (X ∷ []) c h = absurd (omega arith)
  split_first (X ∷ Y ∷ []) c h = absurd (omega arith)
  split_first (X ∷ Y ∷ Z ∷ β) c h = refl

  pub split_last : (β : List ℕ) (c : Conversion) → length β ≡ 2 →
      split fresh A β c ≡ write (pair_record A (get_or β 0 0) (get_or β 1 0)) c
  unfolding split
  split_last [] c h = absurd (omega arith)
  split_last (X ∷ []) c h = absurd (omega arith)
  split_last (X ∷ Y ∷ []) c h = refl
  split_last (X ∷ Y ∷ Z ∷ β) c h = absurd (omega arith)

  pub split_none : (β : List ℕ) (c : Conversion) → length β < 2 → split fresh A β c ≡ write (short_rule_lem A β) c
  unfolding split
  split_none [] c h = refl
  split_none (X ∷ []) c h = refl
  split_none (X ∷ Y ∷ β) c h = absurd (omega arith)

-- k more variables and records
abbrev pub further : Progress → ℕ → Progress
further p k = record { taken = p.taken + k; count = p.count + k }

-- a body is split from the k-th symbol on
pub record Splitting (free body out₀ : List ℕ) (head : ℕ) (p : Progress) (out : List ℕ) (variable k : ℕ) :
    Type 0 where
  pub below : k + 2 ≤ length body
  pub out_size : length out ≡ written_size
  pub rest : split (next_free free) head body (conversion_of p out₀)
      ≡ split (next_free free) variable (drop k body) (conversion_of (further p k) out)

module _ (free body out₀ : List ℕ) (head : ℕ) (p : Progress) where
  pub splitting_none : Room p out₀ → 2 ≤ length body → Splitting free body out₀ head p out₀ head 0
  splitting_none room h =
      record { below = omega arith; out_size = room.out_size; rest = simp add-zero refl }

  module _ (out : List ℕ) (variable k : ℕ) (s : Splitting free body out₀ head p out variable k) where
    first : get_or (drop k body) 0 0 ≡ get_or body k 0
    first = rw add-zero at (get_or-drop k body 0 0)

    pub splitting_more : (after : List ℕ) → k + 2 < length body →
        Appended out after (p.count + k) (pair_record variable (get_or body k 0) (get_or free (p.taken + k) 0)) →
        Splitting free body out₀ head p after (get_or free (p.taken + k) 0) (k + 1)
    splitting_more after h a =
        let c = conversion_of (further p k) out in
        let tail = get_or free (p.taken + k) 0 in
        let taken_on : suc (p.taken + k) ≡ p.taken + (k + 1) = omega arith in
        let count_on : p.count + k + 1 ≡ p.count + (k + 1) = omega arith in
        record {
          below = omega arith;
          out_size = a.size;
          rest =
              s.rest ∙ split_first (next_free free) variable (drop k body) c (omega (arith, length-drop k body))
              ∙ rw (first, drop-drop 1 k body)
              (ap (split (next_free free) tail (drop (k + 1) body))
              (conversion_path _ _ taken_on (sym a.is ∙ ap (λ n. first_records n after) count_on)));
        }

    pub splitting_all : (after : List ℕ) → k + 2 ≡ length body →
        Appended out after (p.count + k) (pair_record variable (get_or body k 0) (get_or body (k + 1) 0)) →
        length body ≤ 8 →
        Reached p (record { taken = p.taken + k; count = p.count + k + 1 }) after
        (split (next_free free) head body (conversion_of p out₀))
    splitting_all after h a few =
        let c = conversion_of (further p k) out in
        record {
          is = sym
              (s.rest ∙ split_last (next_free free) variable (drop k body) c (omega (arith, length-drop k body))
              ∙ rw (first, get_or-drop k body 1 0) (conversion_path _ _ refl (sym a.is)));
          out_size = a.size;
          taken_more = omega arith;
          count_more = omega arith;
        }

-- one record is written, the rule of a body of none or one or a record as it is; or the body of an L record is split
module _ (p : Progress) (out after : List ℕ) where
  abbrev one_more : Progress
  one_more = record { taken = p.taken; count = p.count + 1 }

  one_written : (r : JobRecord) → Appended out after p.count r →
      Reached p one_more after (write r (conversion_of p out))
  one_written r a =
      record {
        is = conversion_path _ _ refl a.is;
        out_size = a.size;
        taken_more = omega arith;
        count_more = omega arith;
      }

  module _ (free : List ℕ) where
    pub short_written : (body : List ℕ) (head : ℕ) → length body < 2 →
        Appended out after p.count (short_rule_lem head body) →
        Reached p one_more after (split (next_free free) head body (conversion_of p out))
    short_written body head h a =
        rw (split_none (next_free free) head body (conversion_of p out) h) (one_written (short_rule_lem head body) a)

    pub converted_short : (r : List ℕ) → is_long_lem r ≡ false → Appended out after p.count (short_of r) →
        Reached p one_more after (convert (next_free free) r (conversion_of p out))
    unfolding convert
    converted_short r t a = rw t (one_written (short_of r) a)

    pub converted_long : (r body : List ℕ) (head : ℕ) (q : Progress) → is_long_lem r ≡ true → body ≡ body_of r →
        head ≡ head_of r → Reached p q after (split (next_free free) head body (conversion_of p out)) →
        Reached p q after (convert (next_free free) r (conversion_of p out))
    unfolding convert
    converted_long r body head q t b h s = rw (t, ← b, ← h) s

-- a body has at most eight symbols
pub body_few : (r : List ℕ) → length (body_of r) ≤ 8
body_few r = rw length-take (omega arith)

-- what a conversion needs
pub ruleset steps = (appended, splitting_none, splitting_more, short_written, converted_long, body_few)
