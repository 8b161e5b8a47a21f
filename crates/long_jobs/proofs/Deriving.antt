-- From the long job to the job: each production of the long job is a derivation by the rules written. The pair rules of a body
-- derive it symbol by symbol. Assumes nothing.
use Rattle.grammar.proofs.Basics.{◌≡◌, refl, sym, subst, ⊎_elim, true, false, List, ◌∷◌, [], List·Memᴰ}
use Rattle.grammar.proofs.Basics.{List·Memᴰ·head, Memᴰ·append-right, ℕ, List·Memᴰ·not-nil, List·Memᴰ·cases-cons}
use Rattle.grammar.specs.Rule.{Productions, head, body}
use Rattle.grammar.specs.Derivation.{Derives, none}
use Rattle.grammar.proofs.Derivations.{derives_append, derives_production}
use Rattle.job.specs.declared.JobRecord.{JobRecord}
use Rattle.job.specs.Format.{is_rule_lem}
use Rattle.job.specs.Job.{rule_of, empty_record, unit_record, pair_record}
use Rattle.long_jobs.specs.Dialect.{is_long_lem, head_of, body_of, short_of}
use Rattle.long_jobs.specs.Convert.{Conversion, write, take_one, split}
use Rattle.long_jobs.specs.Convert.{convert}
use Rattle.long_jobs.proofs.Converted.{converts}
use Rattle.long_jobs.proofs.Kept.{Within, split_within, converts_within}

-- what a record says, by the rules written
pub record Derived (ws : List JobRecord) (Q : Productions) (r : List ℕ) : Type 0 where
  pub production : is_long_lem r ≡ true → Derives Q (head_of r ∷ []) (body_of r)
  pub rule : is_long_lem r ≡ false → List·Memᴰ (short_of r) ws

module _ (ws : List JobRecord) (fresh : ℕ → ℕ) (Q : Productions)
    (by : (r : JobRecord) → List·Memᴰ r ws → is_rule_lem r ≡ true → Q (head (rule_of r)) (body (rule_of r))) where
  -- the last record written
  last : (r : JobRecord) (c : Conversion) → Within ws (write r c) → is_rule_lem r ≡ true →
      Q (head (rule_of r)) (body (rule_of r))
  last r c w t = by r (w r (Memᴰ·append-right c.written (List·Memᴰ·head refl))) t

  pub split_derives : (A : ℕ) (β : List ℕ) (c : Conversion) → Within ws (split fresh A β c) → Derives Q (A ∷ []) β
  unfolding split rule_of
  split_derives A [] c w = derives_production (last (empty_record A) c w refl) none
  split_derives A (X ∷ []) c w = derives_production (last (unit_record A X) c w refl) none
  split_derives A (X ∷ Y ∷ []) c w = derives_production (last (pair_record A X Y) c w refl) none
  split_derives A (X ∷ Y ∷ Z ∷ β) c w =
      let B = fresh c.taken in
      let after = take_one (write (pair_record A X B) c) in
      derives_production (last (pair_record A X B) c (split_within fresh ws B (Y ∷ Z ∷ β) after w) refl)
      (derives_append {α = X ∷ []} none (split_derives B (Y ∷ Z ∷ β) after w))

  convert_derives : (r : List ℕ) (c : Conversion) → Within ws (convert fresh r c) → Derived ws Q r
  unfolding convert
  convert_derives r c w =
      record {
        production = λ t. split_derives (head_of r) (body_of r) c (rw t at w);
        rule = λ t. rw t at w (short_of r) (Memᴰ·append-right c.written (List·Memᴰ·head refl));
      }

  pub all_derived : (rs : List (List ℕ)) (c : Conversion) → Within ws (converts fresh rs c) → (r : List ℕ) →
      List·Memᴰ r rs → Derived ws Q r
  unfolding converts
  all_derived [] c w r m = absurd (List·Memᴰ·not-nil m)
  all_derived (x ∷ rs) c w r m =
      let after = convert fresh x c in
      ⊎_elim (λ e. subst (Derived ws Q) (sym e) (convert_derives x c (converts_within fresh ws rs after w)))
      (all_derived rs after w r) (List·Memᴰ·cases-cons m)
