-- From the job back to the long job: whatever is written, what its head stands for derives by the long job's productions what
-- its body stands for. Kept by each operation of the conversion, given that the variables that it takes stand for what
-- it takes them for. Assumes nothing.
use Rattle.grammar.proofs.Basics.{◌≡◌, refl, sym, subst, ⊎_elim, true, false, List, ◌∷◌, [], ◌++◌, List·Memᴰ}
use Rattle.grammar.proofs.Basics.{List·Memᴰ·head, List·Memᴰ·tail, List·Memᴰ·append-cases, append-nil}
use Rattle.grammar.proofs.Basics.{List·Memᴰ·eq-of-singleton, ℕ, add-zero, add-one, arith, cases}
use Rattle.grammar.specs.Rule.{Productions, head, body}
use Rattle.grammar.specs.Derivation.{Derives, none}
use Rattle.grammar.proofs.Standing.{string_of}
use Rattle.job.specs.declared.JobRecord.{JobRecord}
use Rattle.job.specs.Format.{is_rule_lem}
use Rattle.job.specs.Job.{rule_of, empty_record, unit_record, pair_record}
use Rattle.long_jobs.specs.Dialect.{is_long_lem, head_of, body_of, short_of}
use Rattle.long_jobs.specs.Convert.{Conversion, write, take_one, split}
use Rattle.long_jobs.specs.Convert.{convert}
use Rattle.long_jobs.proofs.Converted.{converts}
use Rattle.long_jobs.proofs.Taken.{tails, record_strings, all_strings, Stand, stand_first, stand_rest}
use Rattle.long_jobs.proofs.Taken.{convert_taken}

module _ (P : Productions) (σ : ℕ → List ℕ) where
  -- a rule's record means what it stands for
  abbrev pub Meant : JobRecord → Type 0
  Meant r = is_rule_lem r ≡ true → Derives P (σ (head (rule_of r))) (string_of σ (body (rule_of r)))

  -- so does each record that is written
  abbrev pub Right : Conversion → Type 0
  Right c = (r : JobRecord) → List·Memᴰ r c.written → Meant r

  write_right : (c : Conversion) → Right c → (r : JobRecord) → Meant r → Right (write r c)
  write_right c right r m x n =
      ⊎_elim (right x) (λ k. subst Meant (sym (List·Memᴰ·eq-of-singleton k)) m)
      (List·Memᴰ·append-cases c.written n)

  meant_unit : (A X : ℕ) {α : List ℕ} → σ X ≡ α → Derives P (σ A) α → Meant (unit_record A X)
  unfolding rule_of string_of
  meant_unit A X e d t = rw (append-nil, e) d

  meant_pair : (A X Y : ℕ) {α β : List ℕ} → σ X ≡ α → σ Y ≡ β → Derives P (σ A) (α ++ β) → Meant (pair_record A X Y)
  unfolding rule_of string_of
  meant_pair A X Y e f d t = rw (append-nil, e, f) d

  meant_empty : (A : ℕ) → Derives P (σ A) [] → Meant (empty_record A)
  unfolding rule_of string_of
  meant_empty A d t = d

  -- what a record says, in what its symbols stand for
  pub record Says (r : List ℕ) : Type 0 where
    pub symbols : is_long_lem r ≡ true → (X : ℕ) → List·Memᴰ X (body_of r) → σ X ≡ X ∷ []
    pub production : is_long_lem r ≡ true → Derives P (σ (head_of r)) (body_of r)
    pub rule : is_long_lem r ≡ false → Meant (short_of r)

  module _ (fresh : ℕ → ℕ) where
    -- a body whose symbols stand for themselves is split where the head derives it
    split_right : (A : ℕ) (β : List ℕ) (c : Conversion) → ((X : ℕ) → List·Memᴰ X β → σ X ≡ X ∷ []) → Right c →
        Derives P (σ A) β → Stand σ fresh c.taken (tails β) → Right (split fresh A β c)
    unfolding split tails
    split_right A [] c self right d s = write_right c right (empty_record A) (meant_empty A d)
    split_right A (X ∷ []) c self right d s =
        write_right c right (unit_record A X) (meant_unit A X (self X (List·Memᴰ·head refl)) d)
    split_right A (X ∷ Y ∷ []) c self right d s =
        write_right c right (pair_record A X Y)
        (meant_pair A X Y (self X (List·Memᴰ·head refl)) (self Y (List·Memᴰ·tail (List·Memᴰ·head refl))) d)
    split_right A (X ∷ Y ∷ Z ∷ β) c self right d s =
        let B = fresh c.taken in
        let e : σ B ≡ Y ∷ Z ∷ β = rw add-zero at (s.at 0 (omega arith)) in
        split_right B (Y ∷ Z ∷ β) (take_one (write (pair_record A X B) c)) (λ W m. self W (List·Memᴰ·tail m))
        (write_right c right (pair_record A X B) (meant_pair A X B (self X (List·Memᴰ·head refl)) e d)) (rw e none)
        (rw add-one at (stand_rest ((Y ∷ Z ∷ β) ∷ []) (tails (Y ∷ Z ∷ β)) s))

    convert_right : (r : List ℕ) (c : Conversion) → Says r → Right c → Stand σ fresh c.taken (record_strings r) →
        Right (convert fresh r c)
    unfolding convert
    convert_right r c says right s =
        cases (is_long_lem r)
        (λ t. rw t (split_right (head_of r) (body_of r) c (says.symbols t) right (says.production t) (rw t at s)))
        (λ t. rw t (write_right c right (short_of r) (says.rule t)))

    pub all_right : (rs : List (List ℕ)) (c : Conversion) → ((r : List ℕ) → List·Memᴰ r rs → Says r) → Right c →
        Stand σ fresh c.taken (all_strings rs) → Right (converts fresh rs c)
    unfolding converts all_strings
    all_right [] c says right s = right
    all_right (r ∷ rs) c says right s =
        let more = stand_rest (record_strings r) (all_strings rs) s in
        all_right rs (convert fresh r c) (λ x m. says x (List·Memᴰ·tail m))
        (convert_right r c (says r (List·Memᴰ·head refl)) right (stand_first (record_strings r) (all_strings rs) s))
        (subst (λ k. Stand σ fresh k (all_strings rs)) (sym (convert_taken fresh r c)) more)
