-- What is written stays written, and an L record is written as rules. Assumes nothing.
use Rattle.grammar.proofs.Basics.{◌≡◌, refl, subst, sym, true, List, ◌∷◌, [], List·Memᴰ, Memᴰ·append-left, ℕ, cases}
use Rattle.grammar.proofs.Strings.{All, nil, cons}
use Rattle.job.specs.declared.JobRecord.{JobRecord}
use Rattle.job.specs.Format.{is_rule_lem}
use Rattle.long_jobs.specs.Dialect.{is_long_lem, head_of, body_of, short_of}
use Rattle.long_jobs.specs.Convert.{Conversion, split, convert}
use Rattle.long_jobs.proofs.Converted.{converts}
use Rattle.long_jobs.proofs.Adds.{Adds, Shapes, split_adds}

abbrev pub IsRule : JobRecord → Type 0
IsRule x = is_rule_lem x ≡ true

-- any symbol will do
abbrev Any : ℕ → Type 0
Any X = Unit {0}

any_symbols : (β : List ℕ) → All Any β
any_symbols [] = nil
any_symbols (X ∷ β) = cons tt (any_symbols β)

-- all that is written is in a list
abbrev pub Within : List JobRecord → Conversion → Type 0
Within ws c = (x : JobRecord) → List·Memᴰ x c.written → List·Memᴰ x ws

module _ (fresh : ℕ → ℕ) where
  rules : Shapes IsRule fresh Any Any
  rules =
      record {
        fresh_head = λ k. tt;
        fresh_symbol = λ k. tt;
        of_none = λ A a. refl;
        of_one = λ A X a x. refl;
        of_two = λ A X Y a x y. refl;
      }

  pub split_rules_lem : (A : ℕ) (β : List ℕ) (c : Conversion) → Adds IsRule c.written (split fresh A β c).written
  split_rules_lem A β c = split_adds rules c tt (any_symbols β)

  module _ (ws : List JobRecord) where
    pub split_within : (A : ℕ) (β : List ℕ) (c : Conversion) → Within ws (split fresh A β c) → Within ws c
    split_within A β c w x m =
        let a = split_rules_lem A β c in
        w x (subst (List·Memᴰ x) (sym a.is) (Memᴰ·append-left a.new m))

    convert_within : (r : List ℕ) (c : Conversion) → Within ws (convert fresh r c) → Within ws c
    unfolding convert
    convert_within r c w x m =
        cases (is_long_lem r) (λ t. split_within (head_of r) (body_of r) c (rw t at w) x m)
        (λ t. rw t at w x (Memᴰ·append-left (short_of r ∷ []) m))

    pub converts_within : (rs : List (List ℕ)) (c : Conversion) → Within ws (converts fresh rs c) → Within ws c
    unfolding converts
    converts_within [] c w = w
    converts_within (r ∷ rs) c w = convert_within r c (converts_within rs (convert fresh r c) w)
