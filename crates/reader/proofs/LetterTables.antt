-- Tables of letters: names have none, and tails leave them as they are. The symbols and the rules that a table and the
-- terminals of characters say are those of the roles. Assumes nothing.
use Rattle.grammar.proofs.Basics.{◌≡◌, refl, ◌∙◌, sym, ap, ap₂, true, false, Bool, cases, List, [], ◌∷◌, ◌++◌, map}
use Rattle.grammar.proofs.Basics.{List·Memᴰ, List·Memᴰ·head, List·Memᴰ·tail, ℕ, zero, suc, ◌<◌, ◌≤◌, ◌+◌, ◌-◌, arith}
use Rattle.grammar.proofs.Basics.{length, get_or, replicate, length-append, lt-ltb, le-ltb}
use lib.ListN.{length-replicate, get_or-replicate}
use Rattle.abnf_jobs.specs.Bodies.{Item, named, letter, character}
use Rattle.abnf_jobs.specs.Roles.{Role, is_met, variable_of, tails_of, for_names}
use Rattle.abnf_jobs.specs.Rules.{symbol_of, letter_rules, letters_rules}
use Rattle.abnf_jobs.proofs.EveryMember.{Every}
use Rattle.abnf_jobs.proofs.FineItems.{Fine}
use Rattle.abnf_jobs.proofs.RolePlaces.{begins_with, names_count}
use Rattle.abnf_jobs.proofs.LettersMet.{met_apart, tails_unmet, names_unmet, met_begun, variable_begun}
use Rattle.abnf_jobs.proofs.VariablesOnce.{tails_long}
use Rattle.bodies.specs.Items.{code_of}
use Rattle.std.specs.Prelude.{Option, Some, None}
use Rattle.std.specs.Option.{unwrap_or}
use Rattle.text_symbols.specs.declared.letters.Variables.{Variables}
use Rattle.text_symbols.specs.Letters.{Letters}
use Rattle.text_symbols.specs.Marks.{Numbered}
use Rattle.text_symbols.specs.Keys.{symbol_by, letter_by, letters_by}

pub letters_of_names : (n : ℕ) → Letters (for_names n) (record { letters = replicate 26 None; taken = n })
letters_of_names n =
    record {
      size = length-replicate {A = Option ℕ} 26 None;
      counted = sym (names_count n);
      at = λ k l. rw (names_unmet (97 + k) n) (get_or-replicate {A = Option ℕ} 26 k None None l);
    }

-- what is met with tails behind
unmet_before_tails : (roles : List Role) (xs : List Item) (l : ℕ) → is_met roles l ≡ false →
    is_met (roles ++ tails_of xs) l ≡ false
unmet_before_tails roles xs l t = rw (met_apart roles (tails_of xs) l, t, tails_unmet l xs)

pub letters_with_tails : {roles : List Role} {v : Variables} (xs : List Item) → Letters roles v →
    Letters (roles ++ tails_of xs) (record { letters = v.letters; taken = v.taken + (length xs - 2) })
letters_with_tails {roles} {v} xs it =
    record {
      size = it.size;
      counted = omega (arith, it.counted, length-append roles (tails_of xs), tails_long xs);
      at = λ k h.
          let l = 97 + k in
          let begun = begins_with (tails_of xs) in
          cases (is_met roles l)
          (λ t. rw (met_begun l begun t, variable_begun l begun t) (rw t at (it.at k h)))
          (λ t. rw (unmet_before_tails roles xs l t) (rw t at (it.at k h)));
    }

module _ {used : ℕ → Bool} {roles : List Role} {v : Variables} {numbers : List ℕ}
    (it : Letters roles v) (numbered : Numbered used numbers) where
  -- a letter that is met
  met_at : (k : ℕ) → k < 26 → is_met roles (97 + k) ≡ true → get_or v.letters k None ≡ Some (variable_of roles (97 + k))
  met_at k h t = it.at k h ∙ rw t

  letter_at : (k l : ℕ) → k < 26 → 97 + k ≡ l → is_met roles l ≡ true → get_or v.letters k None ≡ Some (variable_of roles l)
  letter_at k l h e t = rw (← e) (met_at k h (rw (← e) at t))

  module _ (names : ℕ) where
    symbol_said : (x : Item) → Fine names x → ((l : ℕ) → letter l ≡ x → is_met roles l ≡ true) →
        symbol_by v numbers (code_of x) ≡ symbol_of used roles x
    symbol_said (named n) f met =
        rw (le-ltb (code_of (named n)) 256 (omega arith), le-ltb (code_of (named n)) 512 (omega arith)) (omega arith)
    symbol_said (letter l) f met =
        rw (le-ltb (code_of (letter l)) 256 (omega arith), lt-ltb (code_of (letter l)) 512 (omega arith))
        (ap (λ o. unwrap_or o 255) (letter_at (code_of (letter l) - 353) l (omega arith) (omega arith) (met l refl)))
    symbol_said (character b) f met = rw (lt-ltb b 256 f) (numbered.at b f)

    pub symbols_said : (xs : List Item) → Every (Fine names) xs →
        ((l : ℕ) → List·Memᴰ (letter l) xs → is_met roles l ≡ true) →
        map (symbol_by v numbers) (map code_of xs) ≡ map (symbol_of used roles) xs
    symbols_said [] fine met = refl
    symbols_said (x ∷ xs) fine met =
        ap₂ ◌∷◌
        (symbol_said x (fine x (List·Memᴰ·head refl)) (λ l e. met l (List·Memᴰ·head e)))
        (symbols_said xs (λ y m. fine y (List·Memᴰ·tail m)) (λ l m. met l (List·Memᴰ·tail m)))

  -- the rules of a letter
  letter_said : (k : ℕ) → k < 26 → letter_by v numbers k ≡ letter_rules used roles (97 + k)
  letter_said k h =
      let l = 97 + k in
      let capital : 97 + k - 32 ≡ 65 + k = omega arith in
      cases (is_met roles l)
      (λ t. rw (met_at k h t, t, numbered.at (65 + k) (omega arith), numbered.at l (omega arith), capital))
      (λ t. rw (it.at k h, t))

  pub letters_said : (n : ℕ) → n ≤ 26 → letters_by v numbers n ≡ letters_rules used roles n
  unfolding letters_by letters_rules
  letters_said zero h = refl
  letters_said (suc n) h = ap₂ ◌++◌ (letters_said n (omega arith)) (letter_said n h)
