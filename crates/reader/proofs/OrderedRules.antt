-- The second walk: the keys put in order for the bodies up to some are those of their rules, so at the end, with those
-- of the letters, the keys of the text's rules. Assumes nothing.
use Rattle.grammar.proofs.Basics.{◌≡◌, refl, ◌∙◌, sym, ap, subst, ⊎_elim, eq-or-lt_of_le, Bool, List, [], ◌∷◌, ◌++◌}
use Rattle.grammar.proofs.Basics.{append-nil, append_assoc, map, ℕ, ◌<◌, ◌≤◌, arith, length, take, replicate}
use mathlib.Core.List.{map-append}
use Rattle.std.specs.Prelude.{Option, Some, None}
use Rattle.job.specs.declared.JobRecord.{JobRecord}
use Rattle.job.specs.Job.{sort_key_lem}
use Rattle.job.specs.Theorems.RankCounts.{FourBytes}
use Rattle.job.proofs.Shapes.{rule_shape, shape_bounds}
use Rattle.abnf.specs.Text.{Line}
use Rattle.abnf.specs.Meaning.{names_of}
use Rattle.abnf_jobs.specs.Bodies.{Body, bodies_of}
use Rattle.abnf_jobs.specs.Characters.{used_in}
use Rattle.abnf_jobs.specs.Roles.{Role, with_letters, with_body, with_bodies, for_names, roles_of}
use Rattle.abnf_jobs.specs.Rules.{symbol_of, body_rules, rules_from, letters_rules, rules_of_lines}
use Rattle.abnf_jobs.proofs.EveryMember.{Every}
use Rattle.abnf_jobs.proofs.LettersMet.{letters_met}
use Rattle.abnf_jobs.proofs.RuleOrigins.{lines_rules}
use Rattle.abnf_jobs.proofs.RuleRange as range
use Rattle.bodies.specs.Items.{code_of}
use Rattle.text_symbols.specs.declared.letters.Variables.{Variables}
use Rattle.text_symbols.specs.Letters.{Letters, LettersTaken}
use Rattle.text_symbols.specs.Marks.{Numbered}
use Rattle.text_symbols.specs.Keys.{keys_in_order, Capped, RulesPut, ItemsFit, symbol_by, split_rules, letters_by}
use Rattle.text_symbols.proofs.KeysOnce.{in_order_behind}
use Rattle.reader.specs.Walk.{RulesKept, with_tails}
use Rattle.reader.proofs.KeptItems.{items_fit, kept_few, kept_too_many, kept_all, kept_long}
use Rattle.reader.proofs.LetterTables.{symbols_said, letters_said}
use Rattle.reader.proofs.KeyOrder.{keys_ordered}
use Rattle.reader.proofs.BodiesWalked.{roles_up_to, Walked, walked_none, walked_few, walked_bodies, walked_all}
use Rattle.reader.proofs.BodiesWalked.{is_one, items_fine, body_few, letters_taken, walked_more}

-- the rules of the bodies up to some, and of the rest
rules_apart : (used : ℕ → Bool) (rs : List Role) (bs cs : List Body) →
    rules_from used rs (bs ++ cs) ≡ rules_from used rs bs ++ rules_from used (with_bodies rs bs) cs
unfolding rules_from with_bodies
rules_apart used rs [] cs = refl
rules_apart used rs (b ∷ bs) cs =
    ap (λ ys. body_rules used (with_letters rs b.items) b ++ ys) (rules_apart used (with_body rs b.items) bs cs)
    ∙ sym (append_assoc (body_rules used (with_letters rs b.items) b)
    (rules_from used (with_body rs b.items) bs) (rules_from used (with_bodies (with_body rs b.items) bs) cs))

module _ (lines : List Line) where
  abbrev used : ℕ → Bool
  used = used_in (bodies_of lines)

  abbrev rules_up_to : List Body → List JobRecord
  rules_up_to done = rules_from used (for_names (length (names_of lines))) done

  rules_more : (done : List Body) (b : Body) →
      rules_up_to (done ++ (b ∷ [])) ≡ rules_up_to done ++ body_rules used (with_letters (roles_up_to lines done) b.items) b
  unfolding rules_from
  rules_more done b =
      rules_apart used (for_names (length (names_of lines))) done (b ∷ [])
      ∙ ap (λ ys. rules_up_to done ++ ys) (append-nil (body_rules used (with_letters (roles_up_to lines done) b.items) b))

-- keys put among others
put_behind : {rules after : Option (List ℕ)} (rs xs : List JobRecord) →
    Capped (keys_in_order [] (map sort_key_lem rs)) rules → RulesPut xs rules after →
    Capped (keys_in_order [] (map sort_key_lem (rs ++ xs))) after
put_behind rs xs kept put =
    rw (map-append, in_order_behind (map sort_key_lem xs) (map sort_key_lem rs) [])
    (put.put (keys_in_order [] (map sort_key_lem rs)) kept)

-- the rules of some bodies are put in order, and these bodies are left
pub record Ordered (lines : List Line) (left : List Body) (v : Variables) (rules : Option (List ℕ)) :
    Type 0 where
  pub done : List Body
  pub walked : Walked lines done left v
  pub kept : Capped (keys_in_order [] (map sort_key_lem (rules_up_to lines done))) rules

pub ordered_none : (lines : List Line) →
    Ordered lines (bodies_of lines) (record { letters = replicate 26 None; taken = length (names_of lines) }) (Some [])
unfolding rules_from keys_in_order
ordered_none lines =
    record { done = []; walked = walked_none lines; kept = refl }

-- a text whose variables and characters have numbers, by these terminals
module _ {lines : List Line} (it : range.Numbered lines) where
  pub rules_bytes : Every FourBytes (rules_of_lines lines)
  rules_bytes r m =
      let b = shape_bounds (rule_shape r (range.rules_fit it r m).1 (lines_rules lines r m)) in
      record { kind = b.0; first = omega arith; second = omega arith; third = omega arith }

  module _ {numbers : List ℕ} (numbered : Numbered (used lines) numbers) where
    -- one body more
    module _ {rest : List Body} {v : Variables} {rules : Option (List ℕ)} (b : Body)
        (so_far : Ordered lines (b ∷ rest) v rules) {items : List ℕ}
        (read : items ≡ take 35 (map code_of b.items)) where
      abbrev roles : List Role
      roles = with_letters (roles_up_to lines so_far.done) b.items

      pub head_byte : b.head < 32
      head_byte = range.head_below it b (is_one it.known it.bytes b so_far.walked)

      pub taken_few : v.taken ≤ 32
      taken_few = omega (arith, walked_few so_far.walked, it.variables)

      pub fewer : length items < 35
      fewer =
          let few = body_few it.known it.bytes b so_far.walked in
          ⊎_elim (λ e. omega (arith, it.variables, kept_too_many b.items read e)) (λ l. l)
          (eq-or-lt_of_le (kept_few b.items read))

      pub items_are : items ≡ map code_of b.items
      items_are = kept_all b.items read fewer

      names_few : length (names_of lines) ≤ 32
      names_few = omega (arith, walked_few (walked_none lines), it.variables)

      pub read_fit : ItemsFit items
      read_fit =
          rw items_are
          (items_fit (length (names_of lines)) names_few b.items
          (items_fine it.known it.bytes b so_far.walked))

      module _ {after : Variables} (more : LettersTaken items v after) where
        of_body : LettersTaken (map code_of b.items) v after
        of_body = rw (← items_are) more

        table : Letters roles after
        table = letters_taken it.known it.bytes b so_far.walked of_body

        -- the symbols of the body
        symbols : map (symbol_by after numbers) items ≡ map (symbol_of (used lines) roles) b.items
        symbols =
            ap (map (symbol_by after numbers)) items_are
            ∙ symbols_said table numbered (length (names_of lines)) b.items
            (items_fine it.known it.bytes b so_far.walked)
            (letters_met (roles_up_to lines so_far.done) b.items)

        pub ordered_more : {now : Option (List ℕ)} →
            RulesPut (split_rules b.head (map (symbol_by after numbers) items) after.taken) rules now →
            Ordered lines rest (with_tails items after) now
        ordered_more {now} put =
            record {
              done = so_far.done ++ (b ∷ []);
              walked =
                  rw (kept_long b.items read fewer)
                  (walked_more it.known it.bytes b so_far.walked of_body);
              kept =
                  rw (rules_more lines so_far.done b)
                  (put_behind (rules_up_to lines so_far.done) (body_rules (used lines) roles b) so_far.kept
                  (subst (λ xs. RulesPut (split_rules b.head xs (length roles)) rules now) symbols
                  (rw table.counted at put)));
            }

    -- the letters after all bodies
    pub ordered_all : {left : List Body} {v : Variables} {rules after : Option (List ℕ)} →
        Ordered lines left v rules → left ≡ [] → RulesPut (letters_by v numbers 26) rules after →
        RulesKept lines after
    ordered_all {v} {rules} {after} so_far none put =
        let table = walked_all so_far.walked none in
        let bodies = walked_bodies so_far.walked none in
        let letters-are = letters_said table numbered 26 (omega arith) in
        rw (← keys_ordered (rules_of_lines lines) rules_bytes)
        (put_behind (rules_up_to lines (bodies_of lines)) (letters_rules (used lines) (roles_of lines) 26)
        (subst (λ bs. Capped (keys_in_order [] (map sort_key_lem (rules_up_to lines bs))) rules) bodies so_far.kept)
        (subst (λ xs. RulesPut xs rules after) letters-are put))
