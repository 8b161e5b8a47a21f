-- Terminals and characters: of the characters used, one has each number, so that strings of them are read through the
-- list of them. Assumes nothing.
use Rattle.grammar.proofs.Basics.{◌≡◌, sym, ◌∙◌, ap, subst, true, Bool, cases, List, ◌∷◌, map, ℕ, ◌<◌, arith, length}
use Rattle.grammar.proofs.Basics.{get_or, ltb, ltb-true, ltb-false}
use Rattle.grammar.specs.Counting.{count}
use Rattle.grammar.proofs.NoRepeat.{member_at}
use Rattle.grammar.proofs.Strings.{All, nil, cons}
use Rattle.abnf_jobs.specs.Characters.{used_below, terminal_of}
use Rattle.abnf_jobs.specs.Theorems.Written.{Through, no_more, one_more}
use Rattle.abnf_jobs.proofs.UsedCharacters.{used_member, used_place, used_ascending}

module _ (used : ℕ → Bool) (n : ℕ) where
  -- a character that is used
  abbrev pub Used : ℕ → Type 0
  Used c = (c < n) × (used c ≡ true)

  abbrev list : List ℕ
  list = used_below used n

  pub one_number : (b c : ℕ) → Used b → Used c → count used b ≡ count used c → b ≡ c
  one_number b c (k, s) (l, t) e =
      sym (used_place used n b k s).1 ∙ ap (λ i. get_or list i 0) e ∙ (used_place used n c l t).1

  -- the character of a number
  pub character_used : (i : ℕ) → i < length list → Used (get_or list i 0)
  character_used i h = used_member used n (get_or list i 0) (member_at 0 list i h)

  pub number_is : (i : ℕ) → i < length list → count used (get_or list i 0) ≡ i
  number_is i h =
      let c = get_or list i 0 in
      let (l, t) = character_used i h in
      let (k, at) = used_place used n c l t in
      let j = count used c in
      cases (ltb j i)
      (λ u. absurd (omega (arith, used_ascending used n j i (ltb-true j i u) h)))
      (λ u.
      cases (ltb i j)
      (λ s. absurd (omega (arith, used_ascending used n i j (ltb-true i j s) k)))
      (λ s. omega (arith, ltb-false j i u, ltb-false i j s)))

  -- a string of used characters is read through the list of them
  pub one_through : (c : ℕ) {v w : List ℕ} → Used c → Through list (length list) v w →
      Through list (length list) (terminal_of used c ∷ v) (c ∷ w)
  one_through c {v} {w} (l, t) r =
      let (k, at) = used_place used n c l t in
      subst (λ b. Through list (length list) (terminal_of used c ∷ v) (b ∷ w)) at (one_more k r)

  pub used_through : {w : List ℕ} → All Used w → Through list (length list) (map (terminal_of used) w) w
  used_through nil = no_more
  used_through (cons {X = c} u a) = one_through c u (used_through a)
