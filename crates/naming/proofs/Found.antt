-- What the search for a name gives: whether it is among the names, and its number. Assumes nothing.
use Rattle.grammar.proofs.Basics.{ℕ, ◌+◌, ◌<◌, ◌≤◌, List, [], ◌∷◌, ◌≡◌, ◌∙◌, sym, ap, Bool, true, false, not}
use Rattle.grammar.proofs.Basics.{arith, length, length-append, lt-ltb, ltb-false, cases}
use Rattle.std.specs.Prelude.{Option, Some, None, MatchOption}
use Rattle.std.specs.Option.{is_some, unwrap_or}
use Rattle.abnf.specs.Meaning.{same_name, number_of, is_among_lem}
use Rattle.naming.specs.Named.{entered}
use Rattle.naming.proofs.Names.{among_number}

pub number_within : (names : List (List ℕ)) (n : List ℕ) → number_of names n ≤ length names
unfolding number_of
number_within [] n = omega arith
number_within (m ∷ ms) n =
    cases (same_name m n) (λ t. rw t (omega arith)) (λ f. rw f (omega (arith, number_within ms n)))

-- a name's number, or nothing where it is not among the names
abbrev pub IsFound : List (List ℕ) → List ℕ → Option ℕ → Type 0
IsFound names n r = MatchOption r (is_among_lem names n ≡ false) (λ k. (k ≡ number_of names n) × (k < length names))

module _ (names : List (List ℕ)) (n : List ℕ) where
  among_known : (r : Option ℕ) → IsFound names n r → is_among_lem names n ≡ is_some r
  among_known None f = f
  among_known (Some k) f =
      among_number names n ∙ lt-ltb (number_of names n) (length names) (omega (arith, f.0, f.1))

  none_number : is_among_lem names n ≡ false → number_of names n ≡ length names
  none_number f =
      let past = ltb-false (number_of names n) (length names) (sym (among_number names n) ∙ f) in
      omega (arith, past, number_within names n)

  pub number_found : (r : Option ℕ) (count : ℕ) → count ≡ length names → IsFound names n r →
      unwrap_or r count ≡ number_of names n
  number_found None count c f = c ∙ sym (none_number f)
  number_found (Some k) count c f = f.0

  -- by a test whether it is none
  module _ (r : Option ℕ) (found : IsFound names n r) (none : Bool) (is : is_some r ≡ not none) where
    among : is_among_lem names n ≡ not none
    among = among_known r found ∙ is

    pub not_among : none ≡ true → is_among_lem names n ≡ false
    not_among t = among ∙ ap not t

    pub unknown_is : none ≡ not (is_among_lem names n)
    unknown_is = rw among (cases none (λ t. rw t) (λ f. rw f))

    pub stays_entered : none ≡ false → names ≡ entered names n
    stays_entered f = rw (among ∙ ap not f)

pub entered_few : (names : List (List ℕ)) (n : List ℕ) → length (entered names n) ≤ length names + 1
entered_few names n =
    cases (is_among_lem names n) (λ t. rw t (omega arith)) (λ f. rw (f, length-append) (omega arith))
