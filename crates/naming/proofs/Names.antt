-- Names without regard to case: which are the same, their hashes, and their numbers among others. Assumes nothing.
use Rattle.grammar.proofs.Basics.{◌≡◌, refl, sym, ◌∙◌, ap, ap₂, true, false, false≢true, ◌&&◌, List, [], ◌∷◌, ℕ, ◌<◌}
use Rattle.grammar.proofs.Basics.{◌≤◌, suc, zero, ◌*◌, ◌+◌, ◌%◌, arith, eqb, ltb, length, get_or, take, eqb-true}
use Rattle.grammar.proofs.Basics.{and_left, and_right, cases, lt-ltb, le-ltb, or_left, or_right, not_true_false}
use Rattle.grammar.proofs.Basics.{true_and_false}
use lib.Dec.{leb-suc-suc}
use lib.Seq.{take-length}
use Rattle.abnf.specs.Bytes.{lower}
use Rattle.abnf.specs.Meaning.{same_name, number_of, is_among_lem}
use Rattle.scanner.proofs.Offsets.{eqb_swap}
use Rattle.naming.specs.Table.{hash_from}

pub same_swap : (s t : List ℕ) → same_name s t ≡ same_name t s
unfolding same_name
same_swap [] [] = refl
same_swap [] (c ∷ t) = refl
same_swap (b ∷ s) [] = refl
same_swap (b ∷ s) (c ∷ t) = ap₂ ◌&&◌ (eqb_swap (lower b) (lower c)) (same_swap s t)

-- the first bytes of the same names, and what follows them
same_first : (b c : ℕ) (s t : List ℕ) → same_name (b ∷ s) (c ∷ t) ≡ true → lower b ≡ lower c
unfolding same_name
same_first b c s t e = eqb-true (lower b) (lower c) (and_left _ _ e)

same_rest : (b c : ℕ) (s t : List ℕ) → same_name (b ∷ s) (c ∷ t) ≡ true → same_name s t ≡ true
unfolding same_name
same_rest b c s t e = and_right (eqb (lower b) (lower c)) (same_name s t) e

-- the same names are the same as the same others, have one hash
pub same_others : (s t u : List ℕ) → same_name s t ≡ true → same_name s u ≡ same_name t u
unfolding same_name
same_others [] [] u e = refl
same_others [] (c ∷ t) u e = absurd (false≢true e)
same_others (b ∷ s) [] u e = absurd (false≢true e)
same_others (b ∷ s) (c ∷ t) [] e = refl
same_others (b ∷ s) (c ∷ t) (d ∷ u) e =
    ap₂ (λ x y. eqb x (lower d) && y) (same_first b c s t e) (same_others s t u (same_rest b c s t e))

pub same_hash : (h : ℕ) (s t : List ℕ) → same_name s t ≡ true → hash_from h s ≡ hash_from h t
unfolding same_name hash_from
same_hash h [] [] e = refl
same_hash h [] (c ∷ t) e = absurd (false≢true e)
same_hash h (b ∷ s) [] e = absurd (false≢true e)
same_hash h (b ∷ s) (c ∷ t) e =
    ap (λ x. hash_from ((33 * h + x) % 1024) s) (same_first b c s t e)
    ∙ same_hash ((33 * h + lower c) % 1024) s t (same_rest b c s t e)

-- the number of a name: that of the first place with the same name, or how many there are
pub number_first :
    (names : List (List ℕ)) (n : List ℕ) (i : ℕ) → i < length names → same_name (get_or names i []) n ≡ true →
    ((j : ℕ) → j < i → same_name (get_or names j []) n ≡ false) → i ≡ number_of names n
unfolding number_of
number_first [] n i l e before = absurd (omega arith)
number_first (m ∷ ms) n zero l e before = rw e
number_first (m ∷ ms) n (suc i) l e before =
    rw (before 0 (omega arith))
    (ap suc (number_first ms n i (omega arith) e (λ j h. before (suc j) (omega arith))))

pub number_none :
    (names : List (List ℕ)) (n : List ℕ) → ((j : ℕ) → j < length names → same_name (get_or names j []) n ≡ false) →
    length names ≡ number_of names n
unfolding number_of
number_none [] n none = refl
number_none (m ∷ ms) n none =
    rw (none 0 (omega arith)) (ap suc (number_none ms n (λ j h. none (suc j) (omega arith))))

-- a name is among the first d just if its number is below d
pub among_first : (names : List (List ℕ)) (n : List ℕ) (d : ℕ) → d ≤ length names →
    is_among_lem (take d names) n ≡ ltb (number_of names n) d
unfolding is_among_lem number_of
among_first names n zero l = sym (le-ltb (number_of names n) 0 (omega arith))
among_first [] n (suc d) l = absurd (omega arith)
among_first (m ∷ ms) n (suc d) l =
    cases (same_name m n) (λ e. rw e (sym (lt-ltb 0 (suc d) (omega arith))))
    (λ e. rw (e, leb-suc-suc) (among_first ms n d (omega arith)))

pub among_number : (names : List (List ℕ)) (n : List ℕ) → is_among_lem names n ≡ ltb (number_of names n) (length names)
among_number names n =
    sym (ap (λ l. is_among_lem l n) (take-length names)) ∙ among_first names n (length names) (omega arith)

-- a name that is not among others is the same as none of them
pub among_none : (names : List (List ℕ)) (n : List ℕ) → is_among_lem names n ≡ false →
    (i : ℕ) → i < length names → same_name (get_or names i []) n ≡ false
unfolding is_among_lem
among_none [] n e i l = absurd (omega arith)
among_none (m ∷ ms) n e zero l = not_true_false _ (λ t. true_and_false (or_left _ (is_among_lem ms n) t) e)
among_none (m ∷ ms) n e (suc i) l =
    among_none ms n (not_true_false _ (λ t. true_and_false (or_right (same_name m n) _ t) e)) i (omega arith)
