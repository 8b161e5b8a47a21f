-- Names compared as the library compares text without regard to case, and the hash of a name made byte by byte. Assumes
-- nothing.
use Rattle.grammar.proofs.Basics.{◌≡◌, refl, sym, ◌∙◌, ap, ap₂, true, false, Bool, List, [], ◌∷◌, ℕ, ◌<◌, ◌≤◌, ◌+◌, ◌*◌}
use Rattle.grammar.proofs.Basics.{◌%◌, arith, eqb, eq-eqb, eqb-true, map, length, get_or, drop, and_left, and_right}
use Rattle.grammar.proofs.Basics.{false≢true, not_true_false, add-one, drop-cons, drop_of_length-le}
use Rattle.std.specs.Char.{to_ascii_lowercase}
use Rattle.std.proofs.lemmas.Bool.Decides.{nat_tests}
use Rattle.abnf.specs.Bytes.{lower}
use Rattle.abnf.specs.Meaning.{same_name}
use Rattle.naming.specs.Table.{hash_from}

lower_is : (b : ℕ) → lower b ≡ to_ascii_lowercase b
lower_is b = grind (arith, nat_tests)

pub lowered_same : (s t : List ℕ) → map to_ascii_lowercase s ≡ map to_ascii_lowercase t → same_name s t ≡ true
unfolding same_name
lowered_same [] [] e = refl
lowered_same [] (c ∷ t) e = cc
lowered_same (b ∷ s) [] e = cc
lowered_same (b ∷ s) (c ∷ t) e =
    let first : to_ascii_lowercase b ≡ to_ascii_lowercase c = ap (λ l. get_or l 0 0) e in
    let rest : map to_ascii_lowercase s ≡ map to_ascii_lowercase t = ap (drop 1) e in
    rw (eq-eqb (lower b) (lower c) (lower_is b ∙ first ∙ sym (lower_is c))) (lowered_same s t rest)

pub same_lowered : (s t : List ℕ) → same_name s t ≡ true → map to_ascii_lowercase s ≡ map to_ascii_lowercase t
unfolding same_name
same_lowered [] [] e = refl
same_lowered [] (c ∷ t) e = absurd (false≢true e)
same_lowered (b ∷ s) [] e = absurd (false≢true e)
same_lowered (b ∷ s) (c ∷ t) e =
    ap₂ ◌∷◌ (sym (lower_is b) ∙ eqb-true (lower b) (lower c) (and_left _ _ e) ∙ lower_is c)
    (same_lowered s t (and_right (eqb (lower b) (lower c)) (same_name s t) e))

-- what the library's comparison says
pub compared_is : (r : Bool) (s t : List ℕ) →
    (r ≡ true → map to_ascii_lowercase s ≡ map to_ascii_lowercase t)
    × (map to_ascii_lowercase s ≡ map to_ascii_lowercase t → r ≡ true) →
    same_name s t ≡ r
compared_is true s t h = lowered_same s t (h.0 refl)
compared_is false s t h = not_true_false _ (λ e. false≢true (h.1 (same_lowered s t e)))

-- a walk along a name that has come to an offset with the hash of what it has passed
pub hash_on : (name : List ℕ) (i h x : ℕ) → hash_from h (drop i name) ≡ hash_from 0 name → i < length name →
    x ≡ lower (get_or name i 0) → hash_from ((33 * h + x) % 1024) (drop (i + 1) name) ≡ hash_from 0 name
unfolding hash_from
hash_on name i h x same l e = rw (add-one, e) (rw (drop-cons name i 0) at same)

pub hash_whole : (name : List ℕ) (i h : ℕ) → hash_from h (drop i name) ≡ hash_from 0 name → length name ≤ i →
    h ≡ hash_from 0 name
unfolding hash_from
hash_whole name i h same l = rw (drop_of_length-le name l) at same
