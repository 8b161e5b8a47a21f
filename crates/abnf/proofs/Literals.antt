-- What signs and literals say is what the definitions read off their bytes. Assumes nothing.
use Rattle.grammar.proofs.Basics.{ℕ, List, [], ◌∷◌, ◌++◌, ◌≡◌, refl, ◌∙◌, ap, true, false, map, eqb, eqb-true}
use Rattle.grammar.proofs.Basics.{false≢true}
use Rattle.abnf.specs.declared.Edition.{Edition}
use Rattle.abnf.specs.declared.Mark.{Mark}
use Rattle.abnf.specs.declared.Character.{Character}
use Rattle.abnf.specs.Bytes.{is_hexdig, in_string, lower, is_x, exact, either_case}
use Rattle.abnf.specs.Text.{Many, Sign, equals, equals_slash, quoted_string, Literal, char_val, num_val}
use Rattle.abnf.specs.Text.{sensitive, insensitive}
use Rattle.abnf.specs.Pieces.{begins, values_from}
use Rattle.abnf.specs.Reading.{mark_of, characters_of_lem, characters_after, inner}
use Rattle.abnf.proofs.Spans.{take_span}
use Rattle.abnf.proofs.Values.{hex_numbers, hex_says, numbers_begin}

-- the mark of a sign
pub sign_says : {s : List ℕ} {m : Mark} → Sign s m → mark_of s ≡ m
sign_says equals = refl
sign_says equals_slash = refl

-- what stands up to the quote
pub inner_quoted : (s rest : List ℕ) → Many in_string s → inner (s ++ (34 ∷ rest)) ≡ s
unfolding begins
inner_quoted s rest m = take_span in_string s (34 ∷ rest) m refl

-- a letter that is one small letter or its capital is not another's
pub another_letter : (b m n : ℕ) → eqb (lower b) m ≡ true → eqb m n ≡ false → eqb (lower b) n ≡ false
another_letter b m n h f = ap (λ l. eqb l n) (eqb-true (lower b) m h) ∙ f

-- the characters after %x
after_x : (x : ℕ) (s : List ℕ) → is_x x ≡ true → begins is_hexdig s ≡ true →
    characters_after x s ≡ map exact (values_from 0 s)
unfolding begins
after_x x [] h g = absurd (false≢true g)
after_x x (b ∷ s) h g = rw h

-- the characters of a literal
pub literal_says : {e : Edition} {s : List ℕ} {cs : List Character} → Literal e s cs → characters_of_lem s ≡ cs
literal_says (char_val (quoted_string {s = s} m)) = ap (map either_case) (inner_quoted s [] m)
literal_says (num_val {x = x} {s = s} h v) =
    after_x x s h (numbers_begin (hex_numbers v)) ∙ ap (map exact) (hex_says v)
literal_says (sensitive {x = x} h (quoted_string {s = s} m)) =
    rw (another_letter x 115 120 h refl, h) (ap (map exact) (inner_quoted s [] m))
literal_says (insensitive {x = x} h (quoted_string {s = s} m)) =
    rw (another_letter x 105 120 h refl, another_letter x 105 115 h refl)
    (ap (map either_case) (inner_quoted s [] m))
