-- Bytes that pass a test, as the definitions count them and as the families of the text have them. Assumes nothing.
use Rattle.grammar.proofs.Basics.{ℕ, suc, List, [], ◌∷◌, ◌++◌, ◌≡◌, refl, ◌∙◌, sym, ap, Bool, true, false, ◌||◌, ◌⊎◌}
use Rattle.grammar.proofs.Basics.{inl, inr, ⊎_elim, cases, length, take, drop, eqb, eqb-true, or_split, true_and_false}
use Rattle.grammar.proofs.Basics.{not_true_false, true≢false, false≢true}
use lib.Seq.{take-append_seam, drop-append_seam}
use Rattle.abnf.specs.Bytes.{is_wsp_lem}
use Rattle.abnf.specs.Text.{Many, no_more, one_more, OneOrMore, at_least_one}
use Rattle.abnf.specs.Pieces.{span, begins}

-- where two tests fail together, each fails
pub neither_of : (a b : Bool) → (a || b) ≡ false → (a ≡ false) × (b ≡ false)
neither_of true b h = absurd (true≢false h)
neither_of false b h = (refl, h)

-- a byte that passes a test is not one that fails it
pub another_byte : (p : ℕ → Bool) (b c : ℕ) → p b ≡ true → p c ≡ false → eqb b c ≡ false
another_byte p b c h f =
    not_true_false (eqb b c) (λ e. true_and_false (sym (ap p (eqb-true b c e)) ∙ h) f)

-- a blank is the byte 32 or the byte 9, and fails each test that both fail
pub blank_byte : (b : ℕ) → is_wsp_lem b ≡ true → (b ≡ 32) ⊎ (b ≡ 9)
blank_byte b h =
    ⊎_elim (λ e. inl (eqb-true b 32 e)) (λ e. inr (eqb-true b 9 e)) (or_split (eqb b 32) (eqb b 9) h)

pub blank_fails : (p : ℕ → Bool) (b : ℕ) → is_wsp_lem b ≡ true → p 32 ≡ false → p 9 ≡ false → p b ≡ false
blank_fails p b h f g = ⊎_elim (λ e. ap p e ∙ f) (λ e. ap p e ∙ g) (blank_byte b h)

-- at least one is any number
pub many : {p : ℕ → Bool} {s : List ℕ} → OneOrMore p s → Many p s
many (at_least_one h m) = one_more h m

-- the bytes that are counted pass the test
pub counted : (p : ℕ → Bool) (s : List ℕ) → Many p (take (span p s) s)
unfolding span
counted p [] = no_more
counted p (b ∷ s) =
    cases (p b) (λ h. rw h (one_more h (counted p s))) (λ h. rw h no_more)

-- and the byte behind them does not
pub behind_counted : (p : ℕ → Bool) (s : List ℕ) → begins p (drop (span p s) s) ≡ false
unfolding span begins
behind_counted p [] = refl
behind_counted p (b ∷ s) = cases (p b) (λ h. rw h (behind_counted p s)) (λ h. rw h h)

-- bytes that pass the test, before a text that begins with none, are counted just so; so they are what is taken, and
-- the text is what is left
span_none : (p : ℕ → Bool) (s : List ℕ) → begins p s ≡ false → span p s ≡ 0
unfolding span begins
span_none p [] h = refl
span_none p (b ∷ s) h = rw h

pub span_front : (p : ℕ → Bool) (s rest : List ℕ) → Many p s → begins p rest ≡ false → span p (s ++ rest) ≡ length s
unfolding span
span_front p s rest no_more f = span_none p rest f
span_front p s rest (one_more {s = t} h m) f = rw h (ap suc (span_front p t rest m f))

pub take_span : (p : ℕ → Bool) (s rest : List ℕ) → Many p s → begins p rest ≡ false →
    take (span p (s ++ rest)) (s ++ rest) ≡ s
take_span p s rest m f = ap (λ n. take n (s ++ rest)) (span_front p s rest m f) ∙ take-append_seam s rest

pub drop_span : (p : ℕ → Bool) (s rest : List ℕ) → Many p s → begins p rest ≡ false →
    drop (span p (s ++ rest)) (s ++ rest) ≡ rest
drop_span p s rest m f = ap (λ n. drop n (s ++ rest)) (span_front p s rest m f) ∙ drop-append_seam s rest

-- what is counted, and the byte behind it; the byte with which a text begins
pub up_to : (p : ℕ → Bool) (c : ℕ) (s : List ℕ) → begins (eqb c) (drop (span p s) s) ≡ true →
    take (suc (span p s)) s ≡ take (span p s) s ++ (c ∷ [])
unfolding span begins
up_to p c [] h = absurd (false≢true h)
up_to p c (b ∷ s) h =
    cases (p b)
    (λ t. rw t (ap (λ r. b ∷ r) (up_to p c s (rw t at h))))
    (λ f. rw f (ap (λ x. x ∷ []) (sym (eqb-true c b (rw f at h)))))

pub begins_with : (c : ℕ) (s : List ℕ) → begins (eqb c) s ≡ true → take 1 s ≡ c ∷ []
unfolding begins
begins_with c [] h = absurd (false≢true h)
begins_with c (b ∷ s) h = ap (λ x. x ∷ []) (sym (eqb-true c b h))
