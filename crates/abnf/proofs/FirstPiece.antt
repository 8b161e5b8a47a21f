-- The piece with which a text begins is none or what its kind says. Assumes nothing.
use Rattle.grammar.proofs.Basics.{ℕ, suc, ◌+◌, List, [], ◌∷◌, ◌≡◌, refl, Bool, true, false, cond, not, ◌&&◌, ◌||◌, ◌⊎◌}
use Rattle.grammar.proofs.Basics.{inl, inr, ⊎_elim, cases, take, drop, eqb, eqb-true, and_left, and_right, or_split}
use Rattle.grammar.proofs.Basics.{arith, zero-add, false≢true}
use Rattle.abnf.specs.declared.Edition.{Edition}
use Rattle.abnf.specs.declared.Edition.TheVariants.{Rfc5234, Rfc7405}
use Rattle.abnf.specs.declared.Begun.{Begun}
use Rattle.abnf.specs.declared.PieceKind.TheVariants.{MarkPiece, NoPiece}
use Rattle.abnf.specs.Bytes.{is_alpha_lem, is_hexdig, is_wsp_lem, in_name, in_string, in_comment, is_x, is_s, is_i}
use Rattle.abnf.specs.Text.{at_least_one, rulename, equals, equals_slash, comment, QuotedString, quoted_string}
use Rattle.abnf.specs.Text.{char_val, num_val, sensitive, insensitive}
use Rattle.abnf.specs.Pieces.{piece_of, neither, quoted, value, prefixed, percent, span, begins, dotted}
use Rattle.abnf.specs.Pieces.{values_from, fit, is_range_lem, has_prefixes_lem, mark, line_end}
use Rattle.abnf.proofs.Spans.{counted, up_to, begins_with}
use Rattle.abnf.proofs.Values.{hex_val, dotted_numbers, digit_first, counted_dotted}
use Rattle.abnf.proofs.Walks.{PieceText, name_text, mark_text, slash_text, blank_text, literal_text}
use Rattle.abnf.proofs.Walks.{comment_text, end_text}

-- what begins with the byte b, before the text s, is no piece or what its kind says
abbrev Fine : Edition → ℕ → List ℕ → Begun → Type 0
Fine e b s q = (q.kind ≡ NoPiece) ⊎ PieceText e q.kind (b ∷ take q.more s)

-- so it is if it is in both cases of a test, and where the first byte is a given one
by_test : {e : Edition} {b : ℕ} (s : List ℕ) (t : Bool) (x y : Begun) →
    (t ≡ true → Fine e b s x) → (t ≡ false → Fine e b s y) → Fine e b s (cond t x y)
by_test s true x y f g = f refl
by_test s false x y f g = g refl

by_byte : {e : Edition} {b : ℕ} (s : List ℕ) (c : ℕ) (x y : Begun) →
    Fine e c s x → (eqb b c ≡ false → Fine e b s y) → Fine e b s (cond (eqb b c) x y)
by_byte {b = b} s c x y f g = by_test s (eqb b c) x y (λ h. rw (eqb-true b c h) f) g

-- what stands between quotes, and a string that begins with one
quotes : (s : List ℕ) → begins (eqb 34) (drop (span in_string s) s) ≡ true →
    QuotedString (34 ∷ take (suc (span in_string s)) s) (take (span in_string s) s)
quotes s h = rw (up_to in_string 34 s h) (quoted_string (counted in_string s))

string_fine : (e : Edition) (s : List ℕ) → Fine e 34 s (quoted 0 s)
string_fine e s =
    by_test s (begins (eqb 34) (drop (span in_string s) s)) _ neither
    (λ h. inr (rw (zero-add (suc (span in_string s))) (literal_text (char_val (quotes s h)))))
    (λ n. inl refl)

-- what stands after %x; after %s and %i, which one edition has; after a percent sign
value_fine : (e : Edition) (x : ℕ) (s : List ℕ) → is_x x ≡ true → Fine e 37 (x ∷ s) (value s)
value_fine e x s h =
    let digits = begins is_hexdig s in
    let fits = fit (values_from 0 (take (dotted s) s)) in
    by_test (x ∷ s) (digits && not (is_range_lem s) && fits) _ neither
    (λ t.
    let first = digit_first s (and_left digits (not (is_range_lem s)) (and_left (digits && not (is_range_lem s)) fits t)) in
    inr (literal_text (num_val h
    (hex_val (dotted_numbers (take (dotted s) s) first (counted_dotted s))
    (and_right (digits && not (is_range_lem s)) fits t)))))
    (λ n. inl refl)

prefixed_fine : (e : Edition) (x : ℕ) (s : List ℕ) → (has_prefixes_lem e && (is_s x || is_i x)) ≡ true →
    Fine e 37 (x ∷ s) (prefixed s)
prefixed_fine e x [] h = inl refl
prefixed_fine Rfc5234 x (c ∷ s) h = absurd (false≢true h)
prefixed_fine Rfc7405 x (c ∷ s) h =
    by_test (x ∷ c ∷ s) (eqb 34 c) _ neither
    (λ q.
    by_test (x ∷ c ∷ s) (begins (eqb 34) (drop (span in_string s) s)) _ neither
    (λ t.
    let size : 2 + suc (span in_string s) ≡ suc (suc (suc (span in_string s))) = omega arith in
    inr (rw (size, ← (eqb-true 34 c q))
    (⊎_elim
    (λ l. literal_text (sensitive l (quotes s t)))
    (λ l. literal_text (insensitive l (quotes s t)))
    (or_split (is_s x) (is_i x) h))))
    (λ n. inl refl))
    (λ n. inl refl)

percent_fine : (e : Edition) (s : List ℕ) → Fine e 37 s (percent e s)
percent_fine e [] = inl refl
percent_fine e (x ∷ s) =
    by_test (x ∷ s) (is_x x) _ _ (value_fine e x s)
    (λ n. by_test (x ∷ s) (has_prefixes_lem e && (is_s x || is_i x)) _ neither (prefixed_fine e x s) (λ o. inl refl))

-- a mark, with a slash or without; a line end
slash_taken : (e : Edition) (s : List ℕ) → begins (eqb 47) s ≡ true → PieceText e MarkPiece (61 ∷ take 1 s)
slash_taken e s h = rw (begins_with 47 s h) (mark_text equals_slash)

mark_fine : (e : Edition) (s : List ℕ) → Fine e 61 s (mark s)
mark_fine e s =
    inr
    (cases (begins (eqb 47) s)
    (λ h. rw h (slash_taken e s h))
    (λ n. rw n (mark_text equals)))

end_fine : (e : Edition) (s : List ℕ) → Fine e 13 s (line_end s)
end_fine e s =
    by_test s (begins (eqb 10) s) _ neither (λ h. inr (rw (begins_with 10 s h) end_text)) (λ n. inl refl)

-- every piece
pub lexed_piece : (e : Edition) (b : ℕ) (s : List ℕ) →
    ((piece_of e b s).kind ≡ NoPiece) ⊎ PieceText e (piece_of e b s).kind (b ∷ take (piece_of e b s).more s)
lexed_piece e b s =
    by_test s (is_alpha_lem b) _ _ (λ h. inr (name_text (rulename h (counted in_name s))))
    (λ n. by_test s (is_wsp_lem b) _ _ (λ h. inr (blank_text (at_least_one h (counted is_wsp_lem s))))
    (λ n. by_byte s 61 _ _ (mark_fine e s)
    (λ n. by_byte s 47 _ _ (inr slash_text)
    (λ n. by_byte s 59 _ _ (inr (comment_text (comment (counted in_comment s))))
    (λ n. by_byte s 13 _ _ (end_fine e s)
    (λ n. by_byte s 34 _ _ (string_fine e s)
    (λ n. by_byte s 37 _ _ (percent_fine e s) (λ n. inl refl))))))))
