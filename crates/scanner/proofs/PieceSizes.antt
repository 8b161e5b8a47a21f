-- No piece goes past the end of its text, and the piece that begins at an offset. Assumes nothing.
use Rattle.grammar.proofs.Basics.{◌≡◌, refl, true, false, Bool, ◌&&◌, ◌||◌, not, cond, List, [], ◌∷◌, ℕ, ◌<◌}
use Rattle.grammar.proofs.Basics.{◌≤◌, ◌+◌, ◌-◌, suc, arith, eqb, length, get_or, take, drop, length-drop}
use Rattle.std.proofs.lemmas.List.{take_rest}
use Rattle.abnf.specs.declared.Edition.{Edition}
use Rattle.abnf.specs.declared.PieceKind.{PieceKind}
use Rattle.abnf.specs.declared.PieceKind.TheVariants.{NamePiece, BlankPiece, CommentPiece}
use Rattle.abnf.specs.declared.Begun.{Begun}
use Rattle.abnf.specs.Bytes.{is_alpha_lem, is_wsp_lem, is_hexdig, in_name, in_string, in_comment, is_x, is_s, is_i}
use Rattle.abnf.specs.Pieces.{span, begins, dotted, is_range_lem, fit, values_from, piece, neither, quoted, value, prefixed}
use Rattle.abnf.specs.Pieces.{percent, has_prefixes_lem, piece_of}
use Rattle.scanner.proofs.Offsets.{begins_long}
use Rattle.scanner.proofs.Stretches.{span_counts, dotted_counts, count_within}

-- a piece with at most so many bytes after its first
record Within (n : ℕ) (r : Begun) : Type 0 where
  at_most : r.more ≤ n

by_test : {n : ℕ} (t : Bool) {x y : Begun} → (t ≡ true → Within n x) → Within n y → Within n (cond t x y)
by_test true f g = f refl
by_test false f g = g

by_bit : (n : ℕ) (t : Bool) → (t ≡ true → 1 ≤ n) → cond t 1 0 ≤ n
by_bit n true f = f refl
by_bit n false f = omega arith

nothing : {n : ℕ} → Within n neither
nothing = record { at_most = omega arith }

stretch : (p : ℕ → Bool) (kind : PieceKind) (s : List ℕ) → Within (length s) (piece kind (span p s))
stretch p kind s = record { at_most = count_within (span_counts p) s }

-- a quote that stands where a stretch ends is inside
quoted_within : (n : ℕ) (s : List ℕ) → Within (n + length s) (quoted n s)
quoted_within n s =
    by_test (begins (eqb 34) (drop (span in_string s) s))
    (λ e. record { at_most = omega (arith, rw length-drop at (begins_long (eqb 34) (drop (span in_string s) s) e)) })
    nothing

value_within : (s : List ℕ) → Within (suc (length s)) (value s)
value_within s =
    by_test (begins is_hexdig s && not (is_range_lem s) && fit (values_from 0 (take (dotted s) s)))
    (λ e. record { at_most = omega (arith, count_within dotted_counts s) }) nothing

prefixed_within : (s : List ℕ) → Within (suc (length s)) (prefixed s)
prefixed_within [] = nothing
prefixed_within (b ∷ s) =
    by_test (eqb 34 b) (λ e. record { at_most = omega (arith, (quoted_within 2 s).at_most) }) nothing

percent_within : (e : Edition) (s : List ℕ) → Within (length s) (percent e s)
percent_within e [] = nothing
percent_within e (b ∷ s) =
    by_test (is_x b) (λ _. value_within s)
    (by_test (has_prefixes_lem e && (is_s b || is_i b)) (λ _. prefixed_within s) nothing)

more_within : (e : Edition) (b : ℕ) (s : List ℕ) → Within (length s) (piece_of e b s)
more_within e b s =
    by_test (is_alpha_lem b) (λ _. stretch in_name NamePiece s)
    (by_test (is_wsp_lem b) (λ _. stretch is_wsp_lem BlankPiece s)
    (by_test (eqb b 61) (λ _. record { at_most = by_bit _ (begins (eqb 47) s) (begins_long (eqb 47) s) })
    (by_test (eqb b 47) (λ _. record { at_most = omega arith })
    (by_test (eqb b 59) (λ _. stretch in_comment CommentPiece s)
    (by_test (eqb b 13)
    (λ _. by_test (begins (eqb 10) s) (λ e. record { at_most = begins_long (eqb 10) s e }) nothing)
    (by_test (eqb b 34) (λ _. record { at_most = omega (arith, (quoted_within 0 s).at_most) })
    (by_test (eqb b 37) (λ _. percent_within e s) nothing)))))))

pub piece_within : (e : Edition) (text : List ℕ) (at : ℕ) → at < length text → (r : Begun)
    → r ≡ piece_of e (get_or text at 0) (drop (at + 1) text) → at + 1 + r.more ≤ length text
piece_within e text at h r is =
    rw is (omega (arith, rw length-drop at (more_within e (get_or text at 0) (drop (at + 1) text)).at_most))

pub piece_before : (e : Edition) (text : List ℕ) (at : ℕ) → at < length text → (r : Begun)
    → r ≡ piece_of e (get_or text at 0) (take (length text - (at + 1)) (drop (at + 1) text)) → at + 1 + r.more ≤ length text
piece_before e text at h r is = piece_within e text at h r (rw take_rest at is)
