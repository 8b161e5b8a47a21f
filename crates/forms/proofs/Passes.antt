-- What a pass shows of a listing: records are counted, and stored one after the other. Assumes nothing.
use Rattle.grammar.proofs.Basics.{◌≡◌, refl, ◌∙◌, ap, true, false, Bool, List, ◌∷◌, [], ◌++◌, append-nil, append_assoc}
use Rattle.grammar.proofs.Basics.{ℕ, ◌+◌, suc, zero, ◌*◌, add-zero, arith, length, set, length-append, sets, cases}
use native.Mathlib.Nat.{add_assoc, mul-add}
use lib.Seq.{length-sets}
use Rattle.grammar.specs.Rule.{Rule}
use Rattle.forms.specs.Listing.{Listed, in_turn, visit, premises, listing_record, records_at, is_listed}
use Rattle.forms.specs.Inside.ListingParts.{fresh, shown, list_one_lem, ListingPass, pass_of}
use Rattle.forms.proofs.ReasonLaws.{record_length}

-- one listing
pub listed_written : (ρs : List Rule) (reasons t out : List ℕ) {out' : List ℕ} (n p : ℕ) →
    out' ≡ sets out (8 * n) (listing_record ρs reasons p) →
    pass_of (set t p 3) (n + 1) out' ≡ list_one_lem true ρs reasons p (pass_of t n out)
unfolding shown records_at
listed_written ρs reasons t out n p e = rw (append-nil _, e)

pub listed_counted : (ρs : List Rule) (reasons t out : List ℕ) (n p : ℕ) →
    pass_of (set t p 3) (n + 1) out ≡ list_one_lem false ρs reasons p (pass_of t n out)
unfolding shown
listed_counted ρs reasons t out n p = refl

-- stores in a row
sets_append : (xs ys l : List ℕ) (i : ℕ) → sets l i (xs ++ ys) ≡ sets (sets l i xs) (i + length xs) ys
sets_append [] ys l i = rw add-zero
sets_append (x ∷ xs) ys l i =
    sets_append xs ys _ (suc i) ∙ ap (λ k. sets (sets (set l i x) (suc i) xs) k ys) (omega arith)

module _ (ρs : List Rule) (reasons : List ℕ) where
  -- the records of places in a row
  records_append :
      (ps qs : List ℕ) → records_at ρs reasons (ps ++ qs) ≡ records_at ρs reasons ps ++ records_at ρs reasons qs
  unfolding records_at
  records_append [] qs = refl
  records_append (p ∷ ps) qs = rw (records_append ps qs, append_assoc)

  pub records_length : (ps : List ℕ) → length (records_at ρs reasons ps) ≡ 8 * length ps
  unfolding records_at
  records_length [] = refl
  records_length (p ∷ ps) =
      omega (
        arith,
        length-append (listing_record ρs reasons p) (records_at ρs reasons ps),
        record_length ρs reasons p,
        records_length ps,
      )

-- a listing m that goes on after l
abbrev pub after : Listed → Listed → Listed
after l m = record { table = m.table; places = l.places ++ m.places }

-- a pass that goes on shows both
shown_after : (write : Bool) (ρs : List Rule) (reasons : List ℕ) (n : ℕ) (out : List ℕ) (l m : Listed) →
    shown write ρs reasons (shown write ρs reasons n out l).count (shown write ρs reasons n out l).out m
    ≡ shown write ρs reasons n out (after l m)
unfolding shown
shown_after true ρs reasons n out l m =
    simp (length-append, records_append, sets_append, records_length, add_assoc, mul-add)
shown_after false ρs reasons n out l m = simp (length-append, add_assoc)

pub shows_on :
    (write : Bool) (ρs : List Rule) (reasons : List ℕ) (n : ℕ) (out : List ℕ) (l m : Listed) (a : ListingPass) →
    a ≡ shown write ρs reasons n out l →
    shown write ρs reasons a.count a.out m ≡ shown write ρs reasons n out (after l m)
shows_on write ρs reasons n out l m a e =
    ap (λ z. shown write ρs reasons z.count z.out m) e ∙ shown_after write ρs reasons n out l m

-- and keeps the length of the buffer
pub shown_out_length : (write : Bool) (ρs : List Rule) (reasons : List ℕ) (n : ℕ) (out : List ℕ) (l : Listed) →
    length (shown write ρs reasons n out l).out ≡ length out
unfolding shown
shown_out_length true ρs reasons n out l = length-sets out _ (records_at ρs reasons l.places)
shown_out_length false ρs reasons n out l = refl

-- visits do not look at the places listed before
nothing_after : (l : Listed) → l ≡ after l (fresh l.table)
nothing_after l = rw append-nil

in_turn_after : (f : ℕ → Listed → Listed) → ((p : ℕ) (l : Listed) → f p l ≡ after l (f p (fresh l.table))) →
    (ps : List ℕ) (l : Listed) → in_turn f ps l ≡ after l (in_turn f ps (fresh l.table))
unfolding in_turn
in_turn_after f e [] l = nothing_after l
in_turn_after f e (p ∷ ps) l =
    let m : Listed = f p (fresh l.table) in
    rw (e p l, in_turn_after f e ps _, in_turn_after f e ps m, append_assoc)

pub visit_after : (n : ℕ) (ρs : List Rule) (reasons : List ℕ) (p : ℕ) (l : Listed) →
    visit n ρs reasons p l ≡ after l (visit n ρs reasons p (fresh l.table))
unfolding visit
visit_after zero ρs reasons p l = nothing_after l
visit_after (suc n) ρs reasons p l =
    cases (is_listed l.table p)
    (λ e. rw e (nothing_after l))
    (λ e. rw (e, in_turn_after _ (visit_after n ρs reasons) (premises ρs reasons p) l, append_assoc))
