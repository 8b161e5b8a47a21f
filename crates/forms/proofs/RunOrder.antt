-- What a run of listings from a fresh table has listed: different places, those that carry the mark, each after its
-- premises. By induction on the run. Assumes nothing.
use Rattle.grammar.proofs.Basics.{◌≡◌, refl, ◌∙◌, ⊎_elim, true, false, List, ◌∷◌, [], List·Memᴰ, ◌++◌, List·Memᴰ·head}
use Rattle.grammar.proofs.Basics.{List·Memᴰ·not-nil, List·Memᴰ·eq-of-singleton, List·Memᴰ·append-cases}
use Rattle.grammar.proofs.Basics.{Memᴰ·append-left, Memᴰ·append-right, ℕ, ◌<◌, ◌≤◌, arith, eqb, ltb, length, get_or}
use Rattle.grammar.proofs.Basics.{length-append, get_or-set_other, eq-eqb, ltb-false, ltb-true, cases, true_and_false}
use lib.ListN.{get_or-append}
use lib.Seq.{get_or-append_seam}
use Rattle.grammar.specs.Counting.{NoRepeat}
use Rattle.grammar.specs.Rule.{Rule}
use Rattle.machine.specs.Table.{table_size}
use Rattle.forms.specs.Listing.{Listed, premises, is_listed}
use Rattle.forms.specs.Grounded.{Grounded}
use Rattle.forms.specs.Inside.ListingParts.{fresh}
use Rattle.forms.proofs.Distinct.{no_repeat_behind, index_of}
use Rattle.forms.proofs.Runs.{Run, set_cases, run_long}

module _ {ρs : List Rule} {reasons t : List ℕ} {g : Grounded ρs reasons t} {b : ℕ} where
  -- the places listed carry the mark
  pub listed_marked : {l : Listed} → Run g b (fresh t) l → (q : ℕ) → List·Memᴰ q l.places → get_or l.table q 0 ≡ 3
  listed_marked (Run.nothing long) q m = absurd (List·Memᴰ·not-nil m)
  listed_marked (Run.more {l' = k} p s d h) q m =
      set_cases (λ b. b ≡ 3) k.table p q 3 (omega (arith, run_long s, d.done.within)) (λ same. refl)
      (λ other. ⊎_elim (λ i. listed_marked s q i) (λ i. absurd (other (List·Memᴰ·eq-of-singleton i)))
      (List·Memᴰ·append-cases k.places m))

  -- all other bytes are as they were
  pub unlisted_kept : {l : Listed} → Run g b (fresh t) l → (q : ℕ) → (List·Memᴰ q l.places → ⊥) →
      get_or l.table q 0 ≡ get_or t q 0
  unlisted_kept (Run.nothing long) q out = refl
  unlisted_kept (Run.more {l' = k} p s d h) q out =
      get_or-set_other k.table p q 3 0 (λ e. out (Memᴰ·append-right k.places (List·Memᴰ·head e)))
      ∙ unlisted_kept s q (λ m. out (Memᴰ·append-left _ m))

  pub places_apart : {l : Listed} → Run g b (fresh t) l → NoRepeat l.places
  unfolding NoRepeat
  places_apart (Run.nothing long) = tt
  places_apart (Run.more {l' = k} p s d h) =
      no_repeat_behind k.places p (places_apart s)
      (λ m. true_and_false (eq-eqb _ 3 (listed_marked s p m)) d.unlisted)

  -- where nothing was listed before, what carries the mark is listed
  module _ (none : (p : ℕ) → p < table_size → is_listed t p ≡ false) where
    pub marked_listed : {l : Listed} → Run g b (fresh t) l → (q : ℕ) → q < table_size → is_listed l.table q ≡ true →
        List·Memᴰ q l.places
    marked_listed (Run.nothing long) q w = λ e. true_and_false e (none q w)
    marked_listed (Run.more {l' = k} p s d h) q w =
        set_cases (λ b. eqb b 3 ≡ true → List·Memᴰ q (k.places ++ (p ∷ []))) k.table p q 3
        (omega (arith, run_long s, d.done.within)) (λ same e. Memᴰ·append-right k.places (List·Memᴰ·head same))
        (λ other e. Memᴰ·append-left _ (marked_listed s q w e))

    -- premises stand before
    pub premises_before : {l : Listed} → Run g b (fresh t) l → (i : ℕ) → i < length l.places →
        (q : ℕ) → List·Memᴰ q (premises ρs reasons (get_or l.places i 0)) →
        (j : ℕ) × (j < i) × (get_or l.places j 0 ≡ q)
    premises_before (Run.nothing long) i w q m = absurd (omega arith)
    premises_before (Run.more {l' = k} p s d h) i w q m =
        cases (ltb i (length k.places))
        (λ f.
        let low : i < length k.places = ltb-true i _ f in
        let (j, under, e) = premises_before s i low q (rw (get_or-append k.places _ 0 i low) at m) in
        (j, under, get_or-append k.places _ 0 j (omega arith) ∙ e))
        (λ f.
        let high : length k.places ≤ i = ltb-false i _ f in
        let last : i ≡ length k.places = omega (arith, length-append k.places (p ∷ [])) in
        let premise : List·Memᴰ q (premises ρs reasons p) = rw (last, get_or-append_seam k.places p [] 0) at m in
        let (j, under, e) =
        index_of (marked_listed s q (g.premise_done p q d.done premise).within (d.behind q premise)) in
        (j, omega arith, get_or-append k.places _ 0 j under ∙ e))
