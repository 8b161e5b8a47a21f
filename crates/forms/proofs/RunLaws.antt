-- What a run of listings leaves: more places, each byte as it was or 3, and as many places not listed fewer as are
-- listed. By induction on the run. Assumes nothing.
use Rattle.grammar.proofs.Basics.{◌≡◌, refl, ◌∙◌, sym, ap, ⊎_elim, inl, inr, ◌⊎◌, true, false, false≢true, not, List}
use Rattle.grammar.proofs.Basics.{◌∷◌, [], List·Memᴰ, List·Memᴰ·eq-of-singleton, List·Memᴰ·append-cases, ℕ, ◌<◌, ◌≤◌}
use Rattle.grammar.proofs.Basics.{◌+◌, suc, arith, eqb, length, get_or, set, length-append, get_or-set_other}
use Rattle.grammar.proofs.Basics.{true_and_false}
use Rattle.grammar.proofs.Counting.{count_one_more, count_bound}
use Rattle.grammar.specs.Rule.{Rule}
use Rattle.machine.specs.Table.{table_size, Status, says_done, done_count_lem, byte_status, statuses}
use Rattle.forms.specs.Listing.{Listed, is_listed}
use Rattle.forms.specs.Grounded.{DonePlace, Grounded}
use Rattle.forms.specs.Inside.ListingParts.{unlisted_count, fresh}
use Rattle.forms.proofs.Runs.{Run, listing_lists, set_cases, run_long}

-- one listing takes one place off those that are not listed
pub listing_counts : (t : List ℕ) (p : ℕ) → p < table_size → table_size ≤ length t → is_listed t p ≡ false →
    unlisted_count t ≡ suc (unlisted_count (set t p 3))
unfolding unlisted_count
listing_counts t p within long e =
    count_one_more (λ q. not (is_listed (set t p 3) q)) (λ q. not (is_listed t q)) table_size p within
    (ap not (listing_lists t p (omega arith))) (ap not e)
    (λ q l other. ap (λ z. not (eqb z 3)) (sym (get_or-set_other t p q 3 0 other)))

pub unlisted_bound : (t : List ℕ) → unlisted_count t ≤ table_size
unfolding unlisted_count
unlisted_bound t = count_bound (λ q. not (is_listed t q)) table_size

pub done_bound : (t : List ℕ) → done_count_lem (statuses t) ≤ table_size
unfolding done_count_lem
done_bound t = count_bound _ table_size

module _ {ρs : List Rule} {reasons t : List ℕ} {g : Grounded ρs reasons t} {b : ℕ} {l : Listed} where
  pub run_places : {l' : Listed} → Run g b l l' → length l.places ≤ length l'.places
  run_places (Run.nothing long) = omega arith
  run_places (Run.more {l' = m} p s d h) = omega (arith, run_places s, length-append m.places (p ∷ []))

  -- a run that lists something is longer
  pub run_grows :
      {l' : Listed} → Run g b l l' → (q : ℕ) → is_listed l.table q ≡ false → is_listed l'.table q ≡ true →
      length l.places < length l'.places
  run_grows (Run.nothing long) q e f = true_and_false f e
  run_grows (Run.more {l' = m} p s d h) q e f = omega (arith, run_places s, length-append m.places (p ∷ []))

  pub run_counts : {l' : Listed} → Run g b l l' →
      length l'.places + unlisted_count l'.table ≡ length l.places + unlisted_count l.table
  run_counts (Run.nothing long) = refl
  run_counts (Run.more {l' = m} p s d h) =
      omega (
        arith,
        run_counts s,
        length-append m.places (p ∷ []),
        listing_counts m.table p d.done.within (run_long s) d.unlisted,
      )

  -- a byte is as it was, or 3 at a done place
  pub run_marks : {l' : Listed} → Run g b l l' → (q : ℕ) →
      (get_or l'.table q 0 ≡ get_or l.table q 0) ⊎ ((get_or l'.table q 0 ≡ 3) × DonePlace t q)
  run_marks (Run.nothing long) q = inl refl
  run_marks (Run.more {l' = m} p s d h) q =
      set_cases (λ b. (b ≡ get_or l.table q 0) ⊎ ((b ≡ 3) × DonePlace t q)) m.table p q 3
      (omega (arith, run_long s, d.done.within)) (λ same. inr (refl, rw same d.done)) (λ other. run_marks s q)

  -- only done places are listed
  pub run_lists_done :
      {l' : Listed} → Run g b l l' → (q : ℕ) → List·Memᴰ q l'.places → List·Memᴰ q l.places ⊎ DonePlace t q
  run_lists_done (Run.nothing long) q m = inl m
  run_lists_done (Run.more {l' = k} p s d h) q m =
      ⊎_elim (λ i. run_lists_done s q i)
      (λ i. let same : q ≡ p = List·Memᴰ·eq-of-singleton i in inr (rw same d.done))
      (List·Memᴰ·append-cases k.places m)

done_is : (s : Status) → says_done s ≡ true → s ≡ Status.done
done_is Status.absent e = absurd (false≢true e)
done_is Status.pending e = absurd (false≢true e)
done_is Status.done e = refl

-- marks leave what the table says
module _ {ρs : List Rule} {reasons t : List ℕ} {g : Grounded ρs reasons t} {b : ℕ} {l : Listed}
    (run : Run g b (fresh t) l) where
  pub status_same : (q : ℕ) → byte_status (get_or l.table q 0) ≡ byte_status (get_or t q 0)
  status_same q =
      ⊎_elim (λ e. ap byte_status e)
      (λ m. ap byte_status m.0 ∙ sym (done_is (byte_status (get_or t q 0)) m.1.is_done_lem')) (run_marks run q)

  pub done_kept : (q : ℕ) → DonePlace t q → DonePlace l.table q
  done_kept q d = record { within = d.within; is_done_lem' = ap says_done (status_same q) ∙ d.is_done_lem' }

  done_before : (q : ℕ) → DonePlace l.table q → DonePlace t q
  done_before q d = record { within = d.within; is_done_lem' = ap says_done (sym (status_same q)) ∙ d.is_done_lem' }

  -- and with it what a walk needs
  pub grounded_kept : Grounded ρs reasons l.table
  grounded_kept =
      record {
        bounded = λ p d. g.bounded p (done_before p d);
        reason = λ p d. g.reason p (done_before p d);
        premise_done = λ p q d m. done_kept q (g.premise_done p q (done_before p d) m);
        premise_earlier = λ p q d. g.premise_earlier p q (done_before p d);
      }
