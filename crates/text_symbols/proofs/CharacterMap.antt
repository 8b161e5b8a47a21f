-- The characters used, put to the front of a map one by one, and the whole map. Assumes nothing.
use Rattle.grammar.proofs.Basics.{◌≡◌, refl, ◌∙◌, sym, true, false, Bool, List, ◌++◌, append-nil, ℕ, ◌<◌, ◌≤◌, ◌+◌}
use Rattle.grammar.proofs.Basics.{suc, ◌-◌, add-zero, add-one, arith, ltb, length, get_or, set, drop, length-set}
use Rattle.grammar.proofs.Basics.{length-append, length-drop, drop-cons, ext_get_or, ltb-true, ltb-false, cases}
use lib.ListN.{get_or-append, get_or-eq_default}
use lib.Seq.{append_snoc, set_at, get_or-append-add, get_or-drop}
use Rattle.grammar.specs.Counting.{count}
use Rattle.job.specs.Written.{cleared}
use Rattle.job.proofs.Filling.{written_long, written_at, written_past}
use Rattle.job.proofs.Clearing.{cleared_length, cleared_front, cleared_rest}
use Rattle.abnf_jobs.specs.Characters.{used_below, mapped}
use Rattle.abnf_jobs.proofs.UsedCharacters.{used_long}
use Rattle.text_symbols.proofs.MarkedSets.{counted_first}

-- the characters below c stand in front of what was in a map before, and k is their number
pub record Filling (used : ℕ → Bool) (before map : List ℕ) (k c : ℕ) : Type 0 where
  pub below : c ≤ 256
  pub counted : k ≡ count used c
  pub size : length map ≡ length before
  pub is : map ≡ used_below used c ++ drop (count used c) before

module _ (used : ℕ → Bool) (before : List ℕ) where
  pub filling_none : Filling used before before 0 0
  unfolding used_below count
  filling_none = record { below = omega arith; counted = refl; size = refl; is = refl }

  module _ (map : List ℕ) (k c : ℕ) (f : Filling used before map k c) (l : c < 256) where
    pub filling_without : used c ≡ false → Filling used before map k (c + 1)
    unfolding used_below count
    filling_without t =
        record {
          below = omega arith;
          counted = rw (add-one c, t) (omega (arith, f.counted));
          size = f.size;
          is = rw (add-one c, t, append-nil, add-zero (count used c)) f.is;
        }

    module _ (t : used c ≡ true) where
      one_more : count used (c + 1) ≡ suc (count used c)
      unfolding count
      one_more = rw (add-one c, t) (omega arith)

      module _ (few : count used 256 ≤ 32) (room : 32 ≤ length before) where
        inside : count used c < length before
        inside = omega (arith, one_more, counted_first used (c + 1) 256 (omega arith))

        pub filling_room : k < length map
        filling_room = omega (arith, inside, f.counted, f.size)

        pub filling_with : Filling used before (set map k c) (k + 1) (c + 1)
        unfolding used_below
        filling_with =
            record {
              below = omega arith;
              counted = omega (arith, one_more, f.counted);
              size = length-set map k c ∙ f.size;
              is =
                  rw (one_more, add-one c, t, append_snoc, f.is, f.counted, drop-cons before (count used c) 0 inside)
                  (set_at (used_below used c) (get_or before (count used c) 0) (drop (suc (count used c)) before) c
                  (count used c) (used_long used c));
            }

-- where zeros were put first, characters in front of them are the map
module _ (characters map : List ℕ) (few : length characters ≤ 32) (room : 32 ≤ length map) where
  abbrev in_front : List ℕ
  in_front = characters ++ drop (length characters) (cleared 32 map)

  front_at : (i : ℕ) → i < length characters → get_or in_front i 0 ≡ get_or (mapped characters map) i 0
  front_at i l =
      get_or-append characters (drop (length characters) (cleared 32 map)) 0 i l
      ∙ sym (written_at (λ k. get_or characters k 0) 32 map i (omega arith) (omega arith))

  behind_at : (i : ℕ) → length characters ≤ i → i < length map → get_or in_front i 0 ≡ get_or (mapped characters map) i 0
  behind_at i l h =
      let e : length characters + (i - length characters) ≡ i = omega arith in
      rw e at
      (get_or-append-add characters (drop (length characters) (cleared 32 map)) (i - length characters) 0
      ∙ get_or-drop (length characters) (cleared 32 map) (i - length characters) 0)
      ∙ cases (ltb i 32)
      (λ t.
      let m = ltb-true i 32 t in
      cleared_front 32 map i m
      ∙ sym (written_at (λ k. get_or characters k 0) 32 map i m h ∙ get_or-eq_default characters 0 l))
      (λ t.
      let m = ltb-false i 32 t in
      cleared_rest 32 map i m ∙ sym (written_past (λ k. get_or characters k 0) 0 32 map i m))

  front_long : length in_front ≡ length map
  front_long = rw (length-append, length-drop, cleared_length) (omega arith)

  front_mapped : in_front ≡ mapped characters map
  front_mapped =
      ext_get_or 0 in_front (mapped characters map)
      (front_long ∙ sym (written_long (λ k. get_or characters k 0) 0 32 map))
      (λ i l. cases (ltb i (length characters))
      (λ t. front_at i (ltb-true i (length characters) t))
      (λ t. behind_at i (ltb-false i (length characters) t) (omega (arith, front_long))))

-- so are the characters used, where what was there before is cleared
pub used_mapped : (used : ℕ → Bool) (map : List ℕ) → count used 256 ≤ 32 → 32 ≤ length map →
    used_below used 256 ++ drop (count used 256) (cleared 32 map) ≡ mapped (used_below used 256) map
used_mapped used map few room =
    rw (used_long used 256) at (front_mapped (used_below used 256) map (rw (used_long used 256) few) room)
