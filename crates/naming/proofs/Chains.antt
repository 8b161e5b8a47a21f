-- The walk along the links of a bucket: it comes to the entry of a name, if there is one. Assumes nothing.
use Rattle.grammar.proofs.Basics.{◌≡◌, sym, ◌∙◌, true, false, Bool, suc, List, ℕ, ◌<◌, ◌≤◌, arith, get_or, [], length, le-ltb}
use Rattle.grammar.proofs.Basics.{not_true_false, true_and_false}
use Rattle.abnf.specs.Meaning.{same_name, number_of, is_among_lem}
use Rattle.naming.specs.declared.table.Entry.{Entry}
use Rattle.naming.specs.Table.{hash_of, name_in, names_in, link_in, Table}
use Rattle.naming.proofs.Names.{same_hash, same_others, same_swap, number_first, number_none, among_number}
use Rattle.naming.proofs.Entries.{last_or_before, names_counted, name_at}

-- a walk that looks for a name has come to k, counted from 1: it has passed no entry of that name
pub record Looking (text : List ℕ) (entries : List Entry) (count : ℕ) (name : List ℕ) (k : ℕ) : Type 0 where
  pub within : k ≤ count
  pub hash : (i : ℕ) → k ≡ suc i → hash_of (name_in text entries i) ≡ hash_of name
  pub below : (j : ℕ) → j < count → same_name (name_in text entries j) name ≡ true → j < k

module _ {text : List ℕ} {entries : List Entry} {buckets : List ℕ} {count : ℕ} (table : Table text entries buckets count)
    {names : List (List ℕ)} (are : names_in text entries count ≡ names) where
  pub look : (name : List ℕ) (h : ℕ) → h ≡ hash_of name → h < 1024 →
      Looking text entries count name (get_or buckets h 0)
  look name h e small = record {
    within = table.last h small;
    hash = λ i l. table.last_hash h i small l ∙ e;
    below = λ j l same. rw (e ∙ sym (same_hash 0 _ _ same)) (table.last_reaches j l);
  }

  pub as_many : length names ≡ count
  as_many = rw (← are) (names_counted text entries count)

  pub below_count : {i : ℕ} → i < length names → i < count
  below_count l = rw as_many at l

  pub stands : (i : ℕ) → i < count → get_or names i [] ≡ name_in text entries i
  stands i l = rw (← are) (name_at text entries count i l)

  module _ {name : List ℕ} {k : ℕ} (looking : Looking text entries count name k) where
    module _ {i : ℕ} (more : k ≡ suc i) where
      inside : i < count
      inside = omega (arith, looking.within)

      pub is_entered : i < length names
      is_entered = rw as_many inside

      pub link_below : link_in entries i < k
      link_below = omega (arith, table.link i inside)

      -- the name of the entry is compared
      module _ {same : Bool} (says : same_name (get_or names i []) name ≡ same) where
        compared : same_name (name_in text entries i) name ≡ same
        compared = rw (stands i inside) at says

        other : same ≡ false → (j : ℕ) → j < count → same_name (name_in text entries j) name ≡ true → j < i
        other f j l t =
            last_or_before j i (omega (arith, looking.below j l t))
            (λ e. true_and_false t (rw e (compared ∙ f))) (λ h. h)

        pub look_on : same ≡ false → Looking text entries count name (link_in entries i)
        look_on f = record {
          within = omega (arith, link_below, looking.within);
          hash = λ j l. table.link_hash i j inside l
              ∙ looking.hash i more;
          below = λ j l t. table.link_reaches i j (other f j l t) inside
              (looking.hash i more ∙ sym (same_hash 0 _ _ t));
        }

        first : same ≡ true → (j : ℕ) → j < i → same_name (name_in text entries j) name ≡ false
        first t j h =
            not_true_false _ (λ u. true_and_false
            (same_others (name_in text entries j) name _ u ∙ same_swap name _ ∙ compared ∙ t)
            (table.distinct j i h inside))

        pub found : same ≡ true → i ≡ number_of names name
        found t =
            number_first names name i is_entered (says ∙ t)
            (λ j h. rw (stands j (omega (arith, inside))) (first t j h))

    pub not_found : k ≤ 0 → is_among_lem names name ≡ false
    not_found none =
        among_number names name
        ∙ le-ltb (number_of names name) (length names)
        (let e =
        number_none names name (λ j l.
        let h : j < count = rw as_many at l in
        rw (stands j h) (not_true_false _ (λ t. absurd (omega (arith, looking.below j h t))))) in
        omega (arith, e))
