-- A table with one name more: its entry behind the others, and the last of its bucket. Assumes nothing.
use Rattle.grammar.proofs.Basics.{◌≡◌, sym, ◌∙◌, ap, ap₂, false, List, [], ◌∷◌, ◌++◌, ℕ, ◌<◌, ◌≤◌, ◌+◌, suc}
use Rattle.grammar.proofs.Basics.{arith, get_or, set, eqb, eqb-true, eqb-false, cases, add-one, length-set}
use Rattle.grammar.proofs.Basics.{get_or-set_same, get_or-set_other}
use Rattle.abnf.specs.Meaning.{same_name, is_among_lem}
use Rattle.scanner.specs.Parts.{part_of_lem}
use Rattle.naming.specs.declared.table.Entry.{Entry}
use Rattle.naming.specs.Named.{Inside}
use Rattle.naming.specs.Table.{entry_in, hash_from, hash_of, name_in, names_in, link_in, Table}
use Rattle.naming.proofs.Names.{among_none}
use Rattle.naming.proofs.Entries.{last_or_before, names_counted, name_at, names_same}

-- a name with the hash h, put into a table
module _ {text : List ℕ} {entries : List Entry} {buckets : List ℕ} {n : ℕ} (table : Table text entries buckets n)
    (room : n < 5462) (at end : ℕ) {h : ℕ} (is : h ≡ hash_of (part_of_lem text at end)) (small : h < 1024) where
  abbrev entry : Entry
  entry = record { at = at; end = end; before = get_or buckets h 0 }

  abbrev more : List Entry
  more = set entries n entry

  abbrev lasts : List ℕ
  lasts = set buckets h (n + 1)

  new_is : entry_in more n ≡ entry
  new_is = get_or-set_same entries n entry _ (omega (arith, table.long_entries))

  kept : (i : ℕ) → i < n → entry_in more i ≡ entry_in entries i
  kept i l = get_or-set_other entries n i entry _ (λ e. absurd (omega arith))

  name_new : name_in text more n ≡ part_of_lem text at end
  name_new = rw new_is

  name_kept : (i : ℕ) → i < n → name_in text more i ≡ name_in text entries i
  name_kept i l = rw (kept i l)

  link_new : link_in more n ≡ get_or buckets h 0
  link_new = ap (λ (e : Entry). e.before) new_is

  link_kept : (i : ℕ) → i < n → link_in more i ≡ link_in entries i
  link_kept i l = ap (λ (e : Entry). e.before) (kept i l)

  last_new : get_or lasts h 0 ≡ n + 1
  last_new = get_or-set_same buckets h (n + 1) 0 (omega (arith, table.long_buckets))

  last_kept : (g : ℕ) → (g ≡ h → ⊥) → get_or lasts g 0 ≡ get_or buckets g 0
  last_kept g other = get_or-set_other buckets h g (n + 1) 0 other

  pub names_added : names_in text more (n + 1) ≡ names_in text entries n ++ (part_of_lem text at end ∷ [])
  unfolding names_in
  names_added =
      rw (add-one n) (ap₂ (λ names m. names ++ (m ∷ [])) (names_same text more entries n name_kept) name_new)

  hash_kept : (i : ℕ) → i < n → hash_of (name_in text more i) ≡ hash_of (name_in text entries i)
  hash_kept i l = ap (hash_from 0) (name_kept i l)

  hash_new : hash_of (name_in text more n) ≡ h
  hash_new = ap (hash_from 0) name_new ∙ sym is

  -- a law of all buckets, by that of the name and any other
  by_bucket : (P : ℕ → Type 0) (g : ℕ) → (g ≡ h → P (n + 1)) → P (get_or buckets g 0) → P (get_or lasts g 0)
  by_bucket P g here there =
      cases (eqb g h) (λ e. let q = eqb-true g h e in rw (q, last_new) (here q))
      (λ e. rw (last_kept g (eqb-false g h e)) there)

  module _ (inside : Inside text at end) (new : is_among_lem (names_in text entries n) (part_of_lem text at end) ≡ false) where
    distinct_new : (i : ℕ) → i < n → same_name (name_in text entries i) (part_of_lem text at end) ≡ false
    distinct_new i l =
        rw (sym (name_at text entries n i l))
        (among_none (names_in text entries n) (part_of_lem text at end) new i (rw names_counted l))

    pub table_added : Table text more lasts (n + 1)
    table_added = record {
      few = omega arith;
      long_entries = rw length-set table.long_entries;
      long_buckets = rw length-set table.long_buckets;
      inside = λ i l. last_or_before i n (omega arith) (λ e. rw (e, new_is) inside) (λ p. rw (kept i p) (table.inside i p));
      distinct = λ i j l m. last_or_before j n (omega arith)
          (λ e. rw e (ap₂ same_name (name_kept i (omega arith)) name_new ∙ distinct_new i (omega arith)))
          (λ p. ap₂ same_name (name_kept i (omega arith)) (name_kept j p) ∙ table.distinct i j l p);
      last = λ g s. by_bucket (λ m. m ≤ n + 1) g (λ q. omega arith) (omega (arith, table.last g s));
      last_hash = λ g k s. by_bucket (λ m. m ≡ suc k → hash_of (name_in text more k) ≡ g) g
          (λ q e. let same : k ≡ n = omega arith in rw same (hash_new ∙ sym q))
          (λ e. hash_kept k (omega (arith, table.last g s)) ∙ table.last_hash g k s e);
      last_reaches = λ j l. last_or_before j n (omega arith) (λ e. rw (e, hash_new, last_new) (omega arith))
          (λ p. rw (hash_kept j p)
          (by_bucket (λ m. j < m) (hash_of (name_in text entries j)) (λ q. omega arith) (table.last_reaches j p)));
      link = λ i l. last_or_before i n (omega arith) (λ e. rw (e, link_new) (table.last h small))
          (λ p. rw (link_kept i p) (table.link i p));
      link_hash = λ i k l e. last_or_before i n (omega arith)
          (λ q. let to : get_or buckets h 0 ≡ suc k = sym link_new ∙ rw q at e in
          rw q (hash_kept k (omega (arith, table.last h small)) ∙ table.last_hash h k small to ∙ sym hash_new))
          (λ p. let to : link_in entries i ≡ suc k = sym (link_kept i p) ∙ e in
          hash_kept k (omega (arith, table.link i p)) ∙ table.link_hash i k p to ∙ sym (hash_kept i p));
      link_reaches = λ i j l m e. last_or_before i n (omega arith)
          (λ q. rw (q, link_new, sym hash_new ∙ rw q at e ∙ hash_kept j (omega arith))
          (table.last_reaches j (omega arith)))
          (λ p. rw (link_kept i p)
          (table.link_reaches i j l p (sym (hash_kept i p) ∙ e ∙ hash_kept j (omega arith))));
    }
