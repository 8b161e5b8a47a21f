-- A table of names is empty where its buckets are 0. Assumes nothing.
use Rattle.grammar.proofs.Basics.{List, ℕ, arith, replicate}
use lib.ListN.{length-replicate, get_or-replicate}
use Rattle.naming.specs.declared.table.Entry.{Entry}
use Rattle.naming.specs.Table.{Table}

pub empty_table : (text : List ℕ) (e : Entry) → Table text (replicate 5462 e) (replicate 1024 0) 0
empty_table text e =
    record {
      few = omega arith;
      long_entries = length-replicate {A = Entry} 5462 e;
      long_buckets = length-replicate {A = ℕ} 1024 0;
      inside = λ i l. absurd (omega arith);
      distinct = λ i j l h. absurd (omega arith);
      last = λ h l. omega (arith, get_or-replicate {A = ℕ} 1024 h 0 0 l);
      last_hash = λ h k l e. absurd (omega (arith, get_or-replicate {A = ℕ} 1024 h 0 0 l));
      last_reaches = λ j l. absurd (omega arith);
      link = λ i l. absurd (omega arith);
      link_hash = λ i k l e. absurd (omega arith);
      link_reaches = λ i j l h e. absurd (omega arith);
    }
