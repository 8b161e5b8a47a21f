-- `fresh::names`: a long record names its head and what its body holds. Assumes nothing.
use Rattle.grammar.proofs.Basics.{◌≡◌, sym, true, Bool, List, ℕ, eqb, ne_eqb}
use Rattle.std.specs.List.{list_any}
use Rattle.long_jobs.specs.Dialect.{is_long_lem, head_of, body_of}
use Rattle.long_jobs.specs.Fresh.{holds, names}
use Rattle.long_jobs.proofs.Tests.{held}
use Rattle.binarize.proofs.fresh.names.Goals as goal

by_the_body : (bytes body : List ℕ) (v : ℕ) (ok : Bool) → is_long_lem bytes ≡ true → (head_of bytes ≡ v → ⊥)
    → body ≡ body_of bytes → ok ≡ list_any (λ x. eqb x v) body → ok ≡ names bytes v
unfolding names holds
by_the_body bytes body v ok long n is e = rw (e, held body v, long, ne_eqb (head_of bytes) v n, is)

pub returns-else-bytes-v : goal.returns-else-bytes-v
returns-else-bytes-v c =
    record {
      says =
          by_the_body _ _ _ _ (sym c.if-is_long.ensures.says) c.if-bytes-v.false c.body.ensures.body
          c.contains.ensures.value;
    }
